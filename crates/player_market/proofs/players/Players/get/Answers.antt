use Rattle.player_market.proofs.PlaceLemmas.{player_nowhere}
use Rattle.player_market.proofs.RowLemmas.{player_in_row}
use Rattle.player_market.proofs.players.Players.get.Goals as goal

-- the player stands at the place that was read
pub returns-in-Ok-clause-found : goal.returns-in-Ok-clause-found
returns-in-Ok-clause-found c =
    rw (← c.self.view_is) (player_in_row (λ row. row.value) c.self.inside.rows.items c.args.player c.in-Ok.place c.index.result.now c.deref.result.now c.self.invariant (rw c.self.view_is c.in-Ok.ensures.found) c.index.ensures c.deref.ensures)

-- the player is not there
pub returns-in-Err-clause-found : goal.returns-in-Err-clause-found
returns-in-Err-clause-found c = player_nowhere c.args.self.now c.args.player c.in-Err.field-0 c.in-Err.ensures.absent
