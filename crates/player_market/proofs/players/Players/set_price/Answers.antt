use Rattle.std.proofs.Common.{refl, rules}
use Rattle.rule_book.specs.declared.player.Player.{Player}
use Rattle.player_market.proofs.PlaceLemmas.{change_nobody}
use Rattle.player_market.proofs.RowLemmas.{change_in_row, are_players_written}
use Rattle.player_market.proofs.players.Players.set_price.Goals as goal
use Rattle.player_market.proofs.players.Players.set_price.Goals.{in-Ok, in_default}

pub invariant_of-self : goal.invariant_of-self
invariant_of-self c =
    are_players_written (λ row. row.value) c.self.inside.rows.items c.args.player c.in-Ok.place c.index_mut.result.now c.deref_mut.result.now c.self.invariant (rw c.self.view_is c.in-Ok.ensures.found) c.index_mut.ensures.value c.deref_mut.ensures.value _ refl (search rules)

-- the change is written at the place of the player, or he is not there
pub returns-clause-ok : goal.returns-clause-ok
returns-clause-ok c = elim c.match-search.branch [
  | in-Ok w ↦ rw (w.self-is, ← c.self.view_is) (change_in_row (λ row. row.value) c.self.inside.rows.items c.args.player w.in-Ok.place w.index_mut.result.now w.deref_mut.result.now c.self.invariant (rw c.self.view_is w.in-Ok.ensures.found) w.index_mut.ensures.value w.deref_mut.ensures.value (λ (p : Player). record p { price = c.args.price }) _ refl)
  | in_default w ↦ rw w.self-is (change_nobody (λ (p : Player). record p { price = c.args.price }) c.args.self.now c.args.player w.in_default.field-0 w.in_default.ensures.absent)
]
