use Rattle.std.proofs.Common.{map, refl}
use Rattle.rule_book.specs.declared.player.Player.{Player}
use Rattle.player_market.specs.Places.{StandsAt}
use Rattle.player_market.proofs.PlaceLemmas.{change_nobody}
use Rattle.player_market.proofs.RowLemmas.{price_in_row, change_in_row, are_players_written}
use Rattle.player_market.proofs.players.Players.set_gone.Goals as goal

pub invariant_of-self : goal.invariant_of-self
invariant_of-self c =
    let stands : StandsAt (map (λ row. row.value) c.self.inside.rows.items) c.args.player c.in-Ok.place = rw c.self.view_is c.in-Ok.ensures.found in
    let price = price_in_row (λ row. row.value) c.self.inside.rows.items c.args.player c.in-Ok.place c.index_mut.result.now c.deref_mut.result.now c.self.invariant stands c.index_mut.ensures.value c.deref_mut.ensures.value in
    are_players_written (λ row. row.value) c.self.inside.rows.items c.args.player c.in-Ok.place c.index_mut.result.now c.deref_mut.result.now c.self.invariant stands c.index_mut.ensures.value c.deref_mut.ensures.value _ refl price

-- the change is written at the place of the player
pub returns-in-Ok : goal.returns-in-Ok
returns-in-Ok c =
    rw (← c.self.view_is) (change_in_row (λ row. row.value) c.self.inside.rows.items c.args.player c.in-Ok.place c.index_mut.result.now c.deref_mut.result.now c.self.invariant (rw c.self.view_is c.in-Ok.ensures.found) c.index_mut.ensures.value c.deref_mut.ensures.value (λ (p : Player). record p { gone = c.args.gone }) _ refl)

-- the player is not there
pub returns-in_default : goal.returns-in_default
returns-in_default c = change_nobody (λ (p : Player). record p { gone = c.args.gone }) c.args.self.now c.args.player c.in_default.field-0 c.in_default.ensures.absent
