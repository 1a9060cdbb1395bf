use Rattle.std.proofs.Common.{◌∙◌, false, nat_lt, sym, ap}
use Rattle.std.specs.Option.{option_map_or}
use Rattle.rule_book.specs.PlayerFigures.{position_in}
use Rattle.entry_windows.proofs.Better.{past_told}
use Rattle.entry_windows.proofs.rows.is_past.Goals as goal

pub returns-in-Some : goal.returns-in-Some
returns-in-Some g c = λ h stands.
    let gw = c.args.gameweek in
    let told = past_told h c.first.result gw (c.first.ensures.history (position_in c.args.seen.now.facts.players) h stands) in
    (λ i. nat_lt (c.get.ensures.value i) (c.get-in-Some.ensures.value i))
    ∙ sym (ap (λ o. option_map_or (λ f. nat_lt f gw) o false) c.in-Some.is) ∙ told

pub returns-in-None : goal.returns-in-None
returns-in-None g c = λ h stands.
    let gw = c.args.gameweek in
    let told = past_told h c.first.result gw (c.first.ensures.history (position_in c.args.seen.now.facts.players) h stands) in
    sym (ap (λ o. option_map_or (λ f. nat_lt f gw) o false) c.in-None.is) ∙ told
