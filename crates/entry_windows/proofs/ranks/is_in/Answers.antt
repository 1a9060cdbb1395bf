use Rattle.std.proofs.Common.{◌+◌, false, nat_le, sym, ap, ◌∙◌}
use Rattle.std.specs.Option.{option_map_or}
use Rattle.rule_book.specs.PlayerFigures.{position_in}
use Rattle.season_views.proofs.Scores.{begun_told}
use Rattle.entry_windows.proofs.ranks.is_in.Goals as goal

pub returns-in-Some : goal.returns-in-Some
returns-in-Some g c = λ h stands.
    let passed = c.args.passed in
    let told = begun_told h c.first.result (passed + 1) (c.first.ensures.history (position_in c.args.seen.now.facts.players) h stands) in
    ap (λ f. nat_le f (passed + 1)) c.get.ensures.value
    ∙ sym (ap (λ o. option_map_or (λ f. nat_le f (passed + 1)) o false) c.in-Some.is) ∙ told

pub returns-in-None : goal.returns-in-None
returns-in-None g c = λ h stands.
    let passed = c.args.passed in
    let told = begun_told h c.first.result (passed + 1) (c.first.ensures.history (position_in c.args.seen.now.facts.players) h stands) in
    sym (ap (λ o. option_map_or (λ f. nat_le f (passed + 1)) o false) c.in-None.is) ∙ told
