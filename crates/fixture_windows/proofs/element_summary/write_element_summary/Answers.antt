use Rattle.std.proofs.Common.{◌≡◌, ◌≤◌, ◌∙◌, ◌+◌, Ok, Option, Some, ap, option_copied, refl, subst, sym, true}
use Rattle.std.specs.Option.{option_map}
use Rattle.rule_book.specs.declared.player.Player.{Player}
use Rattle.rule_book.specs.Players.{player_of}
use Rattle.season_views.specs.Seen.{WritesShown}
use Rattle.season_views.proofs.Found.{player_has_id}
use Rattle.season_book.specs.ElementSummary.{summary_data}
use Rattle.season_views.specs.ElementSummaryReads.{element_summary_reads}
use Rattle.fixture_windows.proofs.element_summary.write_element_summary.Goals as goal

pub returns-clause-value : goal.returns-clause-value
returns-clause-value g c = λ entries are.
    let facts = c.args.seen.now.facts in
    let there = c.in-Some.there.now in
    let found : player_of facts.players c.args.player ≡ Some there = sym c.player.ensures ∙ ap option_copied c.in-Some.is in
    let wrote = c.in_ok-write_summary.ensures.value in
    subst (λ (o : Option Player). WritesShown (option_map (summary_data facts) o) (Ok true) c.args.out.now c.write_summary.new.out) (sym found) (refl, wrote.tokens, wrote.before)

pub returns-clause-cost : goal.returns-clause-cost
returns-clause-cost g c =
    let facts = c.args.seen.now.facts in
    let there = c.in-Some.there.now in
    let found : player_of facts.players c.args.player ≡ Some there = sym c.player.ensures ∙ ap option_copied c.in-Some.is in
    subst (λ p. c.write_summary.new.steps ≤ c.args.steps.now + element_summary_reads facts p) (player_has_id facts.players c.args.player there found) c.write_summary.ensures.cost

pub returns-in_err-write_summary-clause-cost : goal.returns-in_err-write_summary-clause-cost
returns-in_err-write_summary-clause-cost g c =
    let facts = c.args.seen.now.facts in
    let there = c.in-Some.there.now in
    let found : player_of facts.players c.args.player ≡ Some there = sym c.player.ensures ∙ ap option_copied c.in-Some.is in
    subst (λ p. c.write_summary.new.steps ≤ c.args.steps.now + element_summary_reads facts p) (player_has_id facts.players c.args.player there found) c.write_summary.ensures.cost
