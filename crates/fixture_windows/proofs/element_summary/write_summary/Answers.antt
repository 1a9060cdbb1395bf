use Rattle.std.proofs.Common.{◌≡◌, ◌≤◌, ◌∙◌, ◌+◌, ap, subst}
use Rattle.json_members.specs.Tokens.{tokens_of}
use Rattle.json_members.proofs.AppendLemmas.{one, then}
use Rattle.rule_book.specs.Calendar.{CalendarFacts}
use Rattle.season_views.proofs.Written.{retold}
use Rattle.season_book.specs.FixturesWindow.{by_kickoff}
use Rattle.fixture_windows.proofs.SummaryFacts.{reads_in, summary_by}
use Rattle.fixture_windows.proofs.element_summary.write_summary.Goals as goal

pub returns-clause-value : goal.returns-clause-value
returns-clause-value g c =
    let facts = c.args.seen.now.facts in
    let fixtures : c.fixtures.result.now ≡ facts.calendar.fixtures = c.fixtures.ensures ∙ ap (λ (calendar : CalendarFacts). calendar.fixtures) c.calendar-2.ensures in
    let order : c.in_ok-order.order.items ≡ by_kickoff facts.calendar.fixtures = c.in_ok-order.ensures ∙ ap by_kickoff fixtures in
    let coming : c.deref.result.now ≡ by_kickoff facts.calendar.fixtures = c.deref.ensures.value ∙ order in
    let behind : c.deref-2.result.now ≡ by_kickoff facts.calendar.fixtures = c.deref-2.ensures.value ∙ order in
    retold (λ i. tokens_of (summary_by facts c.args.player.now (coming i) (behind i)))
    (then (one c.in_ok-begin_object.ensures) (then (one c.in_ok-key.ensures) (then c.in_ok-write_coming.ensures (then (one c.in_ok-key-2.ensures) (then c.in_ok-write_history.ensures.value
    (then c.in_ok-write_no_list.ensures (one c.end_object.ensures)))))))

pub returns-clause-cost : goal.returns-clause-cost
returns-clause-cost g c =
    let facts = c.args.seen.now.facts in
    let fixtures : c.fixtures.result.now ≡ facts.calendar.fixtures = c.fixtures.ensures ∙ ap (λ (calendar : CalendarFacts). calendar.fixtures) c.calendar-2.ensures in
    let behind : c.deref-2.result.now ≡ by_kickoff facts.calendar.fixtures = c.deref-2.ensures.value ∙ c.in_ok-order.ensures ∙ ap by_kickoff fixtures in
    subst (λ n. c.write_history.new.steps ≤ c.args.steps.now + n) (reads_in facts c.args.player.now.id c.deref-2.result.now behind) c.write_history.ensures.cost

pub returns-in_err-write_history-clause-cost : goal.returns-in_err-write_history-clause-cost
returns-in_err-write_history-clause-cost g c =
    let facts = c.args.seen.now.facts in
    let fixtures : c.fixtures.result.now ≡ facts.calendar.fixtures = c.fixtures.ensures ∙ ap (λ (calendar : CalendarFacts). calendar.fixtures) c.calendar-2.ensures in
    let behind : c.deref-2.result.now ≡ by_kickoff facts.calendar.fixtures = c.deref-2.ensures.value ∙ c.in_ok-order.ensures ∙ ap by_kickoff fixtures in
    subst (λ n. c.write_history.new.steps ≤ c.args.steps.now + n) (reads_in facts c.args.player.now.id c.deref-2.result.now behind) c.write_history.ensures.cost

pub returns-in_err-write_no_list-clause-cost : goal.returns-in_err-write_no_list-clause-cost
returns-in_err-write_no_list-clause-cost g c =
    let facts = c.args.seen.now.facts in
    let fixtures : c.fixtures.result.now ≡ facts.calendar.fixtures = c.fixtures.ensures ∙ ap (λ (calendar : CalendarFacts). calendar.fixtures) c.calendar-2.ensures in
    let behind : c.deref-2.result.now ≡ by_kickoff facts.calendar.fixtures = c.deref-2.ensures.value ∙ c.in_ok-order.ensures ∙ ap by_kickoff fixtures in
    subst (λ n. c.write_history.new.steps ≤ c.args.steps.now + n) (reads_in facts c.args.player.now.id c.deref-2.result.now behind) c.write_history.ensures.cost
