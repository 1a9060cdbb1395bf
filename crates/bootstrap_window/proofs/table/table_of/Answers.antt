use Rattle.std.proofs.Common.{◌≡◌, ◌<◌, ◌≤◌, ◌+◌, ◌∙◌, ℕ, List, Some, map, length, get_or, take, arith, ap, refl, subst, sym}
use Rattle.std.specs.List.{flat_map, slice_get}
use Rattle.std.proofs.lemmas.List.{length-map, take_all}
use Rattle.std.proofs.lemmas.List.Sums.{sum_by-take-le}
use Rattle.std.proofs.lemmas.Option.{slice_get_read}
use Rattle.rule_book.specs.declared.season.Fixture.{Fixture}
use Rattle.rule_book.specs.Calendar.{CalendarFacts, IsCalendar}
use Rattle.rule_book.specs.PlayerFigures.{line_beside}
use Rattle.season_views.specs.BootstrapReads.{fixture_reads}
use Rattle.season_book.specs.Elements.{LineTotals, totals_over}
use Rattle.bootstrap_window.specs.Tables.{AreSmall, told}
use Rattle.season_views.proofs.Lists.{sum_next}
use Rattle.bootstrap_window.proofs.TableFacts.{few_lines, length_taken, lines_more, none_in, none_small}
use Rattle.bootstrap_window.proofs.table.table_of.Goals as goal

pub loop-fixture-init : goal.loop-fixture-init
loop-fixture-init g c = record {
  sums = λ p. ap told (none_in c.new-table.result c.new-table.ensures.empty p);
  small = λ p. subst AreSmall (sym (none_in c.new-table.result c.new-table.ensures.empty p)) none_small;
  cost = omega arith;
}

pub add_fixture-requires-clause-few : goal.add_fixture-requires-clause-few
add_fixture-requires-clause-few g c = λ p.
    let facts = c.args.seen.now.facts in
    let i = c.loop-fixture.fixture-index in
    let lawful : IsCalendar facts.calendar = subst IsCalendar c.calendar.ensures c.gameweeks-count.ensures.lawful in
    let firsts : List Fixture = take i facts.calendar.fixtures in
    let ids : List ℕ = map (λ (x : Fixture). x.id) firsts in
    let same = ap (λ (t : LineTotals). t.lines) (c.loop-fixture.invariant.sums p) in
    let few = few_lines facts.matches p ids in
    let long = length-map firsts (λ (x : Fixture). x.id) in
    let short = length_taken facts.calendar.fixtures i in
    let most = lawful.at_most_380 in
    let all : c.fixtures-fixture-items.result.now ≡ facts.calendar.fixtures = c.fixtures-fixture-items.ensures ∙ ap (λ (those : CalendarFacts). those.fixtures) c.calendar-2.ensures in
    omega (arith, same, few, long, short, most, ap length all, c.loop-fixture-test.true)

pub loop-fixture-preserved : goal.loop-fixture-preserved
loop-fixture-preserved g c =
    let facts = c.args.seen.now.facts in
    let i = c.loop-fixture.fixture-index in
    let all : c.fixtures-fixture-items.result.now ≡ facts.calendar.fixtures = c.fixtures-fixture-items.ensures ∙ ap (λ (those : CalendarFacts). those.fixtures) c.calendar-2.ensures in
    let x = c.fixture-item.result in
    let within : i < length facts.calendar.fixtures = omega (arith, c.loop-fixture-test.true, ap length all) in
    let at : slice_get facts.calendar.fixtures i ≡ Some x = slice_get_read facts.calendar.fixtures (length facts.calendar.fixtures) i x refl within (c.fixture-item.is ∙ ap (λ xs. get_or xs i x) all) in
    record {
      sums = λ p.
          c.in_ok-add_fixture.ensures.value (λ q. flat_map (line_beside facts.matches q) (map (λ (y : Fixture). y.id) (take i facts.calendar.fixtures))) c.loop-fixture.invariant.sums p
          ∙ ap (totals_over facts p) (sym (lines_more facts.matches p facts.calendar.fixtures i x at));
      small = c.in_ok-add_fixture.ensures.small;
      cost = let more = sum_next (fixture_reads facts) facts.calendar.fixtures i x at in
          let had = c.loop-fixture.invariant.cost in
          let own = c.in_ok-add_fixture.ensures.cost in
          omega (arith, more, had, own);
    }

pub returns-in_err-add_fixture-clause-cost : goal.returns-in_err-add_fixture-clause-cost
returns-in_err-add_fixture-clause-cost g c =
    let facts = c.args.seen.now.facts in
    let i = c.loop-fixture.fixture-index in
    let all : c.fixtures-fixture-items.result.now ≡ facts.calendar.fixtures = c.fixtures-fixture-items.ensures ∙ ap (λ (those : CalendarFacts). those.fixtures) c.calendar-2.ensures in
    let x = c.fixture-item.result in
    let within : i < length facts.calendar.fixtures = omega (arith, c.loop-fixture-test.true, ap length all) in
    let at : slice_get facts.calendar.fixtures i ≡ Some x = slice_get_read facts.calendar.fixtures (length facts.calendar.fixtures) i x refl within (c.fixture-item.is ∙ ap (λ xs. get_or xs i x) all) in
    let more = sum_next (fixture_reads facts) facts.calendar.fixtures i x at in
    let most = sum_by-take-le (fixture_reads facts) facts.calendar.fixtures (i + 1) in
    let had = c.loop-fixture.invariant.cost in
    let own = c.add_fixture.ensures.cost in
    omega (arith, more, most, had, own)

pub returns-clause-value : goal.returns-clause-value
returns-clause-value g c = λ p.
    let facts = c.args.seen.now.facts in
    let i = c.loop-fixture.fixture-index in
    let all : c.fixtures-fixture-items.result.now ≡ facts.calendar.fixtures = c.fixtures-fixture-items.ensures ∙ ap (λ (those : CalendarFacts). those.fixtures) c.calendar-2.ensures in
    let past : length facts.calendar.fixtures ≤ i = omega (arith, c.loop-fixture-test.false, ap length all) in
    c.loop-fixture.invariant.sums p ∙ ap (λ xs. totals_over facts p (flat_map (line_beside facts.matches p) (map (λ (y : Fixture). y.id) xs))) (take_all i facts.calendar.fixtures past)
