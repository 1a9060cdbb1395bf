use Rattle.std.proofs.Common.{◌≡◌, ◌<◌, ◌≤◌, ◌+◌, ◌∙◌, ◌++◌, ℕ, List, Some, All, length, get_or, arith, ap, refl, subst, sym}
use Rattle.std.specs.List.{flat_map, slice_get}
use Rattle.std.proofs.lemmas.List.{take_all}
use Rattle.std.proofs.lemmas.List.Sums.{sum_by-take-le}
use Rattle.std.proofs.lemmas.Option.{slice_get_read}
use Rattle.rule_book.specs.Calendar.{CalendarFacts, standing}
use Rattle.rule_book.specs.Figures.{IsLine}
use Rattle.live_windows.specs.declared.sums.LiveLine.{LiveLine}
use Rattle.live_windows.specs.Gathered.{sheet_lines, sheet_reads}
use Rattle.season_views.proofs.Lists.{sum_next}
use Rattle.live_windows.proofs.RowsAdded.{flat_next}
use Rattle.live_windows.proofs.gathering.gather.Goals as goal

pub loop-fixture-init : goal.loop-fixture-init
loop-fixture-init g c = record {
  value = c.new-lines.ensures.items;
  ranges = subst (All (λ (own : LiveLine). IsLine own.line)) (sym c.new-lines.ensures.items) (λ k d lt. absurd (omega (arith, lt)));
  cost = omega arith;
}

pub loop-fixture-preserved : goal.loop-fixture-preserved
loop-fixture-preserved g c =
    let facts = c.args.seen.now.facts in
    let i = c.loop-fixture.fixture-index in
    let fixtures : List ℕ = standing facts.calendar c.args.gameweek in
    let all : c.standing-fixture-items.result.now ≡ fixtures = c.standing-fixture-items.ensures.value ∙ ap (λ (those : CalendarFacts). standing those c.args.gameweek) c.calendar.ensures in
    let x = c.fixture-item.result in
    let within : i < length fixtures = omega (arith, c.loop-fixture-test.true, ap length all) in
    let at : slice_get fixtures i ≡ Some x = slice_get_read fixtures (length fixtures) i x refl within (c.fixture-item.is ∙ ap (λ xs. get_or xs i x) all) in
    record {
      value = c.in_ok-add_fixture.ensures.value ∙ ap (λ (ls : List LiveLine). ls ++ sheet_lines facts x) c.loop-fixture.invariant.value ∙ flat_next (sheet_lines facts) fixtures i x at;
      ranges = c.in_ok-add_fixture.ensures.ranges;
      cost = let more = sum_next (sheet_reads facts) fixtures i x at in
          let had = c.loop-fixture.invariant.cost in
          let own = c.in_ok-add_fixture.ensures.cost in
          omega (arith, more, had, own);
    }

pub returns-in_err-add_fixture-clause-cost : goal.returns-in_err-add_fixture-clause-cost
returns-in_err-add_fixture-clause-cost g c =
    let facts = c.args.seen.now.facts in
    let i = c.loop-fixture.fixture-index in
    let fixtures : List ℕ = standing facts.calendar c.args.gameweek in
    let all : c.standing-fixture-items.result.now ≡ fixtures = c.standing-fixture-items.ensures.value ∙ ap (λ (those : CalendarFacts). standing those c.args.gameweek) c.calendar.ensures in
    let x = c.fixture-item.result in
    let within : i < length fixtures = omega (arith, c.loop-fixture-test.true, ap length all) in
    let at : slice_get fixtures i ≡ Some x = slice_get_read fixtures (length fixtures) i x refl within (c.fixture-item.is ∙ ap (λ xs. get_or xs i x) all) in
    let more = sum_next (sheet_reads facts) fixtures i x at in
    let most = sum_by-take-le (sheet_reads facts) fixtures (i + 1) in
    let had = c.loop-fixture.invariant.cost in
    let own = c.add_fixture.ensures.cost in
    omega (arith, more, most, had, own)

pub returns-clause-value : goal.returns-clause-value
returns-clause-value g c =
    let facts = c.args.seen.now.facts in
    let i = c.loop-fixture.fixture-index in
    let fixtures : List ℕ = standing facts.calendar c.args.gameweek in
    let all : c.standing-fixture-items.result.now ≡ fixtures = c.standing-fixture-items.ensures.value ∙ ap (λ (those : CalendarFacts). standing those c.args.gameweek) c.calendar.ensures in
    let past : length fixtures ≤ i = omega (arith, c.loop-fixture-test.false, ap length all) in
    c.loop-fixture.invariant.value ∙ ap (flat_map (sheet_lines facts)) (take_all i fixtures past)

pub returns-clause-cost : goal.returns-clause-cost
returns-clause-cost g c =
    let facts = c.args.seen.now.facts in
    let fixtures : List ℕ = standing facts.calendar c.args.gameweek in
    let most = sum_by-take-le (sheet_reads facts) fixtures c.loop-fixture.fixture-index in
    let had = c.loop-fixture.invariant.cost in
    omega (arith, most, had)
