use Rattle.std.proofs.Common.{◌≡◌, ◌≤◌, ◌<◌, ◌+◌, ◌∙◌, [], ℕ, List, length, map, take, nat_le, false, arith, ap, subst, sym, if◌then◌else◌}
use Rattle.std.specs.Prelude.{IfSome, filter}
use Rattle.std.proofs.lemmas.Bool.{le-leb}
use Rattle.std.proofs.lemmas.Bool.Decides.{nat_tests}
use Rattle.rule_book.specs.Calendar.{CalendarFacts}
use Rattle.season_book.specs.Book.{EntryFacts}
use Rattle.season_book.specs.Windows.{numbered}
use Rattle.season_views.proofs.Numbered.{as_many, entry_numbered}
use Rattle.season_book.specs.EntryTotals.{entries_in, gross_by, is_in}
use Rattle.season_book.specs.Events.{Scores}
use Rattle.bootstrap_window.specs.Told.{AreTold}
use Rattle.bootstrap_window.proofs.Rows.{all_numbered, mapped_push, numbered_get}
use Rattle.bootstrap_window.proofs.scores.event_scores.Goals as goal

open_is : (g locked : ℕ) → locked < g → nat_le g locked ≡ false
open_is g locked late = grind (arith, nat_tests, late)

pub returns-then-get-locked-clause-value : goal.returns-then-get-locked-clause-value
returns-then-get-locked-clause-value g c = λ entries are.
    let facts = c.args.seen.now.facts in
    let gw = c.args.gameweek in
    let late : facts.calendar.locked < gw = omega (arith, c.get.ensures.value, c.locked.ensures.value, ap (λ (those : CalendarFacts). those.locked) c.calendar.ensures, c.if-get-locked.true) in
    let all : Scores = map (λ (row : ℕ × EntryFacts). (row.0, gross_by facts row.1.history gw)) (entries_in entries gw) in
    subst (λ (rows : Scores). AreTold rows c.no_scores.result) (sym (ap (λ b. if b then all else []) (open_is gw facts.calendar.locked late))) c.no_scores.ensures.told

pub loop-place-preserved : goal.loop-place-preserved
loop-place-preserved g c =
    let seen = c.args.seen.now in
    let facts = seen.facts in
    let gw = c.args.gameweek in
    let place = c.loop-place.place in
    let id = c.unwrap-entry.result in
    let next : id ≡ place + 1 = subst (λ o. IfSome o (λ n. n ≡ place + 1)) c.unwrap-entry.ensures c.new.ensures.value in
    let number : 1 + place ≡ id = omega (arith, next) in
    let below : place < length seen.managers.managers = omega (arith, c.loop-place-test.true, c.entries-place-end.ensures) in
    record {
      told = λ entries are.
          let there = entry_numbered facts.players seen.managers.managers entries place id are below number in
          let at = numbered_get entries place id there.0 there.1 number in
          let before : Scores = map (λ (row : ℕ × EntryFacts). (row.0, gross_by facts row.1.history gw)) (filter (λ (row : ℕ × EntryFacts). is_in row.1 gw) (take place (numbered entries))) in
          subst (λ (rows : Scores). AreTold rows c.with_entry-scores.result)
          (sym (mapped_push (λ (row : ℕ × EntryFacts). (row.0, gross_by facts row.1.history gw)) (λ (row : ℕ × EntryFacts). is_in row.1 gw) (numbered entries) place (id, there.0) at))
          (c.with_entry-scores.ensures.value entries are there.0 there.2 before (c.loop-place.invariant.told entries are));
      few = let more = c.with_entry-scores.ensures.few in let had = c.loop-place.invariant.few in omega (arith, more, had);
      near = c.with_entry-scores.ensures.near;
      cost = let one = c.with_entry-scores.ensures.cost in let had = c.loop-place.invariant.cost in omega (arith, one, had);
    }

pub returns-clause-value : goal.returns-clause-value
returns-clause-value g c = λ entries are.
    let seen = c.args.seen.now in
    let facts = seen.facts in
    let gw = c.args.gameweek in
    let place = c.loop-place.place in
    let long = as_many facts.players seen.managers.managers entries are in
    let past : length entries ≤ place = omega (arith, long, c.loop-place-test.false, c.entries-place-end.ensures) in
    let locked : gw ≤ facts.calendar.locked = omega (arith, c.get.ensures.value, c.locked.ensures.value, ap (λ (those : CalendarFacts). those.locked) c.calendar.ensures, c.if-get-locked.false) in
    let of_rows : List (ℕ × EntryFacts) → Scores = λ rows. map (λ (row : ℕ × EntryFacts). (row.0, gross_by facts row.1.history gw)) (filter (λ (row : ℕ × EntryFacts). is_in row.1 gw) rows) in
    subst (λ (rows : Scores). AreTold rows c.loop-place.scores)
    (ap of_rows (all_numbered entries place past) ∙ sym (ap (λ b. if b then of_rows (numbered entries) else []) (le-leb gw facts.calendar.locked locked)))
    (c.loop-place.invariant.told entries are)

pub returns-clause-cost : goal.returns-clause-cost
returns-clause-cost g c =
    let seen = c.args.seen.now in
    let facts = seen.facts in
    let gw = c.args.gameweek in
    let locked : gw ≤ facts.calendar.locked = omega (arith, c.get.ensures.value, c.locked.ensures.value, ap (λ (those : CalendarFacts). those.locked) c.calendar.ensures, c.if-get-locked.false) in
    let had = c.loop-place.invariant.cost in
    subst (λ b. c.loop-place.steps ≤ c.args.steps.now + (if b then length seen.managers.managers else 0)) (sym (le-leb gw facts.calendar.locked locked))
    (omega (arith, had, c.entries-place-end.ensures))
