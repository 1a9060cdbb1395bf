use Rattle.std.proofs.Common.{◌≡◌, ◌≤◌, ◌+◌, ◌∙◌, ℕ, Some, length, arith, ap, refl, rules, subst, sym, if◌then◌else◌}
use Rattle.std.specs.Prelude.{IfSome}
use Rattle.std.specs.List.{slice_get}
use Rattle.std.proofs.lemmas.List.FromFn.{length-enumerate_from}
use Rattle.std.proofs.lemmas.List.Sums.{sum_by-take-le}
use Rattle.json_members.proofs.ListLemmas.{numbered_more, rest_of}
use Rattle.rule_book.specs.Calendar.{CalendarFacts, is_locked}
use Rattle.season_book.specs.Windows.{numbered}
use Rattle.season_views.proofs.Written.{ended}
use Rattle.season_book.specs.Events.{event_row, scores_in}
use Rattle.season_views.proofs.Lists.{sum_next}
use Rattle.bootstrap_window.proofs.Rows.{numbered_get}
use Rattle.bootstrap_window.proofs.events.write_events.Goals as goal

pub loop-place-preserved : goal.loop-place-preserved
loop-place-preserved g c =
    let seen = c.args.seen.now in
    let facts = seen.facts in
    let n = length seen.managers.managers in
    let deadlines = facts.calendar.deadlines in
    let place = c.loop-place.place in
    let id = c.unwrap-gameweek.result in
    let deadline = c.deadline_at-deadline.result in
    let next : id ≡ place + 1 = subst (λ o. IfSome o (λ m. m ≡ place + 1)) c.unwrap-gameweek.ensures c.new.ensures.value in
    let number : 1 + place ≡ id = omega (arith, next) in
    let at : slice_get deadlines place ≡ Some deadline = ap (λ (those : CalendarFacts). slice_get those.deadlines place) (sym c.calendar-in-loop-place.ensures) ∙ c.deadline_at-deadline.ensures in
    record {
      whole = λ entries are.
          let told = c.event_scores-scores.ensures.value entries are in
          let so = c.loop-place.invariant.whole entries are in
          let wrote = c.in_ok-write_event.ensures (scores_in facts entries id) told in
          (numbered_more (event_row facts entries) deadlines place id deadline at number wrote so.0, wrote.before ∙ so.1);
      cost =
          let more = sum_next (λ (row : ℕ × ℕ). if is_locked facts.calendar row.0 then n else 0) (numbered deadlines) place (id, deadline) (numbered_get deadlines place id deadline at number) in
          let had = c.loop-place.invariant.cost in
          let own = c.event_scores-scores.ensures.cost in
          omega (arith, more, had, own);
    }

pub returns-in_err-write_event-clause-value : goal.returns-in_err-write_event-clause-value
returns-in_err-write_event-clause-value g c = λ entries are.
    let told = c.event_scores-scores.ensures.value entries are in
    let so = c.loop-place.invariant.whole entries are in
    let wrote = c.in_err-write_event.ensures (scores_in c.args.seen.now.facts entries c.unwrap-gameweek.result) told in
    record { tokens = search rules; before = wrote.before ∙ so.1 }

pub returns-in_err-write_event-clause-cost : goal.returns-in_err-write_event-clause-cost
returns-in_err-write_event-clause-cost g c =
    let seen = c.args.seen.now in
    let facts = seen.facts in
    let n = length seen.managers.managers in
    let deadlines = facts.calendar.deadlines in
    let place = c.loop-place.place in
    let id = c.unwrap-gameweek.result in
    let deadline = c.deadline_at-deadline.result in
    let next : id ≡ place + 1 = subst (λ o. IfSome o (λ m. m ≡ place + 1)) c.unwrap-gameweek.ensures c.new.ensures.value in
    let number : 1 + place ≡ id = omega (arith, next) in
    let at : slice_get deadlines place ≡ Some deadline = ap (λ (those : CalendarFacts). slice_get those.deadlines place) (sym c.calendar-in-loop-place.ensures) ∙ c.deadline_at-deadline.ensures in
    let more = sum_next (λ (row : ℕ × ℕ). if is_locked facts.calendar row.0 then n else 0) (numbered deadlines) place (id, deadline) (numbered_get deadlines place id deadline at number) in
    let all = sum_by-take-le (λ (row : ℕ × ℕ). if is_locked facts.calendar row.0 then n else 0) (numbered deadlines) (place + 1) in
    let had = c.loop-place.invariant.cost in
    let own = c.event_scores-scores.ensures.cost in
    omega (arith, more, all, had, own)

pub returns-clause-value : goal.returns-clause-value
returns-clause-value g c = λ entries are.
    let facts = c.args.seen.now.facts in
    let deadlines = facts.calendar.deadlines in
    let place = c.loop-place.place in
    let past : length (numbered deadlines) ≤ place = omega (arith, length-enumerate_from 1 deadlines, c.loop-place-test.false, c.gameweeks-place-end.ensures.value, ap (λ (those : CalendarFacts). length those.deadlines) c.calendar-2.ensures) in
    ended (rest_of (event_row facts entries)) (numbered deadlines) place refl past c.end_array.ensures (c.loop-place.invariant.whole entries are).0 (c.loop-place.invariant.whole entries are).1

pub returns-clause-cost : goal.returns-clause-cost
returns-clause-cost g c =
    let seen = c.args.seen.now in
    let facts = seen.facts in
    let all = sum_by-take-le (λ (row : ℕ × ℕ). if is_locked facts.calendar row.0 then length seen.managers.managers else 0) (numbered facts.calendar.deadlines) c.loop-place.place in
    let had = c.loop-place.invariant.cost in
    omega (arith, all, had)
