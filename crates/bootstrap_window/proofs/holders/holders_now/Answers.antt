use Rattle.std.proofs.Common.{rules, ◌≡◌, ◌≤◌, ◌<◌, ◌+◌, ◌∙◌, ◌==◌, ℕ, List, [], length, take, false, arith, ap, subst, sym, if◌then◌else◌}
use Rattle.std.specs.Prelude.{IfSome, filter}
use Rattle.std.proofs.lemmas.Bool.Decides.{nat_tests}
use Rattle.rule_book.specs.Calendar.{CalendarFacts}
use Rattle.season_book.specs.Book.{EntryFacts}
use Rattle.season_book.specs.Windows.{numbered}
use Rattle.season_views.proofs.Numbered.{as_many, entry_numbered}
use Rattle.season_book.specs.EntryTotals.{entries_in, is_in}
use Rattle.bootstrap_window.specs.Tables.{AreHeld}
use Rattle.bootstrap_window.proofs.Rows.{all_numbered, kept_push, numbered_get}
use Rattle.bootstrap_window.proofs.holders.holders_now.Goals as goal

pub loop-place-preserved : goal.loop-place-preserved
loop-place-preserved g c =
    let seen = c.args.seen.now in
    let facts = seen.facts in
    let place = c.loop-place.place in
    let id = c.unwrap-entry.result in
    let gw = c.in-Some.gameweek in
    let next : id ≡ place + 1 = subst (λ o. IfSome o (λ n. n ≡ place + 1)) c.unwrap-entry.ensures c.new-in-loop-place.ensures.value in
    let number : 1 + place ≡ id = omega (arith, next) in
    let below : place < length seen.managers.managers = omega (arith, c.loop-place-test.true, c.entries-place-end.ensures) in
    record {
      held = λ entries are.
          let there = entry_numbered facts.players seen.managers.managers entries place id are below number in
          let at = numbered_get entries place id there.0 there.1 number in
          let before : List (ℕ × EntryFacts) = filter (λ (row : ℕ × EntryFacts). is_in row.1 gw) (take place (numbered entries)) in
          subst (λ (rows : List (ℕ × EntryFacts)). AreHeld facts gw rows c.count_entry.new.holders)
          (sym (kept_push (λ (row : ℕ × EntryFacts). is_in row.1 gw) (numbered entries) place (id, there.0) at))
          (c.in_ok-count_entry.ensures.value entries are there.0 there.2 before (c.loop-place.invariant.held entries are));
      few = λ p. let more = c.in_ok-count_entry.ensures.few p in let had = c.loop-place.invariant.few p in omega (arith, more, had);
      entries = let more = c.in_ok-count_entry.ensures.entries in let had = c.loop-place.invariant.entries in omega (arith, more, had);
      cost = let one = c.in_ok-count_entry.ensures.cost in let had = c.loop-place.invariant.cost in omega (arith, one, had);
    }

none_locked : (n : ℕ) → 1 ≤ n → (n == 0) ≡ false
none_locked n one = grind (arith, nat_tests, one)

pub returns-clause-value : goal.returns-clause-value
returns-clause-value g c = λ entries are.
    let seen = c.args.seen.now in
    let facts = seen.facts in
    let locked = facts.calendar.locked in
    let gw = c.in-Some.gameweek in
    let place = c.loop-place.place in
    let same : c.locked.result ≡ locked = c.locked.ensures.value ∙ ap (λ (those : CalendarFacts). those.locked) c.calendar.ensures in
    let is : gw ≡ locked = subst (λ o. IfSome o (λ n. n ≡ c.locked.result)) c.in-Some.is c.new-2.ensures.value ∙ same in
    let one : 1 ≤ gw = search rules in
    let long = as_many facts.players seen.managers.managers entries are in
    let past : length entries ≤ place = omega (arith, long, c.loop-place-test.false, c.entries-place-end.ensures) in
    let of_rows : ℕ → List (ℕ × EntryFacts) → List (ℕ × EntryFacts) = λ n rows. filter (λ (row : ℕ × EntryFacts). is_in row.1 n) rows in
    let all : of_rows gw (take place (numbered entries)) ≡ (if locked == 0 then [] else entries_in entries locked) =
    ap (of_rows gw) (all_numbered entries place past) ∙ ap (λ n. of_rows n (numbered entries)) is
    ∙ sym (ap (λ b. if b then [] else entries_in entries locked) (none_locked locked (subst (λ n. 1 ≤ n) is one))) in
    subst (λ (rows : List (ℕ × EntryFacts)). AreHeld facts locked rows c.loop-place.holders) all
    (subst (λ n. AreHeld facts n (of_rows gw (take place (numbered entries))) c.loop-place.holders) is (c.loop-place.invariant.held entries are))
