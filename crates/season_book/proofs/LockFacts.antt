-- A command that is accepted locks no further gameweek at its moment.
use Rattle.std.proofs.Common.{◌≡◌, ◌≤◌, ◌-◌, ℕ, zero, suc, Bool, true, false, ◌||◌, cond, if◌then◌else◌, nat_le, List, [], ◌∷◌, Option, Some, None, length, filter, arith, refl, sym, ap, ◌∙◌, subst}
use Rattle.std.specs.Prelude.{Ok, Err, is_some, max, slice_set}
use Rattle.std.specs.Option.{option_map}
use Rattle.std.proofs.lemmas.Bool.Decides.{nat_tests}
use Rattle.std.proofs.lemmas.List.Sums.{length-filter}
use Rattle.fpl_base.specs.declared.rule.Rule.{Rule}
use Rattle.fpl_base.specs.declared.rule.Rule.TheVariants as rule
use Rattle.rule_book.specs.Calendar.{CalendarFacts, deadline_late, deadline_order, deadline_passed, is_locked, passed_deadlines}
use Rattle.rule_book.specs.History.{Event}
use Rattle.rule_book.specs.Refusals.{first_broken}
use Rattle.rule_book.specs.UpTo.{AgreeUpTo, up_to}
use Rattle.season_book.specs.Book.{Facts}
use Rattle.season_book.specs.Commands.{are_there, begun_by, changed_by, refusal_of}
use Rattle.season_book.specs.declared.command.Command.{Command}
use Rattle.season_book.specs.declared.command.Command.TheVariants as command
use Rattle.season_book.specs.Verdict.{judged, locked_at, unless_refused}
use Rattle.season_book.specs.declared.answer.Answer.TheVariants as answer
use Rattle.season_book.specs.Agree.{SameWhereLocked}

at_least : (b : Bool) (d : ℕ) (ds : List ℕ) → length ds ≤ length (cond b (d ∷ ds) ds)
at_least true d ds = omega arith
at_least false d ds = omega arith

in_front : (b : Bool) (d : ℕ) (ds es : List ℕ) → length ds ≤ length es → length (cond b (d ∷ ds) ds) ≤ length (cond b (d ∷ es) es)
in_front true d ds es le = omega arith
in_front false d ds es le = le

fewer_kept : (keep : ℕ → Bool) (ds : List ℕ) (n t : ℕ) → keep t ≡ false → length (filter keep (slice_set ds n t)) ≤ length (filter keep ds)
fewer_kept keep [] n t out = omega arith
fewer_kept keep (d ∷ ds) zero t out = rw out (at_least (keep d) d (filter keep ds))
fewer_kept keep (d ∷ ds) (suc n) t out = in_front (keep d) d (filter keep (slice_set ds n t)) (filter keep ds) (fewer_kept keep ds n t out)

-- a deadline after the moment is not among those that have passed
fewer_passed : (ds : List ℕ) (n t now : ℕ) → nat_le t now ≡ false → passed_deadlines (slice_set ds n t) now ≤ passed_deadlines ds now
fewer_passed ds n t now out =
    subst (λ m. m ≤ passed_deadlines ds now) (length-filter (λ d. nat_le d now) (slice_set ds n t))
    (subst (λ m. length (filter (λ d. nat_le d now) (slice_set ds n t)) ≤ m) (length-filter (λ d. nat_le d now) ds) (fewer_kept (λ d. nat_le d now) ds n t out))

most_stays : (l p q : ℕ) → q ≤ p → max (max l p) q ≡ max l p
most_stays l p q le = grind (arith, nat_tests)

-- the same moment told again locks nothing
pub locks_again : (now : ℕ) (facts : Option Facts) → option_map (locked_at now) (option_map (locked_at now) facts) ≡ option_map (locked_at now) facts
locks_again now None = refl
locks_again now (Some facts) =
    let c = facts.calendar in
    ap (λ k. Some (record facts { calendar = record c { locked = k } })) (most_stays c.locked (passed_deadlines c.deadlines now) (passed_deadlines c.deadlines now) (omega arith))

first_unbroken : (broken : Option Rule) (more : List (Option Rule)) → first_broken (broken ∷ more) ≡ None → broken ≡ None
first_unbroken None more is = refl
first_unbroken (Some rule) more is = cc

not_passed : (locked passed : Bool) (broken : Rule) → (if locked || passed then Some broken else None) ≡ None → passed ≡ false
not_passed true passed broken is = cc
not_passed false true broken is = cc
not_passed false false broken is = refl

granted : (begins there : Bool) (broken : Option Rule) (behind facts : Facts)
    → (if begins then Err (answer.Rule rule.SeasonThere) else if there then unless_refused broken behind else Err answer.Unknown) ≡ Ok facts → (broken ≡ None) × (behind ≡ facts)
granted true there broken behind facts is = cc
granted false false broken behind facts is = cc
granted false true (Some rule) behind facts is = cc
granted false true None behind facts is = (refl, cc)

-- the facts behind a command that nothing refuses have no further lock at its moment
module _ (facts : Facts) (now : ℕ) where
  abbrev c : CalendarFacts
  c = facts.calendar

  abbrev LocksNoMore : Command → Type 0
  LocksNoMore command = (locked_at now (changed_by (locked_at now facts) command)).calendar.locked ≡ (locked_at now facts).calendar.locked

  no_more : (ds : List ℕ) → passed_deadlines ds now ≤ passed_deadlines c.deadlines now
      → max (max c.locked (passed_deadlines c.deadlines now)) (passed_deadlines ds now) ≡ max c.locked (passed_deadlines c.deadlines now)
  no_more ds le = most_stays c.locked (passed_deadlines c.deadlines now) (passed_deadlines ds now) le

  same_deadlines : max (max c.locked (passed_deadlines c.deadlines now)) (passed_deadlines c.deadlines now) ≡ max c.locked (passed_deadlines c.deadlines now)
  same_deadlines = no_more c.deadlines (omega arith)

  later_deadline : (g t : ℕ) → refusal_of (locked_at now facts) now (command.Deadline g t) ≡ None → LocksNoMore (command.Deadline g t)
  later_deadline g t unbroken =
      let c1 = (locked_at now facts).calendar in
      let first = first_unbroken (deadline_passed c1 g t now) (deadline_order c1 g t ∷ deadline_late c1 g t ∷ []) unbroken in
      no_more (slice_set c.deadlines (g - 1) t) (fewer_passed c.deadlines (g - 1) t now (not_passed (is_locked c1 g) (nat_le t now) (rule.DeadlinePassed g) first))

  locks_no_more : (command : Command) → refusal_of (locked_at now facts) now command ≡ None → LocksNoMore command
  locks_no_more (command.Deadline a b) unbroken = later_deadline a b unbroken
  locks_no_more (command.Season a b c d) unbroken = same_deadlines
  locks_no_more (command.Player a b c d e) unbroken = same_deadlines
  locks_no_more (command.Price a b) unbroken = same_deadlines
  locks_no_more (command.AmendPlayer a b c) unbroken = same_deadlines
  locks_no_more (command.Club a b) unbroken = same_deadlines
  locks_no_more (command.Gone a b) unbroken = same_deadlines
  locks_no_more (command.Fixture a b c d e) unbroken = same_deadlines
  locks_no_more (command.Move a b c) unbroken = same_deadlines
  locks_no_more (command.AmendFixture a b c) unbroken = same_deadlines
  locks_no_more (command.Sheet a b c) unbroken = same_deadlines
  locks_no_more (command.Line a b c) unbroken = same_deadlines
  locks_no_more (command.Drop a b) unbroken = same_deadlines
  locks_no_more (command.Finished a b) unbroken = same_deadlines
  locks_no_more (command.Key a b) unbroken = same_deadlines
  locks_no_more (command.Rekey a b c) unbroken = same_deadlines
  locks_no_more (command.Squad a b c) unbroken = same_deadlines
  locks_no_more (command.Transfers a) unbroken = same_deadlines
  locks_no_more (command.Lineup a b c) unbroken = same_deadlines
  locks_no_more (command.Chip a) unbroken = same_deadlines
  locks_no_more command.CancelChip unbroken = same_deadlines
  locks_no_more (command.League a b c d) unbroken = same_deadlines
  locks_no_more (command.Join a b) unbroken = same_deadlines
  locks_no_more (command.Draw a b) unbroken = same_deadlines
  locks_no_more (command.Cup a b c) unbroken = same_deadlines

  pub locks_stay : (command : Command) (behind : Facts) → judged (Some (locked_at now facts)) now command ≡ Ok behind → (locked_at now behind).calendar.locked ≡ (locked_at now facts).calendar.locked
  locks_stay command behind is =
      let f1 = locked_at now facts in
      let g = granted (is_some (begun_by command)) (are_there f1 command) (refusal_of f1 now command) (changed_by f1 command) behind is in
      ap (λ f. (locked_at now f).calendar.locked) (sym g.1) ∙ locks_no_more command g.0

-- histories that are the same where gameweeks are locked are so behind the command; before a season they are the same
pub still_locked : (facts : Option Facts) (now : ℕ) (command : Command) (behind : Facts) → judged (option_map (locked_at now) facts) now command ≡ Ok behind
    → (h h2 : List Event) → SameWhereLocked (option_map (locked_at now) facts) h h2 → SameWhereLocked (Some (locked_at now behind)) h h2
still_locked None now command behind is h h2 same = ap (up_to (locked_at now behind).calendar.locked) same
still_locked (Some facts) now command behind is h h2 same = subst (λ k. AgreeUpTo k h h2) (sym (locks_stay facts now command behind is)) same
