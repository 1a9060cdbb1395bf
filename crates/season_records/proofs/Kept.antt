-- The records of the book behind a command, and behind a moment's locks.
use Rattle.std.proofs.Common.{◌≡◌, ℕ, false, List, [], Option, Some, None, refl, sym, ap, subst, true≢false, inl, inr}
use Rattle.std.specs.Prelude.{Result, Ok, Err}
use Rattle.std.specs.Option.{option_map, option_and_then}
use Rattle.fpl_base.specs.declared.kinds.Caller.{Caller}
use Rattle.fpl_base.specs.declared.rule.Rule.{Rule}
use Rattle.rule_book.specs.Calendar.{after_pass}
use Rattle.season_book.specs.Book.{Book, Facts, caller_number, last_number}
use Rattle.season_book.specs.declared.command.Command.{Command}
use Rattle.season_book.specs.declared.command.Command.TheVariants as command
use Rattle.season_book.specs.Verdict.{Outcome, Verdict, accepted, fresh_verdict, locked_at, number_refusal, pass, ruled, settled, unless_misnumbered}
use Rattle.season_book.specs.declared.answer.Answer.{Answer}
use Rattle.season_book.specs.declared.request.Request.TheVariants as request
use Rattle.season_records.specs.Keys.{key_of}
use Rattle.season_records.specs.declared.slot.Slot.{Slot}
use Rattle.season_records.specs.declared.slot.Slot.TheVariants as slot
use Rattle.season_records.specs.Keeping.{CommandsKeepRecords, IsInTime, Leads, LocksKeepRecords, NoLockLeavesBook, RestsKeepRecords, VerdictsKeepRecords}
use Rattle.season_records.specs.Records.{told, told_in}
use Rattle.season_records.specs.Touched.{locked_slots, touched, touched_by}
use Rattle.season_records.proofs.BookFacts.{Keeps, Leaves, facts_kept, facts_leave, with_last_keeps}
use Rattle.season_records.proofs.Deeds.{deeds_leave}
use Rattle.season_records.proofs.LeagueFacts.{amend_leaves, create_leaves, cup_leaves, draw_leaves, join_leaves, key_leaves, rekey_leaves}
use Rattle.season_records.proofs.Puts.{puts, touches}

-- each command
module _ (operator : List ℕ) (book : Book) (caller : Caller) (now : ℕ) where
  abbrev e : ℕ
  e = caller_number caller

  pub leaves : (command : Command) → IsInTime book caller command → Leaves (touched_by book e command) book (ruled operator book caller now command)
  leaves (command.AmendPlayer p name position) early = amend_leaves book e p name position
  leaves (command.Key key name) early = key_leaves operator book e key name
  leaves (command.Rekey entry key name) early = rekey_leaves operator book e entry key name
  leaves (command.Squad players captain vice) early = deeds_leave book caller (command.Squad players captain vice) refl (early refl)
  leaves (command.Transfers swaps) early = deeds_leave book caller (command.Transfers swaps) refl (early refl)
  leaves (command.Lineup players captain vice) early = deeds_leave book caller (command.Lineup players captain vice) refl (early refl)
  leaves (command.Chip chip) early = deeds_leave book caller (command.Chip chip) refl (early refl)
  leaves command.CancelChip early = deeds_leave book caller command.CancelChip refl (early refl)
  leaves (command.League kind name code start) early = create_leaves book e kind name code start
  leaves (command.Join l code) early = join_leaves book e l code
  leaves (command.Draw l order) early = draw_leaves book e l order
  leaves (command.Cup start slots coins) early = cup_leaves book e start slots coins
  leaves command early = facts_leave book e now command

pub accepted_keeps : (operator : List ℕ) (book : Book) (caller : Caller) (now number : ℕ) (command : Command) (outcome : Outcome)
    → IsInTime book caller command → ruled operator book caller now command ≡ Ok outcome
    → Keeps (touched book caller command) book (accepted caller number command outcome)
accepted_keeps operator book caller now number command outcome early is =
    with_last_keeps book caller number command outcome (touched_by book (caller_number caller) command)
    (subst (Leaves (touched_by book (caller_number caller) command) book) is (leaves operator book caller now command early))

pub commands_keep_records : CommandsKeepRecords
commands_keep_records operator book caller now number command outcome early is =
    puts (told book) (told (accepted caller number command outcome)) (touched book caller command)
    (accepted_keeps operator book caller now number command outcome early is)

-- Each verdict.

pub rests_keep_records : RestsKeepRecords
rests_keep_records slots book = puts (told book) (told book) slots (λ s apart. refl)

stays_in : (slots : List Slot) (book behind : Book) → behind ≡ book → Leads slots book behind
stays_in slots book behind is = subst (Leads slots book) (sym is) (rests_keep_records slots book)

module _ (operator : List ℕ) (book : Book) (caller : Caller) (now number : ℕ) (command : Command) (in_time : IsInTime book caller command) where
  settled_leads : (due : Result Outcome Answer) → ruled operator book caller now command ≡ due → Leads (touched book caller command) book (settled book caller number command due).book
  settled_leads (Err refused) is = rests_keep_records (touched book caller command) book
  settled_leads (Ok outcome) is = commands_keep_records operator book caller now number command outcome in_time is

  numbered_leads : (broken : Option Rule) (verdict : Verdict) → Leads (touched book caller command) book verdict.book
      → Leads (touched book caller command) book (unless_misnumbered broken book verdict).book
  numbered_leads (Some broken) verdict leads = rests_keep_records (touched book caller command) book
  numbered_leads None verdict leads = leads

  fresh_leads : Leads (touched book caller command) book (fresh_verdict operator book caller now number command).book
  fresh_leads =
      numbered_leads (number_refusal (last_number book caller) number) (settled book caller number command (ruled operator book caller now command))
      (settled_leads (ruled operator book caller now command) refl)

pub verdicts_keep_records : VerdictsKeepRecords
verdicts_keep_records operator book caller now (request.View view) verdict in_time is = stays_in [] book verdict.book (ap (λ (v : Verdict). v.book) is)
verdicts_keep_records operator book caller now (request.Command number command) verdict in_time (inl (made, again, is)) =
    stays_in (touched book caller command) book verdict.book (ap (λ (v : Verdict). v.book) is)
verdicts_keep_records operator book caller now (request.Command number command) verdict in_time (inr (fresh, is)) =
    subst (Leads (touched book caller command) book) (sym (ap (λ (v : Verdict). v.book) is)) (fresh_leads operator book caller now number command in_time)

-- The moment's locks.

facts_locked : {Y : Type 0} (look : Facts → Option Y) (now : ℕ) (some : Option Facts) → ((facts : Facts) → look facts ≡ look (locked_at now facts))
    → option_and_then look some ≡ option_and_then look (option_map (locked_at now) some)
facts_locked look now None kept = refl
facts_locked look now (Some facts) kept = kept facts

lock_tells : (now : ℕ) (facts : Facts) (s : Slot) → touches locked_slots (key_of s) ≡ false → told_in facts s ≡ told_in (locked_at now facts) s
lock_tells now facts slot.Season apart = absurd (true≢false apart)
lock_tells now facts s apart = refl

pub lock_keeps : (book : Book) (now : ℕ) → Keeps locked_slots book (pass book now)
lock_keeps book now s apart =
    facts_kept book (pass book now) s (facts_locked (λ facts. told_in facts s) now book.facts (λ facts. lock_tells now facts s apart)) refl refl refl refl

pub locks_keep_records : LocksKeepRecords
locks_keep_records book now = puts (told book) (told (pass book now)) locked_slots (lock_keeps book now)

-- where no gameweek is locked that was open, the book stays
stays : (now : ℕ) (some : Option Facts) → ((facts : Facts) → some ≡ Some facts → (after_pass facts.calendar now).locked ≡ facts.calendar.locked)
    → option_map (locked_at now) some ≡ some
stays now None same = refl
stays now (Some facts) same =
    let calendar : after_pass facts.calendar now ≡ facts.calendar = λ i. record facts.calendar { locked = same facts refl i } in
    ap (λ c. Some (record facts { calendar = c })) calendar

pub no_lock_leaves_book : NoLockLeavesBook
no_lock_leaves_book book now same = ap (λ some. record book { facts = some }) (stays now book.facts same)
