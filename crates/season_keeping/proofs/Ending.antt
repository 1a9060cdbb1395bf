-- What is answered in a book in which the moment's gameweeks are locked, and in the one before.
use Rattle.std.proofs.Common.{◌≡◌, ◌∙◌, ◌⊎◌, ◌≤◌, ◌+◌, ℕ, List, [], ◌∷◌, Option, Some, None, Ok, Err, OnOk, Result, arith, ap, inl, inr, refl, subst, sym}
use Rattle.std.proofs.lemmas.Bool.Decides.{nat_tests}
use Rattle.fpl_base.specs.Causes.{Rose}
use Rattle.fpl_base.specs.Keeping.{HasKeeperCause, Map}
use Rattle.fpl_base.specs.declared.kinds.Caller.{Caller}
use Rattle.fpl_base.specs.declared.outside.KeeperFault.{KeeperFault}
use Rattle.fpl_base.specs.declared.outside.KeeperFault.TheVariants as fault
use Rattle.fpl_base.specs.declared.rule.Rule.{Rule}
use Rattle.rule_book.specs.ById.{at_id, placed_at}
use Rattle.rule_book.proofs.AtId.{placed_same}
use Rattle.season_book.specs.Book.{Book, Last, caller_number, last_number}
use Rattle.season_book.specs.Doing.{IsGrant, IsGrantedIn, IsOutLate, IsShown, IsStoreless, MayAnswerIn}
use Rattle.season_book.specs.Hosts.{number_in}
use Rattle.season_book.specs.Verdict.{Failures, IsRepeat, IsVerdictIn, MayAnswer, Outcome, Verdict, accepted, fresh_verdict, number_refusal, pass, ruled, settled, unless_misnumbered, view_answer}
use Rattle.season_book.specs.declared.answer.Answer.{Answer}
use Rattle.season_book.specs.declared.answer.Answer.TheVariants as answer
use Rattle.season_book.specs.declared.command.Command.{Command}
use Rattle.season_book.specs.declared.made.Made.{Made}
use Rattle.season_book.specs.declared.request.Request.{Request}
use Rattle.season_book.specs.declared.request.Request.TheVariants as request
use Rattle.season_book.specs.declared.request.View.{View}
use Rattle.season_keeping.specs.Answering.{Fails, IsCaused, LeadsOn, MayEnd, WouldAct, WouldChange, answer_of_fault}
use Rattle.season_keeping.specs.Housed.{Housed}

-- Numbers.

one_same : (k : ℕ) (x : Last) → at_id ((k, x) ∷ []) k ≡ Some x
one_same k x = grind (arith, nat_tests)

number_same : (lasts : List (ℕ × Last)) (k : ℕ) (x : Last) → number_in (at_id (placed_at lasts k ((k, x) ∷ [])) k) ≡ x.number
number_same lasts k x = ap number_in (placed_same lasts ((k, x) ∷ []) k ∙ one_same k x)

next_of : (last number : ℕ) → number_refusal last number ≡ None → number ≡ last + 1
next_of last number none = grind (arith, nat_tests, none)

is_fewer : {X : Type 0} (last number : ℕ) → number ≡ last + 1 → last ≡ number → X
is_fewer last number next same = absurd (omega (arith, next, same))

-- an accepted command gives its caller's last one another number
accepted_acts : (book : Book) (caller : Caller) (number : ℕ) (command : Command) (outcome : Outcome)
    → number_refusal (last_number book caller) number ≡ None → (accepted caller number command outcome).lasts ≡ book.lasts → ⊥
accepted_acts book caller number command outcome none same =
    is_fewer (last_number book caller) number (next_of (last_number book caller) number none)
    (ap (λ (lasts : List (ℕ × Last)). number_in (at_id lasts (caller_number caller))) (sym same)
    ∙ number_same outcome.book.lasts (caller_number caller) (record { number = number; command = command; made = outcome.made }))

no_repeat : (book : Book) (caller : Caller) (number : ℕ) (command : Command) → number_refusal (last_number book caller) number ≡ None
    → (made : Made) → IsRepeat book caller number command made → ⊥
no_repeat book caller number command none made repeat =
    is_fewer (last_number book caller) number (next_of (last_number book caller) number none) (ap number_in repeat)

module _ (operator : List ℕ) (book : Book) (caller : Caller) (now number : ℕ) (command : Command) (outcome : Outcome)
    (none : number_refusal (last_number book caller) number ≡ None) (is_ruled : ruled operator book caller now command ≡ Ok outcome) where
  fresh_is : fresh_verdict operator book caller now number command ≡ record { answer = answer.Done number outcome.made; book = accepted caller number command outcome }
  fresh_is =
      ap (λ (broken : Option Rule). unless_misnumbered broken book (settled book caller number command (ruled operator book caller now command))) none
      ∙ ap (settled book caller number command) is_ruled

  pub verdict_of : IsVerdictIn operator book caller now (request.Command number command) (record { answer = answer.Done number outcome.made; book = accepted caller number command outcome })
  verdict_of = inr (no_repeat book caller number command none, sym fresh_is)

  -- every verdict on it acts
  pub acts_of : WouldAct operator book caller now (request.Command number command)
  acts_of verdict (inl (made, repeat, is)) same = no_repeat book caller number command none made repeat
  acts_of verdict (inr (fresh, is)) same =
      accepted_acts book caller number command outcome none (sym (ap (λ (v : Verdict). v.book.lasts) (is ∙ fresh_is)) ∙ same)

  -- and refuses and repeats nothing
  pub granted_of : IsGrantedIn operator book caller now (request.Command number command)
  granted_of = (no_repeat book caller number command none, by)
    where
      by : (verdict : Verdict) → IsVerdictIn operator book caller now (request.Command number command) verdict → IsGrant verdict.answer
      by verdict (inl (made, repeat, is)) = absurd (no_repeat book caller number command none made repeat)
      by verdict (inr (fresh, is)) = subst (λ (v : Verdict). IsGrant v.answer) (sym (is ∙ fresh_is)) tt

-- a verdict leaves the book, or acts
abbrev RestsOrActs : Book → Verdict → Type 0
RestsOrActs book verdict = (verdict.book ≡ book) ⊎ (verdict.book.lasts ≡ book.lasts → ⊥)

settled_rests : (book : Book) (caller : Caller) (number : ℕ) (command : Command) (ruled : Result Outcome Answer)
    → number_refusal (last_number book caller) number ≡ None → RestsOrActs book (settled book caller number command ruled)
settled_rests book caller number command (Err refused) none = inl refl
settled_rests book caller number command (Ok outcome) none = inr (accepted_acts book caller number command outcome none)

fresh_rests : (operator : List ℕ) (book : Book) (caller : Caller) (now number : ℕ) (command : Command) (broken : Option Rule)
    → number_refusal (last_number book caller) number ≡ broken
    → RestsOrActs book (unless_misnumbered broken book (settled book caller number command (ruled operator book caller now command)))
fresh_rests operator book caller now number command (Some broken) is = inl refl
fresh_rests operator book caller now number command None is = settled_rests book caller number command (ruled operator book caller now command) is

rests_or_acts : (operator : List ℕ) (book : Book) (caller : Caller) (now : ℕ) (asked : Request) (verdict : Verdict)
    → IsVerdictIn operator book caller now asked verdict → RestsOrActs book verdict
rests_or_acts operator book caller now (request.View view) verdict is = inl (ap (λ (v : Verdict). v.book) is)
rests_or_acts operator book caller now (request.Command number command) verdict (inl (made, repeat, is)) = inl (ap (λ (v : Verdict). v.book) is)
rests_or_acts operator book caller now (request.Command number command) verdict (inr (fresh, is)) =
    subst (RestsOrActs book) (sym is) (fresh_rests operator book caller now number command (number_refusal (last_number book caller) number) refl)

-- where the moment locks gameweeks, every verdict leaves another book
pub change_of_lock : (operator : List ℕ) (book : Book) (caller : Caller) (now : ℕ) (asked : Request)
    → (pass book now ≡ book → ⊥) → WouldChange operator book caller now asked
change_of_lock operator book caller now asked locks verdict is same = either (rests_or_acts operator (pass book now) caller now asked verdict is)
  where
    either : RestsOrActs (pass book now) verdict → ⊥
    either (inl rests) = locks (sym rests ∙ same)
    either (inr acts) = acts (ap (λ (b : Book). b.lasts) same)

pub change_of_act : (operator : List ℕ) (book : Book) (caller : Caller) (now : ℕ) (asked : Request)
    → WouldAct operator (pass book now) caller now asked → WouldChange operator book caller now asked
change_of_act operator book caller now asked acts verdict is same = acts verdict is (ap (λ (b : Book). b.lasts) same)

-- Answers.

-- what holds where a call went well
pub ok_is : {T E P : Type 0} (result : Result T E) (value : T) → result ≡ Ok value → OnOk result P → P
ok_is {T = T} {E = E} {P = P} result value is holds = subst (λ (r : Result T E). OnOk r P) is holds

pub fails_by : {T : Type 0} (result : Result T KeeperFault) (why : KeeperFault) (failed fails : ℕ) → result ≡ Err why
    → HasKeeperCause failed fails result → Fails (record { before = failed; behind = fails }) (answer_of_fault why)
fails_by result fault.Failed failed fails is cause = inr (refl, cause.failed is)
fails_by result fault.Memory failed fails is cause = inl refl

-- an answer that speaks of no store is caused where the keeper's count stays
pub caused_storeless : (failures : Failures) (reply : Answer) → IsStoreless reply → failures.behind ≡ failures.before → IsCaused failures reply
caused_storeless failures (answer.Done number made) is stays = stays
caused_storeless failures (answer.Shown shown) is stays = stays
caused_storeless failures (answer.Rule rule) is stays = stays
caused_storeless failures answer.Unknown is stays = stays
caused_storeless failures answer.Keeper is stays = absurd is
caused_storeless failures (answer.Damaged key) is stays = absurd is
caused_storeless failures answer.Memory is stays = stays

pub caused_fault : {T : Type 0} (result : Result T KeeperFault) (why : KeeperFault) (failed fails : ℕ) → result ≡ Err why
    → HasKeeperCause failed fails result → IsCaused (record { before = failed; behind = fails }) (answer_of_fault why)
caused_fault result fault.Failed failed fails is cause = cause.failed is
caused_fault result fault.Memory failed fails is cause = cause.memory is

-- where a request is granted, want of memory may be answered
pub late_fault : (operator : List ℕ) (book : Book) (caller : Caller) (now : ℕ) (asked : Request) (why : KeeperFault)
    → IsGrantedIn operator book caller now asked → IsOutLate operator book caller now asked (answer_of_fault why)
late_fault operator book caller now asked fault.Failed granted = tt
late_fault operator book caller now asked fault.Memory granted = granted

-- a count that rose behind some calls rose over all of them
rose_over : (first middle last : ℕ) → first ≤ middle → Rose middle last → Rose first last
rose_over first middle last less rose = omega (arith, less, rose)

fails_over : (first middle last : ℕ) (reply : Answer) → first ≤ middle → Fails (record { before = middle; behind = last }) reply
    → Fails (record { before = first; behind = last }) reply
fails_over first middle last reply less (inl memory) = inl memory
fails_over first middle last reply less (inr (keeper, rose)) = inr (keeper, rose_over first middle last less rose)

-- what ends in the book with the moment's locks may be answered in the book before them
pub may_of_end : (operator : List ℕ) (first middle last : ℕ) (book : Book) (caller : Caller) (now : ℕ) (request : Request) (reply : Answer) (left : Book)
    → first ≤ middle → MayEnd operator (record { before = middle; behind = last }) (pass book now) caller now request reply left
    → MayAnswer operator (record { before = first; behind = last }) book caller now request reply left
may_of_end operator first middle last book caller now request reply left less (inl verdict) = inl verdict
may_of_end operator first middle last book caller now request reply left less (inr (fails, inl same)) =
    inr (fails_over first middle last reply less fails, inr (inl same))
may_of_end operator first middle last book caller now request reply left less (inr (fails, inr due)) =
    inr (fails_over first middle last reply less fails, inr (inr due))

-- so may a fault of the lock's commit
pub may_of_lock : (operator : List ℕ) (failures : Failures) (book : Book) (caller : Caller) (now : ℕ) (request : Request) (why : KeeperFault) (left : Book)
    → Fails failures (answer_of_fault why) → (left ≡ book) ⊎ (left ≡ pass book now)
    → MayAnswer operator failures book caller now request (answer_of_fault why) left
may_of_lock operator failures book caller now request why left fails (inl same) = inr (fails, inl same)
may_of_lock operator failures book caller now request why left fails (inr locked) = inr (fails, inr (inl locked))

-- what the house answered
pub end_of_may : (operator : List ℕ) (failures : Failures) (book : Book) (caller : Caller) (now : ℕ) (request : Request) (reply : Answer) (after : Book)
    → MayAnswerIn operator book caller now request reply after → MayEnd operator failures book caller now request reply after
end_of_may operator failures book caller now request reply after (inl verdict) = inl verdict
end_of_may operator failures book caller now request reply after (inr (memory, same)) = inr (inl memory, inl same)

-- what is left where the commit of what was answered did not go well
pub end_of_fault : (operator : List ℕ) (failures : Failures) (book : Book) (caller : Caller) (now : ℕ) (request : Request) (reply : Answer) (after left : Book) (why : KeeperFault)
    → Fails failures (answer_of_fault why) → MayAnswerIn operator book caller now request reply after
    → (left ≡ book) ⊎ (left ≡ after)
    → MayEnd operator failures book caller now request (answer_of_fault why) left
end_of_fault operator failures book caller now request reply after left why fails may (inl same) = inr (fails, inl same)
end_of_fault operator failures book caller now request reply after left why fails (inr (memory, same)) (inr is) = inr (fails, inl (is ∙ same))
end_of_fault operator failures book caller now request reply after left why fails (inl verdict) (inr is) =
    inr (fails, inr (reply, subst (λ (b : Book). IsVerdictIn operator book caller now request (record { answer = reply; book = b })) (sym is) verdict))

-- One thing leads to another.

pub leads_map : (K : Type 0) (tells serves : K → Type 0) (holds passes : K → Map → Type 0) (before after : K) (old new : Housed) (book : Book) (leads follows : Book → Type 0)
    → ((left : Book) → leads left → follows left) → LeadsOn tells serves holds passes before after old new book leads → LeadsOn tells serves holds passes before after old new book follows
leads_map K tells serves holds passes before after old new book leads follows how l = record {
  by_rows = (l.by_rows.0, l.by_rows.1, how l.by_rows.0 l.by_rows.2);
  by_records = λ tell_on serve backs. let led = l.by_records tell_on serve backs in (led.0, led.1, how led.0 led.2);
}

-- a view may end as it is shown
pub end_of_view : (operator : List ℕ) (failures : Failures) (book : Book) (caller : Caller) (now : ℕ) (view : View) (reply : Answer)
    → IsShown (view_answer book caller view) reply → MayEnd operator failures book caller now (request.View view) reply book
end_of_view operator failures book caller now view (answer.Done number made) is = inl (ap (λ (a : Answer). record { answer = a; book = book }) is)
end_of_view operator failures book caller now view (answer.Shown shown) is = inl (ap (λ (a : Answer). record { answer = a; book = book }) is)
end_of_view operator failures book caller now view (answer.Rule rule) is = inl (ap (λ (a : Answer). record { answer = a; book = book }) is)
end_of_view operator failures book caller now view answer.Unknown is = inl (ap (λ (a : Answer). record { answer = a; book = book }) is)
end_of_view operator failures book caller now view answer.Keeper is = absurd is
end_of_view operator failures book caller now view (answer.Damaged key) is = absurd is
end_of_view operator failures book caller now view answer.Memory is = inr (inl refl, inl refl)

-- the same by the operator's key, which stays
pub may_behind : (operator own : List ℕ) (first middle last : ℕ) (book : Book) (caller : Caller) (now : ℕ) (request : Request) (reply : Answer) → own ≡ operator → first ≤ middle
    → (left : Book) → MayEnd own (record { before = middle; behind = last }) (pass book now) caller now request reply left
    → MayAnswer operator (record { before = first; behind = last }) book caller now request reply left
may_behind operator own first middle last book caller now request reply same less left end =
    subst (λ (key : List ℕ). MayAnswer key (record { before = first; behind = last }) book caller now request reply left) same
    (may_of_end own first middle last book caller now request reply left less end)
