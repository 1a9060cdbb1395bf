-- What is left of a command that was done in memory and committed, and of one request behind another.
use Rattle.std.proofs.Common.{◌≡◌, ◌∙◌, ◌⊎◌, ◌==◌, ℕ, suc, true, false, List, [], ◌∷◌, length, None, Ok, Result, ap, arith, inl, inr, refl, subst, sym}
use Rattle.std.proofs.lemmas.Bool.Decides.{nat_tests}
use Rattle.fpl_base.specs.Keeping.{Map}
use Rattle.fpl_base.specs.declared.kinds.Caller.{Caller}
use Rattle.fpl_base.specs.declared.outside.KeeperFault.{KeeperFault}
use Rattle.season_records.specs.declared.slot.Slot.{Slot}
use Rattle.season_book.specs.Book.{Book, caller_number, last_number}
use Rattle.season_book.specs.Doing.{IsGrantedIn}
use Rattle.season_book.specs.Verdict.{IsVerdictIn, Outcome, accepted, number_refusal, pass, ruled}
use Rattle.season_book.specs.declared.answer.Answer.{Answer}
use Rattle.season_book.specs.declared.answer.Answer.TheVariants as answer
use Rattle.season_book.specs.declared.command.Command.{Command}
use Rattle.season_book.specs.declared.request.Request.{Request}
use Rattle.season_book.specs.declared.request.Request.TheVariants as request
use Rattle.season_host.specs.Accepted.{Changes, MayEndIn}
use Rattle.season_records.specs.Staying.{ItemsStay, LooksTellItems, TellItems}
use Rattle.season_opening.specs.Opening.{IsKeepable}
use Rattle.season_records.specs.Commits.{HoldsLeft}
use Rattle.season_records.specs.Keeping.{AreEarly, CommandsKeepRecords, Leads, VerdictsAreEarly}
use Rattle.season_records.specs.Records.{records}
use Rattle.season_records.specs.Told.{IsInOrder, TellsItems, VerdictsKeepOrder}
use Rattle.season_records.specs.Touched.{touched}
use Rattle.record_changes.specs.Laws.{RowsTellRecords}
use Rattle.season_running.specs.EntryLaws.{IsOrderlyHost}
use Rattle.season_running.specs.Standing.{Follows, HostRows, StandsIn}
use Rattle.season_keeping.specs.Answering.{Commits, EndsCommit, HoldsKept, LeadsOn, StopsEnding, WouldAct}
use Rattle.season_keeping.specs.Housed.{Backs, Housed}
use Rattle.season_keeping.proofs.Ending.{acts_of, granted_of, leads_map, verdict_of}
use Rattle.season_keeping.proofs.Leading.{commit_leads, commit_stops}

-- Nothing was committed, and the book stays.

module _ (K : Type 0) (tells serves : K → Type 0) (holds passes : K → Map → Type 0) (keeper : K) (old new : Housed) (fresh : old.stale ≡ new.stale)
    (book after : Book) (same : after ≡ book) (stands : StandsIn new.rows after) where
  backs_resting : Backs holds passes keeper old book → Backs holds passes keeper new after
  backs_resting backs = record {
    keepable = subst IsKeepable (sym same) backs.keepable;
    held = subst (λ (b : Book). holds keeper (records b)) (sym same) backs.held;
    stands = λ _. stands;
    alone = λ is x passed. backs.alone (fresh ∙ is) x passed ∙ ap records (sym same);
  }

  pub rest_leads : (leads : Book → Type 0) → leads after → LeadsOn tells serves holds passes keeper keeper old new book leads
  rest_leads leads led = record {
    by_rows = (after, λ _. (stands, λ tell backs. backs_resting backs), led);
    by_records = λ tell serve backs. (after, backs_resting backs, led);
  }

-- a command that touched nothing changed nothing
pub after_rests : (operator : List ℕ) (book : Book) (caller : Caller) (now number : ℕ) (command : Command) (slots : List Slot) (after : Book)
    → Changes operator book caller now number command slots after → slots ≡ [] → after ≡ book
after_rests operator book caller now number command slots after (inl (none, same)) is = same
after_rests operator book caller now number command slots after (inr (outcome, next, is_ruled, done, touches)) is = absurd (some_slot (sym touches ∙ is))
  where
    some_slot : touched book caller command ≡ [] → ⊥
    some_slot e = cc

-- and one that touched something was granted
pub granted_where : (operator : List ℕ) (book : Book) (caller : Caller) (now number : ℕ) (command : Command) (slots : List Slot) (after : Book)
    → Changes operator book caller now number command slots after → (slots ≡ [] → ⊥) → IsGrantedIn operator book caller now (request.Command number command)
granted_where operator book caller now number command slots after (inl (none, same)) some = absurd (some none)
granted_where operator book caller now number command slots after (inr (outcome, next, is_ruled, done, touches)) some =
    granted_of operator book caller now number command outcome next is_ruled

-- A command was accepted, and what it touched was committed.

module _ (keep : CommandsKeepRecords) (early : VerdictsAreEarly) (orders : VerdictsKeepOrder) (items : ItemsStay) (tell : RowsTellRecords) (looks : LooksTellItems)
    (T K : Type 0) (tells serves : K → Type 0) (holds passes : K → Map → Type 0) (before after : K) (old mid new : Housed)
    (operator : List ℕ) (caller : Caller) (now number : ℕ) (command : Command) (slots : List Slot) (reply : Answer)
    (orderly : IsOrderlyHost mid.rows) (some : slots ≡ [] → ⊥) (result : Result T KeeperFault) (commits : Commits tells serves holds passes before after slots mid new result)
    (book behind : Book) (stood : StandsIn mid.rows behind) (may : MayEndIn operator book caller now number command reply slots behind) where
  abbrev asked : Request
  asked = request.Command number command

  abbrev Accepts : Type 0
  Accepts = (outcome : Outcome) × (number_refusal (last_number book caller) number ≡ None) × (ruled operator book caller now command ≡ Ok outcome)
      × (behind ≡ accepted caller number command outcome) × (slots ≡ touched book caller command)

  accepts : Accepts
  accepts = either may.1
    where
      either : Changes operator book caller now number command slots behind → Accepts
      either (inl (none, same)) = absurd (some none)
      either (inr acts) = acts

  abbrev done : Book
  done = accepted caller number command accepts.0

  verdict : IsVerdictIn operator book caller now asked (record { answer = answer.Done number accepts.0.made; book = done })
  verdict = verdict_of operator book caller now number command accepts.0 accepts.1 accepts.2

  pub acts : WouldAct operator book caller now asked
  acts = acts_of operator book caller now number command accepts.0 accepts.1 accepts.2

  leads_slots : IsKeepable book → Leads slots book behind
  leads_slots was =
      subst (λ (s : List Slot). Leads s book behind) (sym accepts.4)
      (subst (λ (b : Book). Leads (touched book caller command) book b) (sym accepts.3)
      (keep operator book caller now number command accepts.0 (λ _. was.early (caller_number caller)) accepts.2))

  items_done : IsKeepable book → TellItems slots behind → TellsItems done
  items_done was tell_on =
      items operator book caller now number command accepts.0 (λ _. was.early (caller_number caller)) accepts.2 was.items
      (subst (λ (s : List Slot). TellItems s done) accepts.4 (subst (λ (b : Book). TellItems slots b) accepts.3 tell_on))

  keepable : IsKeepable book → TellItems slots behind → IsKeepable behind
  keepable was tell_on = record {
    rows = mid.rows;
    stood = stood;
    early = subst AreEarly (sym accepts.3) (early operator book caller now asked _ was.early verdict);
    order = subst IsInOrder (sym accepts.3) (orders operator book caller now asked _ was.order verdict);
    items = subst TellsItems (sym accepts.3) (items_done was tell_on);
  }

  leads : LeadsOn tells serves holds passes before after old new book (EndsCommit result book behind)
  leads = commit_leads T K tells serves holds passes before after slots looks old mid new book behind (tell mid.rows behind orderly stood) leads_slots stood keepable result commits

  pub acted_leads : (follows : Book → Type 0) → ((left : Book) → EndsCommit result book behind left → follows left)
      → LeadsOn tells serves holds passes before after old new book follows
  acted_leads follows how = leads_map K tells serves holds passes before after old new book (EndsCommit result book behind) follows how leads

  pub acted_stops : old.stale ≡ false → StopsEnding operator tells holds passes before after old book caller now asked
  acted_stops fresh tell_on backs x passed = either (commit_stops T K tells serves holds passes before after slots looks old mid new book behind
      (tell mid.rows behind orderly stood) leads_slots stood keepable result commits fresh tell_on backs x passed)
    where
      either : (x ≡ records book) ⊎ ((x ≡ records behind) × IsKeepable behind)
          → (x ≡ records book) ⊎ ((due : Answer) × (left : Book) × IsVerdictIn operator book caller now asked (record { answer = due; book = left }) × IsKeepable left × (x ≡ records left))
      either (inl was) = inl was
      either (inr (is, kept)) = inr (answer.Done number accepts.0.made, done, verdict, subst IsKeepable accepts.3 kept, is ∙ ap records accepts.3)

-- One thing and then another.

module _ (K : Type 0) (tells serves : K → Type 0) (holds passes : K → Map → Type 0) (first middle last : K) (old mid new : Housed) (book between : Book)
    (fresh : mid.stale ≡ false) (told : tells last → tells middle) (served : tells last → serves last → serves middle)
    (one : LeadsOn tells serves holds passes first middle old mid book (λ left. left ≡ between)) where
  pub stands_between : StandsIn mid.rows between
  stands_between = subst (λ (b : Book). StandsIn mid.rows b) one.by_rows.2 (one.by_rows.1 fresh).0

  pub backs_between : tells last → Backs holds passes first old book → Backs holds passes middle mid between
  backs_between tell backs = subst (λ (b : Book). Backs holds passes middle mid b) one.by_rows.2 ((one.by_rows.1 fresh).1 (told tell) backs)

  pub then_leads : (leads follows : Book → Type 0) → ((left : Book) → leads left → follows left)
      → LeadsOn tells serves holds passes middle last mid new between leads → LeadsOn tells serves holds passes first last old new book follows
  then_leads leads follows how two = record {
    by_rows = (
      two.by_rows.0,
      λ is. ((two.by_rows.1 is).0, λ tell backs. (two.by_rows.1 is).1 tell (backs_between tell backs)),
      how two.by_rows.0 two.by_rows.2,
    );
    by_records = λ tell serve backs.
        let here = one.by_records (told tell) (served tell serve) backs in
        let there = two.by_records tell serve (subst (λ (b : Book). Backs holds passes middle mid b) here.2 here.1) in
        (there.0, there.1, how there.0 there.2);
  }

-- Whether something was touched.

some_count : (n : ℕ) → true ≡ (suc n == 0) → ⊥
some_count n is = grind (arith, nat_tests, is)

pub none_of : (slots : List Slot) → true ≡ (length slots == 0) → slots ≡ []
none_of [] is = refl
none_of (slot ∷ slots) is = absurd (some_count (length slots) is)

no_count : (n : ℕ) → false ≡ (n == 0) → n ≡ 0 → ⊥
no_count n is none = grind (arith, nat_tests, is, none)

pub some_of : (slots : List Slot) → false ≡ (length slots == 0) → slots ≡ [] → ⊥
some_of slots is none = no_count (length slots) is (ap (λ (s : List Slot). length s) none)

-- What the house did, by the rows that the host shows.
pub followed : (own rows new : HostRows) (caller : Caller) (now number : ℕ) (command : Command) (reply : Answer) (slots : List Slot) → own ≡ rows
    → Follows own new (λ book after. MayEndIn own.operator book caller now number command reply slots after)
    → Follows rows new (λ book after. MayEndIn rows.operator book caller now number command reply slots after)
followed own rows new caller now number command reply slots is =
    subst (λ (r : HostRows). Follows r new (λ book after. MayEndIn r.operator book caller now number command reply slots after)) is

-- What a stop leaves behind both.

pub kept_of_commit : (operator : List ℕ) (book : Book) (caller : Caller) (now : ℕ) (asked : Request) (x : Map) → IsKeepable book
    → (x ≡ records book) ⊎ ((x ≡ records (pass book now)) × IsKeepable (pass book now)) → HoldsKept operator book caller now asked x
kept_of_commit operator book caller now asked x keepable (inl was) = (book, inl refl, keepable, was)
kept_of_commit operator book caller now asked x keepable (inr (is, kept)) = (pass book now, inr (inl refl), kept, is)

pub kept_of_ending : (operator : List ℕ) (book : Book) (caller : Caller) (now : ℕ) (asked : Request) (x : Map) → IsKeepable (pass book now)
    → (x ≡ records (pass book now))
    ⊎ ((due : Answer) × (left : Book) × IsVerdictIn operator (pass book now) caller now asked (record { answer = due; book = left }) × IsKeepable left × (x ≡ records left))
    → HoldsKept operator book caller now asked x
kept_of_ending operator book caller now asked x keepable (inl was) = (pass book now, inr (inl refl), keepable, was)
kept_of_ending operator book caller now asked x keepable (inr (due, left, verdict, kept, is)) = (left, inr (inr (due, verdict)), kept, is)

-- which are the records of a book that may be left
pub left_of_kept : (operator : List ℕ) (book : Book) (caller : Caller) (now : ℕ) (asked : Request) (x : Map)
    → HoldsKept operator book caller now asked x → HoldsLeft operator book caller now asked x
left_of_kept operator book caller now asked x (left, may, kept, is) = (left, may, is)
