-- What a command does not touch it tells as before, and what follows for the ranges of values.
use Rattle.std.proofs.Common.{◌≡◌, ◌||◌, ℕ, Bool, true, false, List, [], ◌∷◌, Option, Some, None, arith, refl, sym, ap, subst, ◌∙◌, true≢false, inl, inr}
use Rattle.std.specs.Prelude.{Result, Ok, Err}
use Rattle.std.proofs.lemmas.Bool.Decides.{nat_tests}
use Rattle.std.proofs.lemmas.Option.{none-some, same_Some}
use Rattle.std.specs.Option.{option_and_then, option_map}
use Rattle.fpl_base.specs.Keeping.{Map, is_same_key}
use Rattle.fpl_base.specs.declared.kinds.Caller.{Caller}
use Rattle.fpl_base.specs.declared.records.RecordKey.{RecordKey}
use Rattle.fpl_base.specs.declared.rule.Rule.{Rule}
use Rattle.season_book.specs.Book.{Book, Facts, empty_book, last_number}
use Rattle.season_book.specs.Verdict.{Outcome, Verdict, accepted, fresh_verdict, locked_at, number_refusal, pass, ruled, settled, unless_misnumbered}
use Rattle.season_book.specs.declared.answer.Answer.{Answer}
use Rattle.season_book.specs.declared.command.Command.{Command}
use Rattle.season_book.specs.declared.request.Request.TheVariants as request
use Rattle.season_records.specs.Items.{body_of}
use Rattle.season_records.specs.Keys.{key_of, slot_of}
use Rattle.season_records.specs.Ranges.{IsItem}
use Rattle.season_records.specs.declared.slot.Slot.{Slot}
use Rattle.season_records.specs.declared.slot.Slot.TheVariants as slot
use Rattle.season_records.proofs.KeyLaws.{own_slot}
use Rattle.season_records.specs.Keeping.{IsInTime}
use Rattle.season_records.specs.Records.{told, told_in}
use Rattle.season_records.specs.Told.{TellsItem}
use Rattle.season_records.specs.Touched.{locked_slots, touched}
use Rattle.season_records.proofs.BookFacts.{facts_kept}
use Rattle.season_records.proofs.Kept.{accepted_keeps}
use Rattle.season_records.proofs.Slots.{empty_tells_nothing}
use Rattle.season_records.specs.Staying.{EmptyTellsItems, ItemsAmong, ItemsOfAmong, ItemsStay, LocksStay, LooksTellItems, RestsTellItems, TellsTheRest, ToldIsItem, UnaskedStay, UntouchedStay, VerdictsTellItems, is_among}

-- What stays.

pub untouched_stay : UntouchedStay
untouched_stay = accepted_keeps

-- a moment changes nothing but how many gameweeks are locked
facts_locked : {Y : Type 0} (look : Facts → Option Y) (now : ℕ) (some : Option Facts) → ((facts : Facts) → look facts ≡ look (locked_at now facts))
    → option_and_then look some ≡ option_and_then look (option_map (locked_at now) some)
facts_locked look now None same = refl
facts_locked look now (Some facts) same = same facts

lock_tells : (now : ℕ) (facts : Facts) (s : Slot) → is_among locked_slots s ≡ false → told_in facts s ≡ told_in (locked_at now facts) s
lock_tells now facts slot.Season apart = absurd (true≢false apart)
lock_tells now facts s apart = refl

pub locks_stay : LocksStay
locks_stay book now s apart =
    facts_kept book (pass book now) s (facts_locked (λ facts. told_in facts s) now book.facts (λ facts. lock_tells now facts s apart)) refl refl refl refl

all_stay : (slots : List Slot) (book behind : Book) → behind ≡ book → TellsTheRest slots book behind
all_stay slots book behind is s apart = ap (λ b. told b s) (sym is)

module _ (operator : List ℕ) (book : Book) (caller : Caller) (now number : ℕ) (command : Command) (in_time : IsInTime book caller command) where
  settled_stay : (due : Result Outcome Answer) → ruled operator book caller now command ≡ due
      → TellsTheRest (touched book caller command) book (settled book caller number command due).book
  settled_stay (Err refused) is = λ s apart. refl
  settled_stay (Ok outcome) is = untouched_stay operator book caller now number command outcome in_time is

  numbered_stay : (broken : Option Rule) (verdict : Verdict) → TellsTheRest (touched book caller command) book verdict.book
      → TellsTheRest (touched book caller command) book (unless_misnumbered broken book verdict).book
  numbered_stay (Some broken) verdict stay = λ s apart. refl
  numbered_stay None verdict stay = stay

  fresh_stay : TellsTheRest (touched book caller command) book (fresh_verdict operator book caller now number command).book
  fresh_stay =
      numbered_stay (number_refusal (last_number book caller) number) (settled book caller number command (ruled operator book caller now command))
      (settled_stay (ruled operator book caller now command) refl)

pub unasked_stay : UnaskedStay
unasked_stay operator book caller now (request.View view) verdict in_time is = all_stay [] book verdict.book (ap (λ (v : Verdict). v.book) is)
unasked_stay operator book caller now (request.Command number command) verdict in_time (inl (made, again, is)) =
    all_stay (touched book caller command) book verdict.book (ap (λ (v : Verdict). v.book) is)
unasked_stay operator book caller now (request.Command number command) verdict in_time (inr (fresh, is)) =
    subst (TellsTheRest (touched book caller command) book) (sym (ap (λ (v : Verdict). v.book) is)) (fresh_stay operator book caller now number command in_time)

-- Slots with the same key are the same.

same_parts : (k m : RecordKey) → k.kind ≡ m.kind → k.a ≡ m.a → k.b ≡ m.b → k.c ≡ m.c → k ≡ m
same_parts k m kind a b c i = record { kind = kind i; a = a i; b = b i; c = c i }

same_key : (m k : RecordKey) → is_same_key m k ≡ true → k ≡ m
same_key m k is =
    same_parts k m (grind (arith, nat_tests, is)) (grind (arith, nat_tests, is)) (grind (arith, nat_tests, is)) (grind (arith, nat_tests, is))

same_slot : (t s : Slot) → is_same_key (key_of t) (key_of s) ≡ true → t ≡ s
same_slot t s is = same_Some t s (sym (own_slot t) ∙ sym (ap slot_of (same_key (key_of t) (key_of s) is)) ∙ own_slot s)

own_key : (k : RecordKey) → is_same_key k k ≡ true
own_key k = grind (arith, nat_tests)

-- Slots that are among some.

pub told_is_item : ToldIsItem
told_is_item book s None is item i at = absurd (none-some i (sym is ∙ at))
told_is_item book s (Some j) is item i at = subst IsItem (same_Some j i (sym is ∙ at)) item

pub looks_tell_items : LooksTellItems
looks_tell_items look [] book same each = tt
looks_tell_items look (s ∷ slots) book same each = (told_is_item book s (look s) (sym (same s)) each.0, looks_tell_items look slots book same each.1)

pub items_among : ItemsAmong
items_among [] book each s among = absurd (true≢false (sym among))
items_among (t ∷ slots) book each s among = by (is_same_key (key_of t) (key_of s)) refl (items_among slots book each.1 s)
  where
    by : (b : Bool) → is_same_key (key_of t) (key_of s) ≡ b → (is_among slots s ≡ true → TellsItem book s) → TellsItem book s
    by true is more = subst (TellsItem book) (same_slot t s is) each.0
    by false is more = more (sym (ap (λ b. b || is_among slots s) is) ∙ among)

pub items_of_among : ItemsOfAmong
items_of_among [] book tells = tt
items_of_among (t ∷ slots) book tells =
    (tells t (ap (λ b. b || is_among slots t) (own_key (key_of t))), items_of_among slots book (λ s among. tells s (later (is_same_key (key_of t) (key_of s)) (is_among slots s) among)))
  where
    later : (a b : Bool) → b ≡ true → (a || b) ≡ true
    later true b is = refl
    later false b is = is

pub rests_tell_items : RestsTellItems
rests_tell_items slots book behind rest items each s = by (is_among slots s) refl
  where
    by : (b : Bool) → is_among slots s ≡ b → TellsItem behind s
    by true is = items_among slots behind each s is
    by false is = λ i at. items s i (rest s is ∙ at)

pub items_stay : ItemsStay
items_stay operator book caller now number command outcome in_time is items each =
    rests_tell_items (touched book caller command) book (accepted caller number command outcome)
    (untouched_stay operator book caller now number command outcome in_time is) items each

pub verdicts_tell_items : VerdictsTellItems
verdicts_tell_items operator book caller now asked verdict in_time is items each =
    rests_tell_items _ book verdict.book (unasked_stay operator book caller now asked verdict in_time is) items each

pub empty_tells_items : EmptyTellsItems
empty_tells_items s i at =
    absurd (none-some (body_of i)
    (sym (ap (λ (m : Map). m (key_of s)) empty_tells_nothing) ∙ ap (λ o. option_map body_of (option_and_then (told empty_book) o)) (own_slot s) ∙ ap (option_map body_of) at))
