-- The keys of entries differ, also behind a new one and behind another key of an entry.
use Rattle.std.proofs.Common.{◌≡◌, ◌≢◌, ◌+◌, ◌==◌, ℕ, subst, zero, suc, Bool, true, false, not, cond, List, [], ◌∷◌, ◌++◌, Option, Some, None, length, nat_lt, refl, sym, ap, ap₂, length-append, ◌∙◌, inl, inr, arith, slice_get, if◌then◌else◌}
use Rattle.std.specs.Prelude.{Ok, Err, is_some}
use Rattle.std.specs.Option.{option_map}
use Rattle.std.specs.List.{position_from, position_or_len}
use Rattle.std.specs.Str.{bytes_eq}
use Rattle.std.proofs.lemmas.Bool.{cases_Bool, cases_eq, cases_lt, eqb-true, true≢false}
use Rattle.std.proofs.lemmas.Cmp.{nat_list_eq_equiv}
use Rattle.std.proofs.lemmas.Iterator.Adapters.{position_from-zero}
use Rattle.std.proofs.lemmas.Slice.Eq.{bytes_eq-Decides}
use Rattle.std.proofs.lemmas.Bool.Decides.{nat_tests}
use Rattle.std.proofs.lemmas.Option.{none-some, same_Some}
use Rattle.fpl_base.specs.declared.kinds.Caller.{Caller}
use Rattle.fpl_base.specs.declared.kinds.Caller.TheVariants.{Operator, Entry}
use Rattle.fpl_base.specs.declared.rule.Rule.{Rule}
use Rattle.fpl_base.specs.declared.rule.Rule.TheVariants as rule
use Rattle.rule_book.specs.Entries.{entry_in, most_entries}
use Rattle.rule_book.specs.History.{Event}
use Rattle.rule_book.specs.Refusals.{unless}
use Rattle.season_book.specs.Book.{Book, EntryFacts, histories_with}
use Rattle.season_book.specs.Hosts.{caller_with, entry_with, keys_of}
use Rattle.season_book.specs.KeyCommands.{NewKey, entries_rekeyed, is_open_to, rekey_refusal, with_key}
use Rattle.season_book.specs.LeagueCommands.{is_issued}
use Rattle.season_book.specs.Verdict.{Outcome, key_refusal, key_ruled, unless_broken}
use Rattle.season_book.specs.declared.answer.Answer.TheVariants as answer
use Rattle.season_book.specs.declared.made.Made.TheVariants as made
use Rattle.season_records.proofs.Deeds.{entry_kept}
use Rattle.season_records.proofs.Finds.{at_number, more_from, numbered_beside, numbered_changed, numbered_here}
use Rattle.lawful_books.specs.Leagues.{AreLawful, KeysDiffer}
use Rattle.lawful_books.specs.Rekeyed.{ChangesHands, KeysChangeHands}
use Rattle.lawful_books.proofs.Numbers.{found_within}
use Rattle.lawful_books.proofs.Tests.{passed}

module _ (key : List ℕ) where
  abbrev has : List ℕ → Bool
  has other = bytes_eq other key

  -- an entry that has the key is found by it
  found_by_key : (entries : List EntryFacts) (n : ℕ) (x : EntryFacts) → slice_get entries n ≡ Some x → has x.key ≡ true
      → nat_lt (position_or_len has (keys_of entries)) (length (keys_of entries)) ≡ true
  found_by_key [] n x at is = absurd (none-some x at)
  found_by_key (y ∷ ys) zero x at is =
      let own : has y.key ≡ true = ap (λ (e : EntryFacts). has e.key) (same_Some y x at) ∙ is in
      rw own (grind (arith, nat_tests))
  found_by_key (y ∷ ys) (suc n) x at is =
      let more : nat_lt (position_or_len has (keys_of ys)) (length (keys_of ys)) ≡ true = found_by_key ys n x at is in
      elim (cases_Bool (has y.key)) [
        | inl is ↦ rw is (grind (arith, nat_tests))
        | inr other ↦ rw other (grind (arith, nat_tests, more))
      ]

  none_has : (operator : List ℕ) (entries : List EntryFacts) (d : ℕ) (x : EntryFacts) → is_some (caller_with operator (keys_of entries) key) ≡ false
      → entry_in entries d ≡ Some x → has x.key ≡ false
  none_has operator entries zero x none at = absurd (none-some x at)
  none_has operator entries (suc d) x none at = elim (cases_Bool (has x.key)) [
    | inl is ↦ absurd (taken (bytes_eq operator key) (found_by_key entries d x (sym (at_number entries d) ∙ at) is) none)
    | inr other ↦ other
  ]
    where
      taken : (b : Bool) → nat_lt (position_or_len has (keys_of entries)) (length (keys_of entries)) ≡ true
          → is_some (if b then Some Operator else entry_with (keys_of entries) key) ≡ false → ⊥
      taken true there none = cc
      taken false there none =
          absurd (true≢false (sym (ap (λ b. is_some (option_map (λ place. Entry (place + 1)) (cond b (Some (position_or_len has (keys_of entries))) None))) there) ∙ none))

module _ (operator : List ℕ) (entries : List EntryFacts) (key name : List ℕ) where
  abbrev new : EntryFacts
  new = record { key = key; name = name; history = [] }

  pub room_and_new : key_refusal operator entries key ≡ None → (nat_lt (length entries) most_entries ≡ true) × (is_some (caller_with operator (keys_of entries) key) ≡ false)
  room_and_new unbroken =
      let room = passed (nat_lt (length entries) most_entries) rule.EntriesFull _ unbroken in
      let fresh = passed (not (is_some (caller_with operator (keys_of entries) key))) rule.KeyThere [] room.1 in
      (room.0, grind (arith, nat_tests, fresh.0))

  pub keys_more : is_some (caller_with operator (keys_of entries) key) ≡ false → KeysDiffer entries → KeysDiffer (entries ++ new ∷ [])
  keys_more none differ d e x y at also lt =
      elim (cases_lt (length entries) d) [
        | inl behind ↦ absurd (omega (arith, behind, lt, found_within (entries ++ new ∷ []) e y also, length-append {A = EntryFacts} entries (new ∷ [])))
        | inr within ↦
            let old : entry_in entries d ≡ Some x = numbered_beside entries (new ∷ []) d (λ above below. omega (arith, within, above)) ∙ at in
            elim (more_from entries new e y also) [
              | inl older ↦ differ d e x y old older lt
              | inr is ↦ ap (λ (y : EntryFacts). bytes_eq x.key y.key) is ∙ none_has key operator entries d x none old
            ]
      ]

-- The first entry that has a key, from a place on.

record First (key : List ℕ) (entries : List EntryFacts) (from : ℕ) : Type 0 where
  place : ℕ
  first : EntryFacts
  found : position_from (λ other. bytes_eq other key) from (keys_of entries) ≡ Some (from + place)
  there : slice_get entries place ≡ Some first
  has_it : bytes_eq first.key key ≡ true

first_with : (key : List ℕ) (es : List EntryFacts) (from n : ℕ) (x : EntryFacts) → slice_get es n ≡ Some x → bytes_eq x.key key ≡ true → First key es from
first_with key [] from n x at is = absurd (none-some x at)
first_with key (z ∷ zs) from n x at is = by_test (bytes_eq z.key key) refl n at (λ n at. first_with key zs (from + 1) n x at is)
  where
    more : List ℕ → Option ℕ
    more k = position_from (λ other. bytes_eq other k) (from + 1) (keys_of zs)

    here : from ≡ from + 0
    here = omega arith

    next : (p : ℕ) → (from + 1) + p ≡ from + suc p
    next p = omega arith

    by_test : (b : Bool) → bytes_eq z.key key ≡ b → (n : ℕ) → slice_get (z ∷ zs) n ≡ Some x → ((n : ℕ) → slice_get zs n ≡ Some x → First key zs (from + 1)) → First key (z ∷ zs) from
    by_test true own n at further = record { place = 0; first = z; found = ap (λ b. cond b (Some from) (more key)) own ∙ ap Some here; there = refl; has_it = own }
    by_test false other zero at further = absurd (true≢false (sym is ∙ ap (λ (e : EntryFacts). bytes_eq e.key key) (sym (same_Some z x at)) ∙ other))
    by_test false other (suc n) at further =
        let f = further n at in
        record { place = suc f.place; first = f.first; found = ap (λ b. cond b (Some from) (more key)) other ∙ f.found ∙ ap Some (next f.place); there = f.there; has_it = f.has_it }

from_zero : (n : ℕ) → 0 + n ≡ n
from_zero n = omega arith

-- where an entry has another key
module _ (operator : List ℕ) (entries : List EntryFacts) (given : NewKey) (entry : EntryFacts) (entry_at : entry_in entries given.entry ≡ Some entry) (differ : KeysDiffer entries)
    (unbroken : rekey_refusal operator (keys_of entries) given.entry given.key ≡ None) where
  no_rule : (b : Bool) → unless b rule.KeyThere ≡ None → b ≡ true
  no_rule true none = refl
  no_rule false none = absurd (none-some rule.KeyThere (sym none))

  its_own : (b : Bool) (o : Option Caller) (n : ℕ) → o ≡ Some (Entry n) → unless (is_open_to given.entry (if b then Some Operator else o)) rule.KeyThere ≡ None → n ≡ given.entry
  its_own true o n at none = absurd (none-some rule.KeyThere (sym none))
  its_own false o n at none = eqb-true n given.entry (no_rule (n == given.entry) (ap (λ o. unless (is_open_to given.entry o) rule.KeyThere) (sym at) ∙ none))

  apart : (a b : List ℕ) → a ≡ given.key → b ≡ given.key → bytes_eq a b ≡ false → ⊥
  apart a b x y other = true≢false (sym ((bytes_eq-Decides a b).1 (x ∙ sym y)) ∙ other)

  -- nobody else has the key
  none_else : (d : ℕ) (x : EntryFacts) → entry_in entries d ≡ Some x → (d ≡ given.entry → ⊥) → bytes_eq x.key given.key ≡ true → ⊥
  none_else zero x at other has = none-some x at
  none_else (suc n) x at other has =
      let f = first_with given.key entries 0 n x (sym (at_number entries n) ∙ at) has in
      let found : entry_with (keys_of entries) given.key ≡ Some (Entry (f.place + 1)) =
      ap (option_map (λ place. Entry (place + 1))) (position_from-zero (λ other. bytes_eq other given.key) (keys_of entries) ∙ f.found ∙ ap Some (from_zero f.place)) in
      let is : f.place + 1 ≡ given.entry = its_own (bytes_eq operator given.key) (entry_with (keys_of entries) given.key) (f.place + 1) found unbroken in
      let place : suc f.place ≡ given.entry = omega (arith, is) in
      let at_first : entry_in entries (suc f.place) ≡ Some f.first = at_number entries f.place ∙ f.there in
      let x_key : x.key ≡ given.key = (bytes_eq-Decides x.key given.key).0 has in
      let first_key : f.first.key ≡ given.key = (bytes_eq-Decides f.first.key given.key).0 f.has_it in
      elim (cases_lt (suc n) (suc f.place)) [
        | inl lt ↦ apart x.key f.first.key x_key first_key (differ (suc n) (suc f.place) x f.first at at_first lt)
        | inr le ↦
            let more : suc f.place ≢ suc n = λ same. other (sym same ∙ place) in
            apart f.first.key x.key first_key x_key (differ (suc f.place) (suc n) f.first x at_first at (omega (arith, le, more)))
      ]

  others : (d : ℕ) (x : EntryFacts) → entry_in entries d ≡ Some x → (d ≡ given.entry → ⊥) → bytes_eq x.key given.key ≡ false
  others d x at other = elim (cases_Bool (bytes_eq x.key given.key)) [
    | inl has ↦ absurd (none_else d x at other has)
    | inr has_not ↦ has_not
  ]

  -- who stands at a number behind it
  own_key : (y : EntryFacts) → entry_in (entries_rekeyed entries given) given.entry ≡ Some y → y.key ≡ given.key
  own_key y at = ap (λ (e : EntryFacts). e.key) (sym (same_Some (with_key given entry) y (sym (numbered_here (with_key given) entries given.entry entry entry_at) ∙ at)))

  as_before : (d : ℕ) (x : EntryFacts) → (d ≡ given.entry → ⊥) → entry_in (entries_rekeyed entries given) d ≡ Some x → entry_in entries d ≡ Some x
  as_before d x other at = numbered_changed (λ o. o) (with_key given) entries given.entry d (λ same. absurd (other same)) ∙ at

  pub keys_rekeyed : KeysDiffer (entries_rekeyed entries given)
  keys_rekeyed d e x y at also lt = elim (cases_eq d given.entry) [
    | inl here ↦
        let key : x.key ≡ given.key = own_key x (subst (λ d. entry_in (entries_rekeyed entries given) d ≡ Some x) here at) in
        let old : entry_in entries e ≡ Some y = as_before e y (λ same. absurd (omega (arith, lt, here, same))) also in
        ap (λ k. bytes_eq k y.key) key ∙ nat_list_eq_equiv.symm given.key y.key ∙ others e y old (λ same. absurd (omega (arith, lt, here, same)))
    | inr apart_one ↦
        let old : entry_in entries d ≡ Some x = as_before d x apart_one at in
        elim (cases_eq e given.entry) [
          | inl here ↦
              let key : y.key ≡ given.key = own_key y (subst (λ e. entry_in (entries_rekeyed entries given) e ≡ Some y) here also) in
              ap (bytes_eq x.key) key ∙ others d x old apart_one
          | inr apart_two ↦ differ d e x y old (as_before e y apart_two also) lt
        ]
  ]

-- whose keys are whose behind it

-- who is found by a key has it
record Found (key : List ℕ) (entries : List EntryFacts) (place : ℕ) : Type 0 where
  holder : EntryFacts
  there : slice_get entries place ≡ Some holder
  has_it : bytes_eq holder.key key ≡ true

found_from : (key : List ℕ) (es : List EntryFacts) (from k : ℕ) → position_from (λ other. bytes_eq other key) from (keys_of es) ≡ Some k → (place : ℕ) × (k ≡ from + place) × Found key es place
found_from key [] from k is = absurd (none-some k is)
found_from key (z ∷ zs) from k is = by_test (bytes_eq z.key key) refl (λ is. found_from key zs (from + 1) k is) is
  where
    here : from ≡ from + 0
    here = omega arith

    by_test : (b : Bool) → bytes_eq z.key key ≡ b
        → (position_from (λ other. bytes_eq other key) (from + 1) (keys_of zs) ≡ Some k → (place : ℕ) × (k ≡ (from + 1) + place) × Found key zs place)
        → cond b (Some from) (position_from (λ other. bytes_eq other key) (from + 1) (keys_of zs)) ≡ Some k → (place : ℕ) × (k ≡ from + place) × Found key (z ∷ zs) place
    by_test true own further is = (0, sym (same_Some from k is) ∙ here, record { holder = z; there = refl; has_it = own })
    by_test false other further is =
        let f = further is in
        (suc f.0, omega (arith, f.1), record { holder = f.2.holder; there = f.2.there; has_it = f.2.has_it })

-- the one entry that has a key is found by it
its_holder : (entries : List EntryFacts) (n : ℕ) (x : EntryFacts) (key : List ℕ) → KeysDiffer entries → entry_in entries n ≡ Some x → bytes_eq x.key key ≡ true → entry_with (keys_of entries) key ≡ Some (Entry n)
its_holder entries zero x key differ at has = absurd (none-some x at)
its_holder entries (suc n) x key differ at has =
    let f = first_with key entries 0 n x (sym (at_number entries n) ∙ at) has in
    let at_first : entry_in entries (suc f.place) ≡ Some f.first = at_number entries f.place ∙ f.there in
    let same : f.first.key ≡ x.key = (bytes_eq-Decides f.first.key key).0 f.has_it ∙ sym ((bytes_eq-Decides x.key key).0 has) in
    let place : f.place ≡ n = elim (cases_lt f.place n) [
      | inl lt ↦ absurd (true≢false (sym ((bytes_eq-Decides f.first.key x.key).1 same) ∙ differ (suc f.place) (suc n) f.first x at_first at (omega (arith, lt))))
      | inr le ↦ elim (cases_lt n f.place) [
        | inl lt ↦ absurd (true≢false (sym ((bytes_eq-Decides x.key f.first.key).1 (sym same)) ∙ differ (suc n) (suc f.place) x f.first at at_first (omega (arith, lt))))
        | inr ge ↦ omega (arith, le, ge)
      ]
    ] in
    ap (option_map (λ place. Entry (place + 1))) (position_from-zero (λ other. bytes_eq other key) (keys_of entries) ∙ f.found ∙ ap Some (from_zero f.place)) ∙ ap (λ p. Some (Entry p)) (omega (arith, place))

-- nobody has a key that no entry has
no_holder : (entries : List EntryFacts) (key : List ℕ) → ((n : ℕ) (x : EntryFacts) → entry_in entries n ≡ Some x → bytes_eq x.key key ≡ true → ⊥) → entry_with (keys_of entries) key ≡ None
no_holder entries key none = ap (option_map (λ place. Entry (place + 1))) (position_from-zero (λ other. bytes_eq other key) (keys_of entries) ∙ by_place (position_from (λ other. bytes_eq other key) 0 (keys_of entries)) refl)
  where
    by_place : (o : Option ℕ) → position_from (λ other. bytes_eq other key) 0 (keys_of entries) ≡ o → o ≡ None
    by_place None is = refl
    by_place (Some k) is =
        let f = found_from key entries 0 k is in
        absurd (none (suc f.0) f.2.holder (at_number entries f.0 ∙ f.2.there) f.2.has_it)

pub keys_change_hands : KeysChangeHands
keys_change_hands operator book given entry outcome lawful at ruled = by_issued (is_issued book.entries given.entry) (ap is_some at) (rekey_refusal operator (keys_of book.entries) given.entry given.key) refl ruled
  where
    after : List EntryFacts
    after = entries_rekeyed book.entries given

    hands : rekey_refusal operator (keys_of book.entries) given.entry given.key ≡ None → ChangesHands operator given entry.key after
    hands unbroken =
        let differ : KeysDiffer after = keys_rekeyed operator book.entries given entry at lawful.keys unbroken in
        let own_at : entry_in after given.entry ≡ Some (with_key given entry) = numbered_here (with_key given) book.entries given.entry entry at in
        record {
          is_its_own =
              not_operators (bytes_eq operator given.key) (entry_with (keys_of book.entries) given.key) unbroken (entry_with (keys_of after) given.key)
              ∙ its_holder after given.entry (with_key given entry) given.key differ own_at ((bytes_eq-Decides given.key given.key).1 refl);
          is_nobodys = λ other. no_holder after entry.key (λ n x found has.
              let same : x.key ≡ entry.key = (bytes_eq-Decides x.key entry.key).0 has in
              elim (cases_eq n given.entry) [
                | inl here ↦ other (sym same ∙ own_key operator book.entries given entry at lawful.keys unbroken x (subst (λ n. entry_in after n ≡ Some x) here found))
                | inr apart_one ↦
                    let old : entry_in book.entries n ≡ Some x = as_before operator book.entries given entry at lawful.keys unbroken n x apart_one found in
                    elim (cases_lt n given.entry) [
                      | inl lt ↦ true≢false (sym ((bytes_eq-Decides x.key entry.key).1 same) ∙ lawful.keys n given.entry x entry old at lt)
                      | inr le ↦
                          true≢false (sym ((bytes_eq-Decides entry.key x.key).1 (sym same)) ∙ lawful.keys given.entry n entry x at old (omega (arith, le, apart_one)))
                    ]
              ]);
        }
      where
        not_operators : (b : Bool) (o : Option Caller) → unless (is_open_to given.entry (if b then Some Operator else o)) rule.KeyThere ≡ None → (p : Option Caller) → (if b then Some Operator else p) ≡ p
        not_operators true o none p = absurd (none-some rule.KeyThere (sym none))
        not_operators false o none p = refl

    by_refusal : (broken : Option Rule) → rekey_refusal operator (keys_of book.entries) given.entry given.key ≡ broken
        → unless_broken broken (record { made = made.Nothing; book = record book { entries = after } }) ≡ Ok outcome → ChangesHands operator given entry.key outcome.book.entries
    by_refusal None is ok =
        let same : record { made = made.Nothing; book = record book { entries = after } } ≡ outcome = cc in
        subst (λ (o : Outcome). ChangesHands operator given entry.key o.book.entries) same (hands is)
    by_refusal (Some broken) is ok = cc

    by_issued : (b : Bool) → b ≡ true → (broken : Option Rule) → rekey_refusal operator (keys_of book.entries) given.entry given.key ≡ broken
        → (if b then unless_broken broken (record { made = made.Nothing; book = record book { entries = after } }) else Err answer.Unknown) ≡ Ok outcome → ChangesHands operator given entry.key outcome.book.entries
    by_issued true issued broken is ok = by_refusal broken is ok
    by_issued false issued broken is ok = cc

-- where only what an entry did changes
pub keys_kept : (entries : List EntryFacts) (e : ℕ) (h : List Event) (entry : EntryFacts) → entry_in entries e ≡ Some entry → KeysDiffer entries → KeysDiffer (histories_with entries e h)
keys_kept entries e h entry at differ c d x y one two lt =
    let first = of_key (entry_in entries c) x.key (kept c ∙ ap (option_map (λ (entry : EntryFacts). entry.key)) one) in
    let second = of_key (entry_in entries d) y.key (kept d ∙ ap (option_map (λ (entry : EntryFacts). entry.key)) two) in
    ap₂ bytes_eq (sym first.2) (sym second.2) ∙ differ c d first.0 second.0 first.1 second.1 lt
  where
    kept : (q : ℕ) → option_map (λ entry. entry.key) (entry_in entries q) ≡ option_map (λ entry. entry.key) (entry_in (histories_with entries e h) q)
    kept q = entry_kept (option_map (λ entry. entry.key)) entries e q h entry at (λ same. refl)

    of_key : (o : Option EntryFacts) (key : List ℕ) → option_map (λ entry. entry.key) o ≡ Some key → (x : EntryFacts) × (o ≡ Some x) × (x.key ≡ key)
    of_key None key is = absurd (none-some key is)
    of_key (Some x) key is = (x, refl, same_Some x.key key is)
