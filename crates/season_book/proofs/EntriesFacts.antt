-- Lists of entries that are the same to others.
use Rattle.std.proofs.Common.{◌≡◌, ◌-◌, ℕ, zero, suc, false, nat_eq, List, [], ◌∷◌, ◌++◌, Option, Some, None, length, arith, refl, sym, ap, ◌∙◌, subst}
use Rattle.std.specs.Prelude.{is_some, slice_get, ⊤}
use Rattle.std.specs.Option.{option_map, option_map_or}
use Rattle.std.proofs.lemmas.Bool.Decides.{nat_tests}
use Rattle.rule_book.specs.Entries.{changed_in, entry_in}
use Rattle.rule_book.specs.History.{Event}
use Rattle.rule_book.specs.HistoryRules.{is_started}
use Rattle.rule_book.specs.UpTo.{start_of}
use Rattle.season_book.specs.Book.{EntryFacts, Facts, histories_with}
use Rattle.season_book.specs.Hosts.{keys_of}
use Rattle.season_book.specs.KeyCommands.{NewKey, entries_rekeyed, with_key}
use Rattle.season_book.specs.LeagueCommands.{is_issued, is_registered}
use Rattle.season_book.specs.Agree.{EntriesAlike, EntryAlike, SameWhereLocked}

pub at_number : (entries : List EntryFacts) (n : ℕ) → entry_in entries (suc n) ≡ slice_get entries n
at_number entries n = let f : nat_eq (suc n) 0 ≡ false = grind (arith, nat_tests) in let m : suc n - 1 ≡ n = omega arith in rw (f, m) refl

-- two entries that are the same to others, or none
abbrev pub BothAlike : Option Facts → Option EntryFacts → Option EntryFacts → Type 0
BothAlike facts None None = ⊤
BothAlike facts None (Some other) = ⊥
BothAlike facts (Some entry) None = ⊥
BothAlike facts (Some entry) (Some other) = EntryAlike facts entry other

both_placed : (facts : Option Facts) (entries others : List EntryFacts) → EntriesAlike facts entries others → (n : ℕ) → BothAlike facts (slice_get entries n) (slice_get others n)
both_placed facts [] [] a n = tt
both_placed facts [] (other ∷ others) a n = absurd a
both_placed facts (entry ∷ entries) [] a n = absurd a
both_placed facts (entry ∷ entries) (other ∷ others) (one, more) zero = one
both_placed facts (entry ∷ entries) (other ∷ others) (one, more) (suc n) = both_placed facts entries others more n

-- entries that are the same to others are so at each number
pub both_alike : (facts : Option Facts) (entries others : List EntryFacts) → EntriesAlike facts entries others → (e : ℕ) → BothAlike facts (entry_in entries e) (entry_in others e)
both_alike facts entries others a zero = tt
both_alike facts entries others a (suc n) =
    subst (λ o. BothAlike facts o (entry_in others (suc n))) (sym (at_number entries n))
    (subst (λ o. BothAlike facts (slice_get entries n) o) (sym (at_number others n)) (both_placed facts entries others a n))

-- as many are issued and registered
pub issued_alike : (facts : Option Facts) (entries others : List EntryFacts) → EntriesAlike facts entries others → (e : ℕ) → is_issued entries e ≡ is_issued others e
issued_alike facts entries others a e = of_both (entry_in entries e) (entry_in others e) (both_alike facts entries others a e)
  where
    of_both : (x y : Option EntryFacts) → BothAlike facts x y → is_some x ≡ is_some y
    of_both None None b = refl
    of_both None (Some y) b = absurd b
    of_both (Some x) None b = absurd b
    of_both (Some x) (Some y) b = refl

pub started_alike : (h h2 : List Event) → start_of h ≡ start_of h2 → is_started h ≡ is_started h2
started_alike [] [] same = refl
started_alike [] (e ∷ h2) same = cc
started_alike (e ∷ h) [] same = cc
started_alike (e ∷ h) (e2 ∷ h2) same = refl

pub registered_alike : (facts : Option Facts) (entries others : List EntryFacts) → EntriesAlike facts entries others → (e : ℕ) → is_registered entries e ≡ is_registered others e
registered_alike facts entries others a e = of_both (entry_in entries e) (entry_in others e) (both_alike facts entries others a e)
  where
    of_both : (x y : Option EntryFacts) → BothAlike facts x y → option_map_or (λ (entry : EntryFacts). is_started entry.history) x false ≡ option_map_or (λ (entry : EntryFacts). is_started entry.history) y false
    of_both None None b = refl
    of_both None (Some y) b = absurd b
    of_both (Some x) None b = absurd b
    of_both (Some x) (Some y) b = started_alike x.history y.history b.start

-- what is the same is the same where gameweeks are locked
pub where_locked : (facts : Option Facts) (h : List Event) → SameWhereLocked facts h h
where_locked None h = refl
where_locked (Some facts) h = refl

pub itself_alike : (facts : Option Facts) (entry : EntryFacts) → EntryAlike facts entry entry
itself_alike facts entry = record { key = refl; name = refl; start = refl; locked = where_locked facts entry.history }

-- by other facts, where they lock no more
pub by_other_facts : (facts behind : Option Facts) → ((h h2 : List Event) → SameWhereLocked facts h h2 → SameWhereLocked behind h h2)
    → (entries others : List EntryFacts) → EntriesAlike facts entries others → EntriesAlike behind entries others
by_other_facts facts behind still [] [] a = tt
by_other_facts facts behind still [] (other ∷ others) a = absurd a
by_other_facts facts behind still (entry ∷ entries) [] a = absurd a
by_other_facts facts behind still (entry ∷ entries) (other ∷ others) (one, more) = (
  record { key = one.key; name = one.name; start = one.start; locked = still entry.history other.history one.locked },
  by_other_facts facts behind still entries others more,
)

pub keys_alike : (facts : Option Facts) (entries others : List EntryFacts) → EntriesAlike facts entries others → keys_of entries ≡ keys_of others
keys_alike facts [] [] a = refl
keys_alike facts [] (other ∷ others) a = absurd a
keys_alike facts (entry ∷ entries) [] a = absurd a
keys_alike facts (entry ∷ entries) (other ∷ others) (one, more) =
    let rest : keys_of entries ≡ keys_of others = keys_alike facts entries others more in λ i. one.key i ∷ rest i

pub as_many : (facts : Option Facts) (entries others : List EntryFacts) → EntriesAlike facts entries others → length entries ≡ length others
as_many facts [] [] a = refl
as_many facts [] (other ∷ others) a = absurd a
as_many facts (entry ∷ entries) [] a = absurd a
as_many facts (entry ∷ entries) (other ∷ others) (one, more) = ap suc (as_many facts entries others more)

-- with one entry more
module _ (facts : Option Facts) (new : EntryFacts) where
  pub one_more : (entries others : List EntryFacts) → EntriesAlike facts entries others → EntriesAlike facts (entries ++ new ∷ []) (others ++ new ∷ [])
  one_more [] [] a = (itself_alike facts new, tt)
  one_more [] (other ∷ others) a = absurd a
  one_more (entry ∷ entries) [] a = absurd a
  one_more (entry ∷ entries) (other ∷ others) (one, more) = (one, one_more entries others more)

  at_place : (entries others : List EntryFacts) → EntriesAlike facts entries others → (n : ℕ) → slice_get entries n ≡ slice_get others n → slice_get (entries ++ new ∷ []) n ≡ slice_get (others ++ new ∷ []) n
  at_place [] [] a n same = refl
  at_place [] (other ∷ others) a n same = absurd a
  at_place (entry ∷ entries) [] a n same = absurd a
  at_place (entry ∷ entries) (other ∷ others) a zero same = same
  at_place (entry ∷ entries) (other ∷ others) (one, more) (suc n) same = at_place entries others more n same

  pub own_of_more : (entries others : List EntryFacts) → EntriesAlike facts entries others → (n : ℕ) → entry_in entries n ≡ entry_in others n → entry_in (entries ++ new ∷ []) n ≡ entry_in (others ++ new ∷ []) n
  own_of_more entries others a zero same = refl
  own_of_more entries others a (suc n) same =
      at_number (entries ++ new ∷ []) n
      ∙ at_place entries others a n (sym (at_number entries n) ∙ same ∙ at_number others n)
      ∙ sym (at_number (others ++ new ∷ []) n)

-- with another key and name of one entry
module _ (facts : Option Facts) (given : NewKey) where
  changed_alike : (entries others : List EntryFacts) → EntriesAlike facts entries others → (e : ℕ) → EntriesAlike facts (changed_in (with_key given) entries e) (changed_in (with_key given) others e)
  changed_alike [] [] a e = tt
  changed_alike [] (other ∷ others) a e = absurd a
  changed_alike (entry ∷ entries) [] a e = absurd a
  changed_alike (entry ∷ entries) (other ∷ others) a zero = a
  changed_alike (entry ∷ entries) (other ∷ others) (one, more) (suc zero) = (record { key = refl; name = refl; start = one.start; locked = one.locked }, more)
  changed_alike (entry ∷ entries) (other ∷ others) (one, more) (suc (suc e)) = (one, changed_alike entries others more (suc e))

  pub one_rekeyed : (entries others : List EntryFacts) → EntriesAlike facts entries others → EntriesAlike facts (entries_rekeyed entries given) (entries_rekeyed others given)
  one_rekeyed entries others a = changed_alike entries others a given.entry

  at_changed : (entries others : List EntryFacts) → EntriesAlike facts entries others → (e n : ℕ) → slice_get entries n ≡ slice_get others n
      → slice_get (changed_in (with_key given) entries e) n ≡ slice_get (changed_in (with_key given) others e) n
  at_changed [] [] a e n same = refl
  at_changed [] (other ∷ others) a e n same = absurd a
  at_changed (entry ∷ entries) [] a e n same = absurd a
  at_changed (entry ∷ entries) (other ∷ others) a zero n same = same
  at_changed (entry ∷ entries) (other ∷ others) a (suc zero) zero same = ap (option_map (with_key given)) same
  at_changed (entry ∷ entries) (other ∷ others) a (suc zero) (suc n) same = same
  at_changed (entry ∷ entries) (other ∷ others) a (suc (suc e)) zero same = same
  at_changed (entry ∷ entries) (other ∷ others) (one, more) (suc (suc e)) (suc n) same = at_changed entries others more (suc e) n same

  pub own_rekeyed : (entries others : List EntryFacts) → EntriesAlike facts entries others → (n : ℕ) → entry_in entries n ≡ entry_in others n
      → entry_in (entries_rekeyed entries given) n ≡ entry_in (entries_rekeyed others given) n
  own_rekeyed entries others a zero same = refl
  own_rekeyed entries others a (suc n) same =
      at_number (entries_rekeyed entries given) n
      ∙ at_changed entries others a given.entry n (sym (at_number entries n) ∙ same ∙ at_number others n)
      ∙ sym (at_number (entries_rekeyed others given) n)

-- with this history of one entry
module _ (facts : Option Facts) (h : List Event) where
  abbrev with_h : EntryFacts → EntryFacts
  with_h entry = record entry { history = h }

  pub one_goes_on : (entries others : List EntryFacts) → EntriesAlike facts entries others → (n : ℕ) → EntriesAlike facts (histories_with entries n h) (histories_with others n h)
  one_goes_on [] [] a n = tt
  one_goes_on [] (other ∷ others) a n = absurd a
  one_goes_on (entry ∷ entries) [] a n = absurd a
  one_goes_on (entry ∷ entries) (other ∷ others) a zero = a
  one_goes_on (entry ∷ entries) (other ∷ others) (one, more) (suc zero) = (record { key = one.key; name = one.name; start = refl; locked = where_locked facts h }, more)
  one_goes_on (entry ∷ entries) (other ∷ others) (one, more) (suc (suc n)) = (one, one_goes_on entries others more (suc n))

  its_own : (entries : List EntryFacts) (n : ℕ) → slice_get (histories_with entries (suc n) h) n ≡ option_map with_h (slice_get entries n)
  its_own [] n = refl
  its_own (entry ∷ entries) zero = refl
  its_own (entry ∷ entries) (suc n) = its_own entries n

  pub own_goes_on : (entries others : List EntryFacts) (n : ℕ) → entry_in entries n ≡ entry_in others n → entry_in (histories_with entries n h) n ≡ entry_in (histories_with others n h) n
  own_goes_on entries others zero same = refl
  own_goes_on entries others (suc n) same =
      at_number (histories_with entries (suc n) h) n
      ∙ its_own entries n
      ∙ ap (option_map with_h) (sym (at_number entries n) ∙ same ∙ at_number others n)
      ∙ sym (its_own others n)
      ∙ sym (at_number (histories_with others (suc n) h) n)
