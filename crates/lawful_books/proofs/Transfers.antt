-- Records that tell a lawful history break no rule on transfers.
use Rattle.std.proofs.Common.{◌≡◌, ◌<◌, ◌≤◌, ◌-◌, ℕ, zero, suc, Bool, true, false, cond, ◌&&◌, ◌||◌, ◌==◌, List, [], ◌∷◌, ◌++◌, Option, Some, None, length, arith, refl, sym, ap, subst, ◌∙◌}
use Rattle.std.specs.Prelude.{is_some, slice_get}
use Rattle.std.specs.List.{AllByRecursion as Each}
use Rattle.std.specs.Option.{option_map}
use Rattle.std.proofs.lemmas.Bool.{and_from, le-leb, lt-ltb, not_from_true, or_right}
use Rattle.std.proofs.lemmas.Option.{none-some, same_Some, slice_get_within}
use Rattle.fpl_base.specs.Keeping.{Map}
use Rattle.rule_book.specs.declared.transfers.Sale.{Sale}
use Rattle.rule_book.specs.Entries.{entry_in}
use Rattle.rule_book.specs.EntryCalls.{transfer_limit}
use Rattle.rule_book.specs.EntryRecords.{IsPricedSale, sold_by, sold_in}
use Rattle.rule_book.specs.History.{Deed, Event, is_touched}
use Rattle.rule_book.specs.History.Deed.{First, Swap, Lineup, Play, Cancel}
use Rattle.rule_book.specs.HistoryTransfers.{is_swap, swaps_in}
use Rattle.season_book.specs.Book.{Book, EntryFacts, Facts}
use Rattle.record_fields.specs.Ranges.{is_between}
use Rattle.season_records.specs.Records.{transfer_item}
use Rattle.season_records.proofs.Finds.{at_number}
use Rattle.stored_records.specs.EntryTold.{chip_told, is_first_of, sale_in, sale_told}
use Rattle.store_validation.specs.TransferRules.{is_lawful_sale, is_next_number, is_priced_sale}
use Rattle.lawful_books.specs.Histories.{IsLawfulDeed, IsLawfulSwap}
use Rattle.lawful_books.specs.Recorded.{IsRecorded, TransfersAreLawful}
use Rattle.lawful_books.proofs.Recorded.{chips, first_of, in_time, player_there, sale_row, team_there}

-- a gameweek's transfers are its swaps
sold_count : (h : List Event) (g : ℕ) → length (sold_in h g) ≡ swaps_in h g
sold_count [] g = refl
sold_count (e ∷ h) g = by_deed e.deed (e.gw == g) (sold_count h g)
  where
    by_deed : (d : Deed) (b : Bool) → length (sold_in h g) ≡ swaps_in h g → length (cond b (sold_by d ++ sold_in h g) (sold_in h g)) ≡ cond (b && is_swap d) (suc (swaps_in h g)) (swaps_in h g)
    by_deed d false same = same
    by_deed (First squad captain vice) true same = same
    by_deed (Swap sale) true same = ap suc same
    by_deed (Lineup players captain vice) true same = same
    by_deed (Play chip) true same = same
    by_deed Cancel true same = same

-- in a gameweek that has some, something was done
sold_touched : (h : List Event) (g : ℕ) → 0 < length (sold_in h g) → is_touched h g ≡ true
sold_touched [] g some = absurd (omega arith)
sold_touched (e ∷ h) g some = by (e.gw == g) (sold_touched h g) some
  where
    by : (b : Bool) → (0 < length (sold_in h g) → is_touched h g ≡ true) → 0 < length (cond b (sold_by e.deed ++ sold_in h g) (sold_in h g)) → (b || is_touched h g) ≡ true
    by true later some = refl
    by false later some = later some

-- each of them is lawful by itself
sold_lawful : (facts : Facts) (h : List Event) (g : ℕ) → Each (λ (e : Event). IsLawfulDeed facts e.deed) h → Each (IsLawfulSwap facts) (sold_in h g)
sold_lawful facts [] g all = tt
sold_lawful facts (e ∷ h) g all = by_deed e.deed (e.gw == g) all.0 (sold_lawful facts h g all.1)
  where
    by_deed : (d : Deed) (b : Bool) → IsLawfulDeed facts d → Each (IsLawfulSwap facts) (sold_in h g) → Each (IsLawfulSwap facts) (cond b (sold_by d ++ sold_in h g) (sold_in h g))
    by_deed d false lawful more = more
    by_deed (First squad captain vice) true lawful more = more
    by_deed (Swap sale) true lawful more = (lawful, more)
    by_deed (Lineup players captain vice) true lawful more = more
    by_deed (Play chip) true lawful more = more
    by_deed Cancel true lawful more = more

each_placed : {X : Type 0} (P : X → Type 0) (xs : List X) (k : ℕ) (x : X) → Each P xs → slice_get xs k ≡ Some x → P x
each_placed P [] k x all at = absurd (none-some x at)
each_placed P (y ∷ xs) zero x all at = subst P (same_Some y x at) all.0
each_placed P (y ∷ xs) (suc k) x all at = each_placed P xs k x all.1 at

placed_within : {X : Type 0} (xs : List X) (k : ℕ) → k < length xs → is_some (slice_get xs k) ≡ true
placed_within [] k within = absurd (omega (arith, within))
placed_within (x ∷ xs) zero within = refl
placed_within (x ∷ xs) (suc k) within = placed_within xs k (omega (arith, within))

priced : (s : Sale) → IsPricedSale s → is_priced_sale s ≡ true
priced s p = and_from _ _ (between s.sold p.0 p.1) (between s.bought p.2 p.3)
  where
    between : (n : ℕ) → 30 ≤ n → n ≤ 200 → is_between 30 200 n ≡ true
    between n low high = and_from _ _ (le-leb 30 n low) (le-leb n 200 high)

module _ (m : Map) (book : Book) (facts : Facts) (e : ℕ) (entry : EntryFacts) (r : IsRecorded m book facts e entry) (g : ℕ) where
  abbrev sold : List Sale
  sold = sold_in entry.history g

  told_back : (n : ℕ) → sale_told m e g n ≡ entry_in sold n
  told_back n = ap sale_in (sale_row m book facts e entry r g n) ∙ by (entry_in sold n)
    where
      by : (o : Option Sale) → sale_in (option_map (transfer_item e g n) o) ≡ o
      by None = refl
      by (Some s) = refl

  next_number : (k : ℕ) → k < length sold → is_next_number m e g (suc k) ≡ true
  next_number zero within = refl
  next_number (suc j) within =
      let less : suc (suc j) - 1 ≡ suc j = omega arith in
      or_right _ _ (and_from _ _ (lt-ltb 1 (suc (suc j)) (omega arith))
      (ap (λ n. is_some (sale_told m e g n)) less ∙ ap is_some (told_back (suc j) ∙ at_number sold j) ∙ placed_within sold j (omega (arith, within))))

  sale_lawful : (n : ℕ) (s : Sale) → entry_in sold n ≡ Some s → is_lawful_sale m e g n s ≡ true
  sale_lawful zero s at = absurd (none-some s at)
  sale_lawful (suc k) s at =
      let placed : slice_get sold k ≡ Some s = sym (at_number sold k) ∙ at in
      let within : k < length sold = slice_get_within sold k s placed in
      let here : is_touched entry.history g ≡ true = sold_touched entry.history g (omega (arith, within)) in
      let lawful : IsLawfulSwap facts s = each_placed (IsLawfulSwap facts) sold k s (sold_lawful facts entry.history g r.lawful.deeds) placed in
      let few : suc k ≤ transfer_limit (is_first_of m e g) (chip_told m e g) =
      subst (λ most. suc k ≤ most) (sym (λ i. transfer_limit (first_of m book facts e entry r g i) (chips m book facts e entry r g i)))
      (omega (arith, within, sold_count entry.history g, r.lawful.limits g)) in
      and_from _ _ (and_from _ _ (and_from _ _ (and_from _ _
      (and_from _ _ (in_time m book facts e entry r g here) (team_there m book facts e entry r g here))
      (le-leb (suc k) _ few))
      (next_number k within))
      (and_from _ _ (player_there m book facts e entry r s.out lawful.out) (player_there m book facts e entry r s.into lawful.into)))
      (priced s lawful.priced)

pub transfers_are_lawful : TransfersAreLawful
transfers_are_lawful m book facts e entry g n s r at = not_from_true _ (sale_lawful m book facts e entry r g n s (sym (told_back m book facts e entry r g n) ∙ at))
