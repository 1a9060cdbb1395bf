-- The window of an entry's transfers shows the same of books that are the same to a caller.
use Rattle.std.proofs.Common.{◌≡◌, ◌∙◌, ◌≤◌, ◌<◌, ◌+◌, ◌-◌, ◌==◌, ℕ, zero, suc, true, false, List, [], ◌∷◌, ◌++◌, Option, Some, None, map, reverse, nat_le, if◌then◌else◌, ⊎_elim, arith, refl, sym, ap, subst}
use Rattle.std.specs.List.{flat_map, range_with_len}
use Rattle.std.specs.Option.{option_and_then, option_map}
use Rattle.std.proofs.lemmas.Bool.{cases_lt}
use Rattle.std.proofs.lemmas.Bool.Decides.{nat_tests}
use Rattle.fpl_base.specs.declared.kinds.Caller.{Caller}
use Rattle.rule_book.specs.declared.transfers.Sale.{Sale}
use Rattle.rule_book.specs.EntryRecords.{sold_by, sold_in}
use Rattle.rule_book.specs.Entries.{entry_in}
use Rattle.rule_book.specs.History.{Event}
use Rattle.rule_book.specs.UpTo.{AgreeUpTo, start_of, up_to}
use Rattle.season_book.specs.Book.{Book, EntryFacts, Facts}
use Rattle.season_book.specs.Windows.{listed}
use Rattle.season_book.specs.Agree.{Alike, EntriesAlike}
use Rattle.season_book.proofs.EntriesFacts.{BothAlike, both_alike}
use Rattle.season_book.specs.TransfersWindow.{latest_of, transfer_row, transfers_data, transfers_window}

other_gw : (g k w : ℕ) → g ≤ k → k < w → (w == g) ≡ false
other_gw g k w le lt = grind (arith, nat_tests, le, lt)

-- what was sold in a gameweek is told by the events up to a later one
sold_up_to : (k g : ℕ) (h : List Event) → g ≤ k → sold_in h g ≡ sold_in (up_to k h) g
sold_up_to k g [] le = refl
sold_up_to k g (e ∷ h) le =
    let i : sold_in h g ≡ sold_in (up_to k h) g = sold_up_to k g h le in
    ⊎_elim
    (λ (lt : k < e.gw).
    let after : nat_le e.gw k ≡ false = grind (arith, nat_tests, lt) in
    let f : (e.gw == g) ≡ false = other_gw g k e.gw le lt in
    rw (after, f) i)
    (λ (ge : e.gw ≤ k).
    let within : nat_le e.gw k ≡ true = grind (arith, nat_tests, ge) in
    rw within (ap (λ r. if e.gw == g then sold_by e.deed ++ r else r) i))
    (cases_lt k e.gw)

sold_agree : (k : ℕ) (h h2 : List Event) → AgreeUpTo k h h2 → (g : ℕ) → g ≤ k → sold_in h g ≡ sold_in h2 g
sold_agree k h h2 a g le = sold_up_to k g h le ∙ ap (λ l. sold_in l g) a ∙ sym (sold_up_to k g h2 le)

-- the transfers of a gameweek, each with it
abbrev in_gameweek : (ℕ → List Sale) → ℕ → List (ℕ × Sale)
in_gameweek sold g = map (λ sale. (g, sale)) (sold g)

over_range : (one other : ℕ → List Sale) (from n to : ℕ) → ((g : ℕ) → g ≤ to → one g ≡ other g) → from + n ≤ to + 1
    → flat_map (in_gameweek one) (range_with_len from n) ≡ flat_map (in_gameweek other) (range_with_len from n)
over_range one other from zero to same le = refl
over_range one other from (suc n) to same le =
    let here : in_gameweek one from ≡ in_gameweek other from = ap (map (λ (sale : Sale). (from, sale))) (same from (omega (arith, le))) in
    let rest = over_range one other (from + 1) n to same (omega (arith, le)) in
    λ i. here i ++ rest i

latest_agree : (one other : ℕ → List Sale) (from to n : ℕ) → n ≡ (to + 1) - from → ((g : ℕ) → g ≤ to → one g ≡ other g)
    → latest_of one (range_with_len from n) ≡ latest_of other (range_with_len from n)
latest_agree one other from to zero is same = refl
latest_agree one other from to (suc n) is same = ap reverse (over_range one other from (suc n) to same (omega (arith, is)))

module _ (facts : Facts) (e : ℕ) (h h2 : List Event) (a : AgreeUpTo facts.calendar.locked h h2) where
  data_agree : (first : Option ℕ) → option_map (transfers_data facts e h) first ≡ option_map (transfers_data facts e h2) first
  data_agree None = refl
  data_agree (Some first) =
      ap (λ rows. Some (listed (transfer_row e) rows))
      (latest_agree (sold_in h) (sold_in h2) (first + 1) facts.calendar.locked ((facts.calendar.locked + 1) - (first + 1)) refl (sold_agree facts.calendar.locked h h2 a))

pub transfers_window_alike : (caller : Caller) (book other : Book) → Alike caller book other → (facts : Facts) → book.facts ≡ Some facts → (e : ℕ)
    → transfers_window facts book.entries e ≡ transfers_window facts other.entries e
transfers_window_alike caller book other a facts there e =
    of_both (entry_in book.entries e) (entry_in other.entries e)
    (both_alike (Some facts) book.entries other.entries (subst (λ f. EntriesAlike f book.entries other.entries) there a.entries) e)
  where
    of_both : (x y : Option EntryFacts) → BothAlike (Some facts) x y
        → option_and_then (λ (entry : EntryFacts). option_map (transfers_data facts e entry.history) (start_of entry.history)) x
        ≡ option_and_then (λ (entry : EntryFacts). option_map (transfers_data facts e entry.history) (start_of entry.history)) y
    of_both None None b = refl
    of_both None (Some y) b = absurd b
    of_both (Some x) None b = absurd b
    of_both (Some x) (Some y) b = ap (option_map (transfers_data facts e x.history)) b.start ∙ data_agree facts e x.history y.history b.locked (start_of y.history)
