-- An entry's total through a gameweek, by that through the gameweek before.
use Rattle.std.proofs.Common.{◌≡◌, ◌<◌, ◌≤◌, ◌+◌, ◌-◌, ℕ, ℤ, pos, ◌+ℤ◌, Bool, true, false, ⊎_elim, List, [], ◌∷◌, ◌++◌, Some, map, max, nat_le, arith, refl, sym, ap, ◌∙◌, if◌then◌else◌}
use Rattle.std.specs.List.{range_with_len}
use Rattle.std.proofs.lemmas.Bool.Decides.{leb_tells}
use Rattle.std.proofs.lemmas.List.FromFn.{map-range_with_len_more}
use Rattle.std.proofs.lemmas.List.Sums.{fold-append}
use Rattle.rule_book.specs.HeadToHead.{total_of}
use Rattle.rule_book.specs.History.{Event}
use Rattle.rule_book.specs.Totals.{total_from}
use Rattle.season_book.specs.Book.{Facts}
use Rattle.season_book.specs.EntryViews.{score_by}
use Rattle.season_book.specs.LeagueViews.{no_side, side_by, side_of}
use Rattle.season_book.specs.EntryTotals.{total_through}

-- the sum of a list and one more
pub one_more : (xs : List ℤ) (x : ℤ) → total_of (xs ++ x ∷ []) ≡ total_of xs +ℤ x
one_more xs x = fold-append ◌+ℤ◌ (pos 0) xs (x ∷ [])

module _ (net : ℕ → ℤ) (first : ℕ) where
  -- one gameweek more, from the first on
  counted_more : (g : ℕ) → first ≤ g + 1 → total_from net 1 (Some first) (g + 1) ≡ total_from net 1 (Some first) g +ℤ net (g + 1)
  counted_more g le =
      let a : ℕ = max 1 first in
      let from : a ≤ g + 1 = omega (arith, le) in
      let more : ((g + 1) + 1) - a ≡ ((g + 1) - a) + 1 = omega (arith, from) in
      let at : a + ((g + 1) - a) ≡ g + 1 = omega (arith, from) in
      ap (λ n. total_of (map net (range_with_len a n))) more
      ∙ ap total_of (map-range_with_len_more net a ((g + 1) - a) (g + 1) at)
      ∙ one_more (map net (range_with_len a ((g + 1) - a))) (net (g + 1))

  -- and none before it
  none_counted : (g : ℕ) → g < first → total_from net 1 (Some first) g ≡ pos 0
  none_counted g early =
      let none : (g + 1) - max 1 first ≡ 0 = omega (arith, early) in
      ap (λ n. total_of (map net (range_with_len (max 1 first) n))) none

none_and_none : pos 0 ≡ pos 0 +ℤ pos 0
none_and_none = refl

module _ (facts : Facts) where
  -- the total through one more is that with its points after deductions
  pub through_more : (h : List Event) (g : ℕ) → total_through facts h (g + 1) ≡ total_through facts h g +ℤ (side_by facts h (g + 1)).net
  through_more [] g = none_and_none
  through_more (e ∷ h) g = ⊎_elim early late (leb_tells e.gw (g + 1))
    where
      net : ℕ → ℤ
      net k = (score_by facts (e ∷ h) k).net

      told : Bool → ℤ
      told b = (if b then side_of (score_by facts (e ∷ h) (g + 1)) else no_side).net

      early : (nat_le e.gw (g + 1) ≡ true) × (e.gw ≤ g + 1) → total_through facts (e ∷ h) (g + 1) ≡ total_through facts (e ∷ h) g +ℤ (side_by facts (e ∷ h) (g + 1)).net
      early is = counted_more net e.gw g is.1 ∙ ap (λ b. total_through facts (e ∷ h) g +ℤ told b) (sym is.0)

      late : (nat_le e.gw (g + 1) ≡ false) × (g + 1 < e.gw) → total_through facts (e ∷ h) (g + 1) ≡ total_through facts (e ∷ h) g +ℤ (side_by facts (e ∷ h) (g + 1)).net
      late is =
          none_counted net e.gw (g + 1) is.1
          ∙ none_and_none
          ∙ ap (λ z. z +ℤ pos 0) (sym (none_counted net e.gw g (omega (arith, is.1))))
          ∙ ap (λ b. total_through facts (e ∷ h) g +ℤ told b) (sym is.0)
