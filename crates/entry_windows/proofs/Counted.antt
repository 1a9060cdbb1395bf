-- The rank of an entry among all, counted entry by entry.
use Rattle.std.proofs.Common.{◌≡◌, ◌+◌, ℕ, ℤ, Bool, true, false, ◌&&◌, List, [], ◌∷◌, arith, cond, map, filter, refl, sym, ap, ◌∙◌}
use Rattle.std.proofs.lemmas.List.Sums.{sum_by-cons}
use Rattle.std.specs.List.{count_by, enumerate_from}
use Rattle.rule_book.specs.ClassicTable.{is_better}
use Rattle.season_book.specs.Book.{EntryFacts, Facts}
use Rattle.season_book.specs.EntryTotals.{is_in, overall_rank, row_through}

module _ (facts : Facts) (g : ℕ) (own : ℕ × ℤ × ℕ) where
  -- an entry is in the gameweek and better than one with this row
  abbrev pub is_above : EntryFacts → Bool
  is_above entry = is_in entry g && is_better (row_through facts g (0, entry)) own

  abbrev is_better_row : ℕ × ℤ × ℕ → Bool
  is_better_row other = is_better other own

  one_more : (n : ℕ) (entry : EntryFacts) (rows : List (ℕ × EntryFacts)) (b : Bool)
      → count_by is_better_row (map (row_through facts g) (cond b ((n, entry) ∷ rows) rows))
      ≡ cond (b && is_better (row_through facts g (0, entry)) own) 1 0 + count_by is_better_row (map (row_through facts g) rows)
  one_more n entry rows true = sum_by-cons (λ row. cond (is_better_row row) 1 0) (row_through facts g (n, entry)) (map (row_through facts g) rows)
  one_more n entry rows false = omega arith

  above_from : (n : ℕ) (entries : List EntryFacts)
      → count_by is_better_row (map (row_through facts g) (filter (λ row. is_in row.1 g) (enumerate_from n entries))) ≡ count_by is_above entries
  above_from n [] = refl
  above_from n (entry ∷ entries) =
      one_more n entry (filter (λ row. is_in row.1 g) (enumerate_from (n + 1) entries)) (is_in entry g)
      ∙ ap (λ k. cond (is_above entry) 1 0 + k) (above_from (n + 1) entries)
      ∙ sym (sum_by-cons (λ other. cond (is_above other) 1 0) entry entries)

-- one more than how many of all are in the gameweek and better
pub rank_is : (facts : Facts) (entries : List EntryFacts) (g : ℕ) (row : ℕ × EntryFacts)
    → overall_rank facts entries g row ≡ count_by (is_above facts g (row_through facts g row)) entries + 1
rank_is facts entries g row = ap (λ k. k + 1) (above_from facts g (row_through facts g row) 1 entries)
