-- The rank of an entry by its points of a gameweek, counted entry by entry.
use Rattle.std.proofs.Common.{◌≡◌, ◌+◌, ℕ, ℤ, Bool, true, false, ◌&&◌, List, [], ◌∷◌, Some, None, arith, cond, filter, int_lt, refl, sym, ap, ◌∙◌, if◌then◌else◌}
use Rattle.std.specs.List.{count_by, enumerate_from}
use Rattle.std.proofs.lemmas.List.Sums.{sum_by-cons}
use Rattle.std.proofs.lemmas.Option.{cond_some}
use Rattle.rule_book.specs.declared.team_score.TeamScore.{TeamScore}
use Rattle.season_book.specs.Book.{EntryFacts, Facts}
use Rattle.season_views.proofs.Scores.{none_of}
use Rattle.season_book.specs.EntryTotals.{event_rank, gross_by, is_in}

module _ (facts : Facts) (g : ℕ) (points : ℤ) where
  -- an entry is in the gameweek and has more points there
  abbrev pub has_more : EntryFacts → Bool
  has_more entry = is_in entry g && int_lt points (gross_by facts entry.history g)

  abbrev is_more : ℕ × EntryFacts → Bool
  is_more row = int_lt points (gross_by facts row.1.history g)

  one_more : (n : ℕ) (entry : EntryFacts) (rows : List (ℕ × EntryFacts)) (b : Bool)
      → count_by is_more (cond b ((n, entry) ∷ rows) rows) ≡ cond (b && int_lt points (gross_by facts entry.history g)) 1 0 + count_by is_more rows
  one_more n entry rows true = sum_by-cons (λ row. cond (is_more row) 1 0) (n, entry) rows
  one_more n entry rows false = omega arith

  more_from : (n : ℕ) (entries : List EntryFacts) → count_by is_more (filter (λ row. is_in row.1 g) (enumerate_from n entries)) ≡ count_by has_more entries
  more_from n [] = refl
  more_from n (entry ∷ entries) =
      one_more n entry (filter (λ row. is_in row.1 g) (enumerate_from (n + 1) entries)) (is_in entry g)
      ∙ ap (λ k. cond (has_more entry) 1 0 + k) (more_from (n + 1) entries)
      ∙ sym (sum_by-cons (λ other. cond (has_more other) 1 0) entry entries)

-- one more than how many of all are in the gameweek and have more points
pub event_rank_is : (facts : Facts) (entries : List EntryFacts) (g : ℕ) (row : ℕ × EntryFacts) → event_rank facts entries g row ≡ count_by (has_more facts g (gross_by facts row.1.history g)) entries + 1
event_rank_is facts entries g row = ap (λ k. k + 1) (more_from facts g (gross_by facts row.1.history g) 1 entries)

-- 1 for what is so
abbrev pub one_if : Bool → ℕ
one_if b = if b then 1 else 0

-- whether a score has more points, where it is there if the gameweek has begun
module _ (points : ℤ) (b : Bool) (score : TeamScore) where
  pub more_some : (read : TeamScore) → Some read ≡ (if b then Some score else None) → one_if (int_lt points read.gross) ≡ one_if (b && int_lt points score.gross)
  more_some read at =
      let is = cond_some b score read (sym at) in
      ap (λ (s : TeamScore). one_if (int_lt points s.gross)) (sym is.1) ∙ ap (λ t. one_if (t && int_lt points score.gross)) (sym is.0)

  pub more_none : None ≡ (if b then Some score else None) → one_if false ≡ one_if (b && int_lt points score.gross)
  more_none at = sym (ap (λ t. one_if (t && int_lt points score.gross)) (none_of b score at))
