-- Totals that are summed row by row.
use Rattle.std.proofs.Common.{◌≡◌, ◌∙◌, ◌<◌, ◌+◌, ℕ, suc, List, ◌∷◌, length, drop, drop-cons, get_or, add-one, ◌+ℤ◌, arith, ap, sym}
use Rattle.std.specs.Prelude.{ℤ}
use Rattle.std.proofs.lemmas.Int.{ints}
use Rattle.season_book.specs.declared.shown.ShownRanked.{ShownRanked}
use Rattle.season_generator.specs.Summaries.{sum_of}

-- the sum so far, with that of the rows that are left, stays as one more row is taken
pub sum_more : (rows : List ShownRanked) (at : ℕ) (row : ShownRanked) (sum all : ℤ) → at < length rows → row ≡ get_or rows at row
    → sum +ℤ sum_of (drop at rows) ≡ all → (sum +ℤ row.row.total) +ℤ sum_of (drop (at + 1) rows) ≡ all
sum_more rows at row sum all within is so_far =
    let front : drop at rows ≡ row ∷ drop (at + 1) rows = rw add-one (drop-cons rows at row within ∙ ap (λ (first : ShownRanked). first ∷ drop (suc at) rows) (sym is)) in
    let left : sum_of (drop at rows) ≡ row.row.total +ℤ sum_of (drop (at + 1) rows) = ap sum_of front in
    omega (arith, ints, left, so_far)
