-- What is read of a table, and the summary of a season.
use Rattle.std.specs.Prelude.{ℕ, ℤ, pos, ◌+ℤ◌, List, [], ◌∷◌, ◌++◌, Option, Some, None, codes}
use Rattle.std.specs.Fmt.{decimal, signed_decimal}
use Rattle.season_book.specs.declared.answer.Answer.{Answer}
use Rattle.season_book.specs.declared.answer.Answer.TheVariants as answer
use Rattle.season_book.specs.declared.shown.Shown.TheVariants as shown
use Rattle.season_book.specs.declared.shown.ShownRanked.{ShownRanked}
use Rattle.season_generator.specs.declared.table.Table.{Table}

-- the totals of all rows together
abbrev pub sum_of : List ShownRanked → ℤ
sum_of [] = pos 0
sum_of (ranked ∷ rows) = ranked.row.total +ℤ sum_of rows

-- what rows tell: the sum of their totals, and the entry and the total of the first; nothing where there is none
abbrev pub table_in : List ShownRanked → Option Table
table_in [] = None
table_in (first ∷ rows) = Some (record { sum = sum_of (first ∷ rows); entry = first.row.entry; total = first.row.total })

-- what an answer tells that shows the table of a classic league
abbrev pub table_of : Answer → Option Table
table_of (answer.Shown (shown.Classic league)) = table_in league.rows
table_of told = None

-- the five lines: how many players and entries there are, the sums before the last step and behind it, and the entry and
-- the total of the first row
abbrev pub summary_text : ℤ → ℤ → ℕ → ℤ → List ℕ
summary_text before behind entry total =
    codes "players 600" ++ 10 ∷ (codes "entries 500" ++ 10 ∷ (codes "sum " ++ (signed_decimal before ++ 10 ∷ (codes "sum " ++ (signed_decimal behind ++ 10 ∷ (
    codes "best " ++ (decimal entry ++ 32 ∷ (signed_decimal total ++ 10 ∷ []))))))))
