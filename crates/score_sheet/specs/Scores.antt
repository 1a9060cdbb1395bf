-- What the rows of a finished match score by the rules of a profile, and the text of it.
use Rattle.std.specs.Prelude.{ℕ, ℤ, pos, ◌+ℤ◌, List, [], ◌∷◌, ◌++◌, codes}
use Rattle.std.specs.List.{flat_map}
use Rattle.std.specs.Fmt.{decimal, signed_decimal}
use Rattle.fpl_base.specs.declared.kinds.Profile.{Profile}
use Rattle.rule_book.specs.Bonus.{bonus_in}
use Rattle.rule_book.specs.BonusPoints.{bps_of}
use Rattle.rule_book.specs.Points.{points_of}
use Rattle.rule_book.specs.declared.line.Appearance.{Appearance}

-- five numbers between commas, and the end of the line
abbrev pub numbers_text : ℕ → ℤ → ℤ → ℕ → ℤ → List ℕ
numbers_text player points number bonus total =
    decimal player ++ (codes "," ++ (signed_decimal points ++ (codes "," ++ (signed_decimal number ++ (codes "," ++ (decimal bonus ++ (codes "," ++ (signed_decimal total ++ 10 ∷ []))))))))

-- the line for a row with this bonus: player, points, number in the bonus points system, bonus, total
unfoldable pub line_text : Profile → Appearance → ℕ → List ℕ
line_text profile row bonus =
    let points = points_of profile row.position row.line in
    numbers_text row.player points (bps_of row.position row.line) bonus (points +ℤ pos bonus)

-- the text for the rows of a match: a line for each, in their order
abbrev pub score_text : Profile → List Appearance → List ℕ
score_text profile rows = flat_map (λ row. line_text profile row (bonus_in rows row)) rows
