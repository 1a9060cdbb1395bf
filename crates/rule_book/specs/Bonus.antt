-- The bonus of a match: 3 less the number of players of the match who took part and stand above.
use Rattle.std.specs.Prelude.{Bool, ℕ, ℤ, ◌-◌, List, map, filter, count_by, int_lt, nat_le, if◌then◌else◌}
use Rattle.rule_book.specs.declared.line.Appearance.{Appearance}
use Rattle.rule_book.specs.declared.line.Line.{Line}
use Rattle.rule_book.specs.Figures.{figure}
use Rattle.rule_book.specs.BonusPoints.{bps_of}

-- he takes part with at least one minute
abbrev pub takes_part : Line → Bool
takes_part line = nat_le 1 (figure line 1)

-- those who took part, each with his number in the bonus points system
unfoldable pub standing : List Appearance → List (ℕ × ℤ)
standing match = map (λ a. (a.player, bps_of a.position a.line)) (filter (λ a. takes_part a.line) match)

-- how many of a standing have a greater number
abbrev pub number_above : List (ℕ × ℤ) → ℤ → ℕ
number_above table own = count_by (λ row. int_lt own row.1) table

-- the bonus of who has this number: 3, 2 and 1 for nobody, one and two above
abbrev pub bonus_of : List (ℕ × ℤ) → ℤ → ℕ
bonus_of table own = 3 - number_above table own

-- the bonus of a player of a match that is finished
abbrev pub bonus_in : List Appearance → Appearance → ℕ
bonus_in match a = if takes_part a.line then bonus_of (standing match) (bps_of a.position a.line) else 0
