-- The law of what is told of a gameweek: the points of what explains a player's lines are his points of the gameweek.
use Rattle.std.specs.Prelude.{◌≡◌, ℕ, ℤ, pos, ◌+ℤ◌, fold}
use Rattle.season_book.specs.Book.{Facts}
use Rattle.season_book.specs.DreamTeamWindow.{figures_of}
use Rattle.season_book.specs.Explained.{points_of_items}
use Rattle.season_book.specs.LineSums.{gameweek_lines, points_over}
use Rattle.season_book.specs.LiveWindow.{explained_items}

-- what explains a player's lines in a gameweek makes in all
abbrev pub explained_points : Facts → ℕ → ℕ → ℤ
explained_points facts p g =
    fold (λ total row. total +ℤ points_of_items (explained_items facts p row)) (pos 0) (gameweek_lines facts p g)

-- it is what the gameweek shows as his points
abbrev pub PointsAreExplained : Type 0
PointsAreExplained = (facts : Facts) (p g : ℕ) → explained_points facts p g ≡ points_over facts p (gameweek_lines facts p g)

-- which are those that he has in it
abbrev pub PointsAreHis : Type 0
PointsAreHis = (facts : Facts) (p g : ℕ) → points_over facts p (gameweek_lines facts p g) ≡ (figures_of facts p g).points
