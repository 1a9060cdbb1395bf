-- Rows that are kept one after another.
use Rattle.std.specs.Prelude.{List, [], ◌∷◌, ◌++◌, Option, Some, None}
use Rattle.squad_rules.specs.Elevens.{Row}

-- rows, and one more if there is one
abbrev pub with_row : List Row → Option Row → List Row
with_row rows None = rows
with_row rows (Some row) = rows ++ row ∷ []
