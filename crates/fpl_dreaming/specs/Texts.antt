-- What is written of a team of the week.
use Rattle.std.specs.Prelude.{ℕ, ◌==◌, List, [], ◌∷◌, ◌++◌, codes, find}
use Rattle.std.specs.Fmt.{decimal, signed_decimal}
use Rattle.std.specs.List.{flat_map}
use Rattle.std.specs.Option.{option_map_or}
use Rattle.fpl_base.specs.Letters.{letter_of}
use Rattle.squad_rules.specs.Elevens.{Row}
use Rattle.squad_rules.specs.declared.dream.Dream.{Dream}

-- the line of a row: the player, the letter of his position, and his points
abbrev pub row_text : Row → List ℕ
row_text row = decimal row.0 ++ (codes "," ++ (letter_of row.1 ++ (codes "," ++ (signed_decimal row.2 ++ 10 ∷ []))))

-- the line of a player, who has one of the rows
abbrev pub line_of : List Row → ℕ → List ℕ
line_of rows player = option_map_or row_text (find (λ row. row.0 == player) rows) []

-- the lines of players, one after another
abbrev pub lines_of : List Row → List ℕ → List ℕ
lines_of rows players = flat_map (line_of rows) players

-- a header, the lines of the eleven in their order, and their total
abbrev pub dream_text : List Row → Dream → List ℕ
dream_text rows dream =
    codes "player,position,points" ++ 10 ∷ (lines_of rows dream.players ++ (codes "total," ++ (signed_decimal dream.total ++ (codes "," ++ 10 ∷ []))))

-- the line where no legal eleven can be formed
abbrev pub no_eleven_text : List ℕ
no_eleven_text = codes "rule 50" ++ 10 ∷ []
