-- What is written of rows one behind another.
use Rattle.std.specs.Prelude.{List, [], ◌∷◌, ◌++◌}
use Rattle.json.specs.Token.{Token}
use Rattle.serde_json.specs.Data.{Data}
use Rattle.json_members.specs.Tokens.{tokens_of}

-- the tokens of rows, without the brackets of their list
abbrev pub row_tokens : {X : Type 0} → (X → Data) → List X → List Token
row_tokens row [] = []
row_tokens row (x ∷ rows) = tokens_of (row x) ++ row_tokens row rows
