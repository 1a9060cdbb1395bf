-- What is written of a match by its events.
use Rattle.std.specs.Prelude.{ℕ, List, [], ◌∷◌, ◌++◌, codes}
use Rattle.std.specs.Fmt.{decimal}

-- the line that says how many commands were sent
abbrev pub sent_text : ℕ → List ℕ
sent_text sent = codes "sent " ++ (decimal sent ++ 10 ∷ [])
