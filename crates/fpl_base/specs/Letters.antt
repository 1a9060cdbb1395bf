-- The letter of a position in files, bodies and answers.
use Rattle.std.specs.Prelude.{ℕ, List, codes}
use Rattle.fpl_base.specs.declared.kinds.Position.{Position}
use Rattle.fpl_base.specs.declared.kinds.Position.TheVariants.{Keeper, Defender, Midfielder, Forward}

-- G, D, M or F
abbrev pub letter_of : Position → List ℕ
letter_of Keeper = codes "G"
letter_of Defender = codes "D"
letter_of Midfielder = codes "M"
letter_of Forward = codes "F"
