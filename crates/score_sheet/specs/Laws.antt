-- What an input scores is one text, or it has one first wrong row.
use Rattle.std.specs.Prelude.{◌≡◌, ℕ, List}
use Rattle.fpl_base.specs.declared.kinds.Profile.{Profile}
use Rattle.score_sheet.specs.Sheets.{Scores, HasWrongRow}

-- no input has two texts by the rules of one profile
abbrev pub OneText : Type 0
OneText = (profile : Profile) (bytes t u : List ℕ) → Scores profile bytes t → Scores profile bytes u → t ≡ u

-- no input has a text and a wrong row
abbrev pub TextOrWrongRow : Type 0
TextOrWrongRow = (profile : Profile) (bytes t : List ℕ) (n : ℕ) → Scores profile bytes t → HasWrongRow bytes n → ⊥

-- no input has two first wrong rows
abbrev pub OneWrongRow : Type 0
OneWrongRow = (bytes : List ℕ) (m n : ℕ) → HasWrongRow bytes m → HasWrongRow bytes n → m ≡ n
