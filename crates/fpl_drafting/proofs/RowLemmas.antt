-- Which rows fields spell.
use Rattle.std.proofs.Common.{◌≡◌, ◌<◌, ◌^◌, ◌∙◌, ℕ, List, [], ◌∷◌, ◌++◌, Option, Some, arith, sym}
use Rattle.std.specs.Fmt.{decimal}
use Rattle.std.proofs.lemmas.Fmt.{decimal_injective}
use Rattle.csv.specs.Records.{field_at}
use Rattle.fpl_drafting.specs.Rows.{AreRowsOf, IsNumberAt, IsRowOf}
use Rattle.fpl_drafting.specs.declared.row.DraftRow.{DraftRow}

same_some : {A : Type 0} {a b : A} (o : Option A) → o ≡ Some a → o ≡ Some b → a ≡ b
same_some o p q = cc

-- a field that spells 0 spells no number from 1
pub no_zero : (fields : List (List ℕ)) (place greatest m n : ℕ) (field : List ℕ) → greatest < 2 ^ 64 → m ≡ 0 → field_at fields place ≡ Some field → field ≡ decimal m → IsNumberAt fields place greatest n → ⊥
no_zero fields place greatest m n field small none there is spelled =
    let same : m ≡ n = decimal_injective m n (omega arith) (omega (arith, spelled.1)) (sym is ∙ same_some (field_at fields place) there spelled.2) in
    omega (arith, spelled.0)

-- one more row of such a league behind these
pub rows-push : (members : ℕ) (rows : List DraftRow) (row : DraftRow) → AreRowsOf members rows → IsRowOf members row → AreRowsOf members (rows ++ row ∷ [])
rows-push members [] row are is = (is, tt)
rows-push members (first ∷ rows) row are is = (are.0, rows-push members rows row are.1 is)
