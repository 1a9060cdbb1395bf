-- Rows of a table, one after the other, as members.
use Rattle.std.proofs.Common.{◌≡◌, ◌<◌, ℕ, List, All, Contains, Some, length, get_or, refl, sym, subst}
use Rattle.std.specs.List.{slice_get}
use Rattle.std.proofs.lemmas.Option.{slice_get_read}

-- what was read at a place is a member, where all are
pub member_read : {R : Type 0} (entry : R → ℕ) (members : List ℕ) (rows : List R) (i : ℕ) (row : R) → All (λ r. Contains members (entry r)) rows → i < length rows → row ≡ get_or rows i row → Contains members (entry row)
member_read entry members rows i row all within is = subst (λ r. Contains members (entry r)) (sym is) (all i row within)

pub stands_at : {R : Type 0} (rows : List R) (i : ℕ) (row : R) → i < length rows → row ≡ get_or rows i row → slice_get rows i ≡ Some row
stands_at rows i row within is = slice_get_read rows (length rows) i row refl within is
