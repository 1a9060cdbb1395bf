-- a text that is no UTF-8 fails the test for it
use Rattle.std.proofs.Common.{Bool, true, false, ◌≡◌, refl, ℕ, List}
use Rattle.std.proofs.lemmas.Str.{IsUtf8-from_is_utf8}
use Rattle.std.specs.Str.{is_utf8, IsUtf8}

pub false_where_not : (b : Bool) → (b ≡ true → ⊥) → false ≡ b
false_where_not true no_way = absurd (no_way refl)
false_where_not false no_way = refl

pub is_utf8-false : (bs : List ℕ) → (IsUtf8 bs → ⊥) → false ≡ is_utf8 bs
is_utf8-false bs no_way = false_where_not (is_utf8 bs) (λ e. no_way (IsUtf8-from_is_utf8 bs e))
