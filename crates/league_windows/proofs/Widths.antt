-- A difference of numbers of one width, in a wider one.
use Rattle.std.proofs.Common.{◌≡◌, ℤ, FitsSigned, arith, of_z, to_z, w32, w64}
use Rattle.std.specs.Prelude.{◌-ℤ◌}
use Rattle.std.proofs.lemmas.Int.{ints}

pub wide_difference : (a b x y : ℤ) → FitsSigned w32 a → FitsSigned w32 b → x ≡ to_z w32 (of_z w32 a) → y ≡ to_z w32 (of_z w32 b)
    → to_z w64 (of_z w64 (to_z w64 (of_z w64 x) -ℤ to_z w64 (of_z w64 y))) ≡ a -ℤ b
wide_difference a b x y fits also is other = omega (arith, ints, fits, also, is, other)
