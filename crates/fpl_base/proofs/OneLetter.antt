-- Positions of one letter are the same.
use Rattle.std.proofs.Common.{◌≡◌, ℕ, List, get_or, arith, refl, ap}
use Rattle.fpl_base.specs.declared.kinds.Position.{Position}
use Rattle.fpl_base.specs.declared.kinds.Position.TheVariants.{Keeper, Defender, Midfielder, Forward}
use Rattle.fpl_base.specs.Letters.{letter_of}

heads : (xs ys : List ℕ) → xs ≡ ys → get_or xs 0 0 ≡ get_or ys 0 0
heads xs ys e = ap (λ zs. get_or zs 0 0) e

pub same_letter : (p q : Position) → letter_of p ≡ letter_of q → p ≡ q
same_letter Keeper Keeper e = refl
same_letter Keeper Defender e = absurd (omega (arith, heads _ _ e))
same_letter Keeper Midfielder e = absurd (omega (arith, heads _ _ e))
same_letter Keeper Forward e = absurd (omega (arith, heads _ _ e))
same_letter Defender Keeper e = absurd (omega (arith, heads _ _ e))
same_letter Defender Defender e = refl
same_letter Defender Midfielder e = absurd (omega (arith, heads _ _ e))
same_letter Defender Forward e = absurd (omega (arith, heads _ _ e))
same_letter Midfielder Keeper e = absurd (omega (arith, heads _ _ e))
same_letter Midfielder Defender e = absurd (omega (arith, heads _ _ e))
same_letter Midfielder Midfielder e = refl
same_letter Midfielder Forward e = absurd (omega (arith, heads _ _ e))
same_letter Forward Keeper e = absurd (omega (arith, heads _ _ e))
same_letter Forward Defender e = absurd (omega (arith, heads _ _ e))
same_letter Forward Midfielder e = absurd (omega (arith, heads _ _ e))
same_letter Forward Forward e = refl
