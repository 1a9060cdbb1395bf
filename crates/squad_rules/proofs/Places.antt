-- Positions, one by one.
use Rattle.std.proofs.Common.{◌≡◌, true, refl}
use Rattle.std.proofs.lemmas.Bool.{false≢true}
use Rattle.fpl_base.specs.declared.kinds.Position.{Position}
use Rattle.fpl_base.specs.declared.kinds.Position.TheVariants.{Keeper, Defender, Midfielder, Forward}
use Rattle.squad_rules.specs.Pools.{is_at}

pub at_is : (p q : Position) → is_at p q ≡ true → q ≡ p
at_is Keeper Keeper e = refl
at_is Keeper Defender e = absurd (false≢true e)
at_is Keeper Midfielder e = absurd (false≢true e)
at_is Keeper Forward e = absurd (false≢true e)
at_is Defender Keeper e = absurd (false≢true e)
at_is Defender Defender e = refl
at_is Defender Midfielder e = absurd (false≢true e)
at_is Defender Forward e = absurd (false≢true e)
at_is Midfielder Keeper e = absurd (false≢true e)
at_is Midfielder Defender e = absurd (false≢true e)
at_is Midfielder Midfielder e = refl
at_is Midfielder Forward e = absurd (false≢true e)
at_is Forward Keeper e = absurd (false≢true e)
at_is Forward Defender e = absurd (false≢true e)
at_is Forward Midfielder e = absurd (false≢true e)
at_is Forward Forward e = refl

pub at_itself : (p : Position) → is_at p p ≡ true
at_itself Keeper = refl
at_itself Defender = refl
at_itself Midfielder = refl
at_itself Forward = refl
