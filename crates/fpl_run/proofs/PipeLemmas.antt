-- A host that was not opened.
use Rattle.std.proofs.Common.{ℕ, List, Option, inr, refl}
use Rattle.fpl_base.specs.Keeping.{Map}
use Rattle.fpl_base.specs.Moments.{Moments}
use Rattle.season_opening.specs.declared.loading.OpenFault.{OpenFault}
use Rattle.season_keeping.specs.Opening.{HoldsOn, Withholds}
use Rattle.fpl_run.specs.Keeping.{TellsFault}
use Rattle.fpl_run.specs.Pipe.{Pipes}

module _ (K : Type 0) (tells serves : K → Type 0) (holds passes : K → Map → Type 0) (faults : K → ℕ) (old new : K) where
  pub unopened_pipes : (key : List ℕ) (left : Option (List ℕ)) (moments : Option Moments) (before after : Option (List ℕ)) (status first : ℕ) (why : OpenFault)
      → Withholds tells holds passes faults old new why → HoldsOn tells serves holds passes old new → TellsFault why status before after
      → Pipes tells serves holds passes faults old new key left left moments moments before after status first first
  unopened_pipes key left moments before after status first why withholds holds_on told = inr (refl, refl, (why, withholds, holds_on, told))

-- a keeper that was not asked holds what it held
pub holds_still : (K : Type 0) (tells serves : K → Type 0) (holds passes : K → Map → Type 0) (keeper : K) → HoldsOn tells serves holds passes keeper keeper
holds_still K tells serves holds passes keeper = record { kept = λ tell serve m held. held; stops = λ tell m held x passed. passed }
