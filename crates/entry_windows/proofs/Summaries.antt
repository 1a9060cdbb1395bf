-- What is told of an entry that may be in the last locked gameweek.
use Rattle.std.proofs.Common.{◌≡◌, Bool, true, false, Some, None, refl, if◌then◌else◌}
use Rattle.std.specs.Option.{option_map}

-- of one that is there, if it is
pub told_if : {X Y : Type 0} (f : X → Y) (b : Bool) (x : X) → option_map f (if b then Some x else None) ≡ (if b then Some (f x) else None)
told_if f true x = refl
told_if f false x = refl
