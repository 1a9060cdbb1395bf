-- When a shelf may say that it failed.
use Rattle.std.specs.Prelude.{◌≡◌, ◌≢◌, ◌≤◌, ℕ, Result, Err}
use Rattle.fpl_base.specs.declared.outside.ShelfFault.{ShelfFault}
use Rattle.fpl_base.specs.declared.outside.ShelfFault.TheVariants as fault
use Rattle.fpl_base.specs.Causes.{Rose}

-- the count of a shelf never falls, `Failed` is answered only where it rose, and it rises only there
pub record HasShelfCause {T : Type 0} (before now : ℕ) (result : Result T ShelfFault) : Type 0 where
  pub later : before ≤ now
  pub failed : result ≡ Err fault.Failed → Rose before now
  pub only : result ≢ Err fault.Failed → now ≡ before
