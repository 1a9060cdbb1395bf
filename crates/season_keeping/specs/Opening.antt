-- What a host is that was opened over its keeper, or made anew of the keeper's records, and why it was not.
use Rattle.std.specs.Prelude.{◌≡◌, ℕ, false}
use Rattle.fpl_base.specs.Causes.{Rose}
use Rattle.fpl_base.specs.Keeping.{Map}
use Rattle.season_book.specs.Book.{Book}
use Rattle.season_opening.specs.Opening.{AreLoaded, IsDamaged, IsKeepable}
use Rattle.season_opening.specs.declared.loading.OpenFault.{OpenFault}
use Rattle.season_opening.specs.declared.loading.OpenFault.TheVariants as fault
use Rattle.season_records.specs.Records.{records}
use Rattle.season_keeping.specs.Housed.{Backs, Housed}

-- a host's rows were made of its keeper's records: where the keeper tells, they stand for each book whose records it held
pub record Opens {K : Type 0} (tells : K → Type 0) (holds passes : K → Map → Type 0) (before after : K) (host : Housed) : Type 0 where
  pub fresh : host.stale ≡ false
  pub loaded : AreLoaded (tells after) (holds before) (holds after) (passes after) host.rows
  pub backs : tells after → (book : Book) → IsKeepable book → holds before (records book) → Backs holds passes after host book

-- the keeper failed, whose count rose meanwhile; or it gave a record under this key that is not lawful; or memory ran out
abbrev pub Withholds : {K : Type 0} → (K → Type 0) → (K → Map → Type 0) → (K → Map → Type 0) → (K → ℕ) → K → K → OpenFault → Type 0
Withholds tells holds passes faults before after fault.Keeper = Rose (faults before) (faults after)
Withholds tells holds passes faults before after (fault.Damaged key) = IsDamaged (tells after) (holds before) (holds after) (passes after) key
Withholds tells holds passes faults before after fault.Memory = faults after ≡ faults before

-- what a keeper that tells and serves holds it holds still, and a stop leaves nothing that it might not have left before
pub record HoldsOn {K : Type 0} (tells serves : K → Type 0) (holds passes : K → Map → Type 0) (before after : K) : Type 0 where
  pub kept : tells after → serves after → (m : Map) → holds before m → holds after m
  pub stops : tells after → (m : Map) → holds before m → (x : Map) → passes after x → passes before x
