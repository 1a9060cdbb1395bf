-- What a keeper gave, and what was made of it.
use Rattle.std.specs.Prelude.{◌≡◌, ℕ, List, Result, Ok, Err, IfOk, OnErr, OnOk}
use Rattle.fpl_base.specs.Keeping.{Map, map_of}
use Rattle.stored_records.specs.Stored.{Rows}
use Rattle.season_running.specs.Standing.{host_rows}
use Rattle.season_restoring.specs.declared.books.Restored.{Restored}
use Rattle.season_opening.specs.Opening.{AreLoaded, AreMadeOf, IsLoaded}
use Rattle.season_opening.specs.declared.loading.OpenFault.{OpenFault}

-- what holds holds behind an error, and behind none
pub behind_err : {T E P : Type 0} (r : Result T E) → P → OnErr r P
behind_err (Ok x) p = tt
behind_err (Err e) p = p

pub behind_ok : {T E P : Type 0} (r : Result T E) → P → OnOk r P
behind_ok (Ok x) p = p
behind_ok (Err e) p = tt

module _ (tells : Type 0) (before after passes : Map → Type 0) where
  -- a keeper that gave these pairs gave their map
  pub pairs_loaded : (pairs : Rows) → (tells → (m : Map) → before m → m ≡ map_of pairs)
      → (tells → (m : Map) → before m → after m) → (tells → (m : Map) → before m → (x : Map) → passes x → x ≡ m)
      → IsLoaded tells before after passes (map_of pairs)
  pairs_loaded pairs gave done alone = record { same = gave; holds = done; alone = alone }

  -- what was made of the map was loaded
  pub made_loaded : (m : Map) → IsLoaded tells before after passes m → (result : Result Restored OpenFault)
      → IfOk result (λ made. (operator : List ℕ) → AreMadeOf m (host_rows operator made.running made.lasts))
      → IfOk result (λ made. (operator : List ℕ) → AreLoaded tells before after passes (host_rows operator made.running made.lasts))
  made_loaded m loaded (Ok made) each = λ operator. record { map = m; loaded = loaded; made = each operator }
  made_loaded m loaded (Err fault) each = tt
