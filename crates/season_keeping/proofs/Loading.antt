-- A host whose rows were made of its keeper's records.
use Rattle.std.proofs.Common.{◌≡◌, false, true, sym}
use Rattle.fpl_base.specs.Keeping.{Map}
use Rattle.season_book.specs.Book.{Book}
use Rattle.season_opening.specs.Opening.{AreLoaded, IsKeepable, LoadedRowsStand}
use Rattle.season_records.specs.Records.{records}
use Rattle.season_keeping.specs.Housed.{Backs, Housed}
use Rattle.season_running.specs.Standing.{HostRows}
use Rattle.season_keeping.specs.Opening.{Opens}
use Rattle.season_keeping.proofs.Leading.{is_fresh}

module _ (stand : LoadedRowsStand) (K : Type 0) (tells : K → Type 0) (holds passes : K → Map → Type 0) (before after : K) (host : Housed) where
  pub backs_by : AreLoaded (tells after) (holds before) (holds after) (passes after) host.rows
      → tells after → (book : Book) → IsKeepable book → holds before (records book) → Backs holds passes after host book
  backs_by loaded tell book keepable held = record {
    keepable = keepable;
    held = loaded.loaded.holds tell (records book) held;
    stands = λ _. stand loaded.map host.rows book loaded.made keepable (sym (loaded.loaded.same tell (records book) held));
    alone = λ _ x passed. loaded.loaded.alone tell (records book) held x passed;
  }

  pub opens_by : host.stale ≡ false → AreLoaded (tells after) (holds before) (holds after) (passes after) host.rows → Opens tells holds passes before after host
  opens_by fresh loaded = record { fresh = fresh; loaded = loaded; backs = λ tell book keepable held. backs_by loaded tell book keepable held }

  -- a host that is stale still, over the keeper that was read
  pub backs_stale : (rows : HostRows) → AreLoaded (tells after) (holds before) (holds after) (passes after) rows → tells after → host.stale ≡ true
      → (book : Book) → IsKeepable book → holds before (records book) → Backs holds passes after host book
  backs_stale rows loaded tell stale book keepable held = record {
    keepable = keepable;
    held = loaded.loaded.holds tell (records book) held;
    stands = is_fresh host.stale stale;
    alone = is_fresh host.stale stale;
  }
