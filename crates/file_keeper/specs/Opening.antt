-- What files hold before they are opened, and what is told of a store that was.
use Rattle.std.specs.Prelude.{◌≡◌, ◌≢◌, ℕ, List, codes}
use Rattle.sqlite_wal.specs.Recovery.{Image}
use Rattle.sqlite.specs.Effect.{Database, IsDatabase}
use Rattle.sqlite.specs.Files.{AreFoundIn}
use Rattle.sqlite.specs.State.{State, HasCleanDisk, IsLive, Opens}
use Rattle.fpl_base.specs.Keeping.{Map}
use Rattle.season_keeper.specs.Holding.{Tells}

-- a database file and its log tell this map: an opening may find a database in them, and each that it may find tells the map
pub record FilesTell (image : Image) (m : Map) : Type 0 where
  pub db : Database
  pub found : AreFoundIn image db.trees
  pub sound : IsDatabase db
  pub each : (d : Database) → AreFoundIn image d.trees → IsDatabase d → Tells d m

-- a database of the trees that were committed tells this map
abbrev pub CommittedTells : State → Map → Type 0
CommittedTells s m = (db : Database) × (db.trees ≡ s.committed.trees) × Tells db m

-- A store was just opened by this path, and where the disk is clean it is open and shows what was committed. No file is opened
-- by the name of what stands in memory alone.
pub record IsOpenedBy (path : List ℕ) (s : State) : Type 0 where
  pub named : path ≢ codes ":memory:"
  pub opened : HasCleanDisk s → Opens s × IsLive s

-- so it was, over files of which this is known: a keeper that tells holds what they told, and a stop leaves that alone
pub record IsBegunBy (image : Image) (path : List ℕ) (tells : Type 0) (holds passes : Map → Type 0) : Type 0 where
  pub named : path ≢ codes ":memory:"
  pub held : tells → (m : Map) → FilesTell image m → holds m
  pub alone : tells → (m : Map) → FilesTell image m → (x : Map) → passes x → x ≡ m
