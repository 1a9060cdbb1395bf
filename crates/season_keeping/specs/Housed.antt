-- What a host is over its keeper, and the books whose records the keeper holds.
use Rattle.std.specs.Prelude.{◌≡◌, Bool, Option, false}
use Rattle.fpl_base.specs.Keeping.{Map}
use Rattle.season_book.specs.Book.{Book}
use Rattle.season_records.specs.Records.{records}
use Rattle.season_cells.specs.Kept.{CellRows}
use Rattle.season_opening.specs.Opening.{IsKeepable}
use Rattle.season_running.specs.Standing.{HostRows, StandsIn}

-- its rows; its cells, once a season runs; whether they are stale, since a call of the keeper failed or memory ran out on
-- the way; and whether the keeper was read again since the host was opened
pub record Housed : Type 0 where
  pub rows : HostRows
  pub cells : Option CellRows
  pub stale : Bool
  pub reread : Bool

-- the keeper holds the records of a book; and a host that is not stale stands for it, and a stop leaves these records alone
pub record Backs {K : Type 0} (holds passes : K → Map → Type 0) (keeper : K) (host : Housed) (book : Book) : Type 0 where
  pub keepable : IsKeepable book
  pub held : holds keeper (records book)
  pub stands : host.stale ≡ false → StandsIn host.rows book
  pub alone : host.stale ≡ false → (x : Map) → passes keeper x → x ≡ records book
