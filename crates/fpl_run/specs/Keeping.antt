-- What a run of the host is over its keeper.
use Rattle.std.specs.Prelude.{◌≡◌, ◌++◌, ℕ, List, [], ◌∷◌, Option, Some, None, IfSome, codes}
use Rattle.std.specs.Fmt.{decimal}
use Rattle.fpl_base.specs.Keeping.{Map}
use Rattle.fpl_base.specs.Moments.{Moments}
use Rattle.fpl_base.specs.declared.records.RecordKey.{RecordKey}
use Rattle.season_book.specs.Book.{Book}
use Rattle.season_opening.specs.Opening.{AreLoaded, IsKeepable}
use Rattle.season_opening.specs.declared.loading.OpenFault.{OpenFault}
use Rattle.season_opening.specs.declared.loading.OpenFault.TheVariants as fault
use Rattle.season_records.specs.Records.{records}
use Rattle.season_running.specs.Standing.{HostRows, StandsIn}
use Rattle.season_keeping.specs.Opening.{HoldsOn, Withholds}
use Rattle.local_requests.specs.Printing.{PrintsOne}
use Rattle.request_handler.specs.Replying.{IsLeftAt, Served}

-- where a run begins: a host of this operator with this book, all the moments of the clock, and how often the keeper has
-- failed
abbrev pub opened : List ℕ → Book → Option Moments → ℕ → Served
opened key book moments failed = record { host = record { operator = key; book = book }; moments = moments; failed = failed; stale = None }

-- where it ends: these moments are left, and the keeper has failed so often
abbrev pub IsBehind : Option Moments → ℕ → Served → Type 0
IsBehind later fails served = (served.moments ≡ later) × (served.failed ≡ fails)

-- A run over a keeper, from the book that was opened, by three views of it.

pub record Runs {K : Type 0} (tells serves : K → Type 0) (holds passes : K → Map → Type 0) (before after : K) (key : List ℕ) (moments later : Option Moments) (failed fails : ℕ)
    (until : Option Served → Option Served → Type 0) (whole : Served → Served → Type 0) : Type 0 where
  -- rows were made of the records that the keeper gave at the start; from each book for which they stand the run goes as it may, up to
  -- the first message for which the keeper was read again
  pub rows : HostRows
  pub start : K
  pub loaded : AreLoaded (tells start) (holds before) (holds start) (passes start) rows
  pub by_rows : (book : Book) → StandsIn rows book
      → (behind : Option Served) × IfSome behind (IsBehind later fails) × until (Some (opened key book moments failed)) behind
  -- over a keeper that tells, and held the records of a book, so it goes from that one; and a stop leaves what may be left
  pub by_stops : tells after → (book : Book) → IsKeepable book → holds before (records book)
      → (behind : Option Served) × IfSome behind (λ served. IsBehind later fails served × ((x : Map) → passes after x → IsLeftAt served x))
      × until (Some (opened key book moments failed)) behind
  -- over one that tells and serves, so it goes to its end; the keeper holds the records of the last book, and a stop leaves
  -- what may be left
  pub by_records : tells after → serves after → (book : Book) → IsKeepable book → holds before (records book)
      → (behind : Served) × IsBehind later fails behind × holds after (records behind.host.book) × ((x : Map) → passes after x → IsLeftAt behind x)
      × whole (opened key book moments failed) behind

-- A host that was not opened.

-- the line that names a record that is not lawful
abbrev pub damaged_text : RecordKey → List ℕ
damaged_text key = codes "damaged " ++ (decimal key.kind ++ 32 ∷ (decimal key.a ++ 32 ∷ (decimal key.b ++ 32 ∷ (decimal key.c ++ 10 ∷ []))))

-- what is told of a fault: nothing where the keeper failed, status 4, or memory ran out, status 6; and the key of a record
-- that is not lawful, status 5, unless there is no memory for the line
abbrev pub TellsFault : OpenFault → ℕ → Option (List ℕ) → Option (List ℕ) → Type 0
TellsFault fault.Keeper status before after = (status ≡ 4) × (after ≡ before)
TellsFault fault.Memory status before after = (status ≡ 6) × (after ≡ before)
TellsFault (fault.Damaged key) status before after = PrintsOne (λ text. text ≡ damaged_text key) 5 status before after

-- the host was not opened for a fault, which was told, and what the keeper held it holds still
abbrev pub IsUnopened : {K : Type 0} → (K → Type 0) → (K → Type 0) → (K → Map → Type 0) → (K → Map → Type 0) → (K → ℕ) → K → K → Option (List ℕ) → Option (List ℕ) → ℕ → Type 0
IsUnopened tells serves holds passes faults old new before after status =
    (why : OpenFault) × Withholds tells holds passes faults old new why × HoldsOn tells serves holds passes old new × TellsFault why status before after
