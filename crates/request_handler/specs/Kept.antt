-- What the handler keeps from message to message, and what it stands for.
use Rattle.std.specs.Prelude.{◌≡◌, ℕ, true, false, List, Option, Some, None, is_some}
use Rattle.fpl_base.specs.Keeping.{Map}
use Rattle.fpl_base.specs.Moments.{Moments}
use Rattle.fpl_base.specs.declared.kinds.Caller.{Caller}
use Rattle.fpl_http.specs.Stream.{Request}
use Rattle.fpl_requests.specs.declared.route.Route.{Route}
use Rattle.season_running.specs.Standing.{HostRows, StandsIn, keys_in}
use Rattle.season_keeping.specs.Housed.{Backs, Housed}
use Rattle.request_handler.specs.Replying.{Asking, IsLeftAt, Served, asked_by, shown_by}

-- what goes from message to message as it is kept: the host with its rows, the moments that the clock has left, if it
-- tells them, how often the keeper has failed, and the keeper
pub record Kept (K : Type 0) : Type 0 where
  pub host : Housed
  pub moments : Option Moments
  pub failed : ℕ
  pub keeper : K

-- what is kept of a host, of the moments that its clock has left, and of a keeper that has failed so often
abbrev pub kept_as : {K : Type 0} → Housed → Option Moments → ℕ → K → Kept K
kept_as host moments failed keeper = record { host = host; moments = moments; failed = failed; keeper = keeper }

-- what is served has a book in place of rows, and all else is the same
pub record Agrees {K : Type 0} (kept : Kept K) (served : Served) : Type 0 where
  pub operator : served.host.operator ≡ kept.host.rows.operator
  pub stale : is_some served.stale ≡ kept.host.stale
  pub moments : served.moments ≡ kept.moments
  pub failed : served.failed ≡ kept.failed

-- By its rows, up to the first message for which the keeper was read again.

pub record StandsByRows {K : Type 0} (kept : Kept K) (served : Served) : Type 0 where
  pub agrees : Agrees kept served
  pub first : kept.host.reread ≡ false
  pub rows : kept.host.stale ≡ false → StandsIn kept.host.rows served.host.book

-- behind that message it is not said for what it stands
abbrev pub IsStoodByRows : {K : Type 0} → Kept K → Option Served → Type 0
IsStoodByRows kept None = kept.host.reread ≡ true
IsStoodByRows kept (Some served) = StandsByRows kept served

-- The same over a keeper that tells: unless the host is stale it holds the records of what is served, and a stop leaves what
-- may be left.

pub record StandsByStops {K : Type 0} (holds passes : K → Map → Type 0) (kept : Kept K) (served : Served) : Type 0 where
  pub by_rows : StandsByRows kept served
  pub backs : kept.host.stale ≡ false → Backs holds passes kept.keeper kept.host served.host.book
  pub left : (x : Map) → passes kept.keeper x → IsLeftAt served x

abbrev pub IsStoodByStops : {K : Type 0} → (K → Map → Type 0) → (K → Map → Type 0) → Kept K → Option Served → Type 0
IsStoodByStops holds passes kept None = kept.host.reread ≡ true
IsStoodByStops holds passes kept (Some served) = StandsByStops holds passes kept served

-- By its keeper's records, as long as the keeper tells and serves.

pub record StandsByRecords {K : Type 0} (holds passes : K → Map → Type 0) (kept : Kept K) (served : Served) : Type 0 where
  pub agrees : Agrees kept served
  pub backs : Backs holds passes kept.keeper kept.host served.host.book
  pub left : (x : Map) → passes kept.keeper x → IsLeftAt served x

-- something leads from each of these to one for which is stood behind it
pub record Leads {K : Type 0} (tells serves : K → Type 0) (holds passes : K → Map → Type 0) (old new : Kept K) (how : Served → Served → Type 0) : Type 0 where
  pub by_rows : (served : Served) → StandsByRows old served → (behind : Served) × StandsByRows new behind × how served behind
  pub by_stops : tells new.keeper → (served : Served) → StandsByStops holds passes old served
      → (behind : Served) × StandsByStops holds passes new behind × how served behind
  pub by_records : tells new.keeper → serves new.keeper → (served : Served) → StandsByRecords holds passes old served
      → (behind : Served) × StandsByRecords holds passes new behind × how served behind
  pub reread : new.host.reread ≡ old.host.reread
  pub told : tells new.keeper → tells old.keeper
  pub served : tells new.keeper → serves new.keeper → serves old.keeper

-- whose key a message shows, by the rows that are kept
abbrev pub caller_in : HostRows → Option (List ℕ) → Option Caller
caller_in host key = shown_by host.operator (keys_in host) key

-- what a message asks of the host by a route with its ids, by the rows that are kept
abbrev pub asked_in : HostRows → Request → Route → List ℕ → Asking
asked_in host message route ids = asked_by (caller_in host message.key) route ids message.body

-- A session, or several, by each of the three.

-- something leads from each of these to one for which is stood behind it
pub record LeadsAll {K : Type 0} (tells serves : K → Type 0) (holds passes : K → Map → Type 0) (old new : Kept K)
    (until : Option Served → Option Served → Type 0) (whole : Served → Served → Type 0) : Type 0 where
  pub by_rows : (state : Option Served) → IsStoodByRows old state → (behind : Option Served) × IsStoodByRows new behind × until state behind
  pub by_stops : tells new.keeper → (state : Option Served) → IsStoodByStops holds passes old state
      → (behind : Option Served) × IsStoodByStops holds passes new behind × until state behind
  pub by_records : tells new.keeper → serves new.keeper → (served : Served) → StandsByRecords holds passes old served
      → (behind : Served) × StandsByRecords holds passes new behind × whole served behind
  pub told : tells new.keeper → tells old.keeper
  pub served : tells new.keeper → serves new.keeper → serves old.keeper
