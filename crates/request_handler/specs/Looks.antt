-- How many reads are counted while nothing but views is asked, and no deadline passes by the moments that the clock told.
use Rattle.std.specs.Prelude.{◌≡◌, ◌≤◌, ◌+◌, ◌⊎◌, ℕ, List, [], ◌∷◌, Option, Ok, Err, true, false, sum, ⊤}
use Rattle.std.specs.Io.KnownBytes.{Consumes}
use Rattle.fpl_base.specs.Moments.{Moments, Tells}
use Rattle.fpl_base.specs.declared.kinds.Caller.{Caller}
use Rattle.fpl_http.specs.Stream.{Request as Message}
use Rattle.fpl_requests.specs.Targets.{IsFound}
use Rattle.fpl_requests.specs.declared.route.Found.TheVariants as found
use Rattle.fpl_requests.specs.declared.route.Route.{Route}
use Rattle.fpl_http.specs.Replies.{Speaks}
use Rattle.fpl_http.specs.Runs.{Run}
use Rattle.fpl_http.specs.Stops.{Leads}
use Rattle.season_book.specs.Book.{Book}
use Rattle.season_book.specs.Hosts.{HostState}
use Rattle.season_book.specs.declared.request.Request.{Request}
use Rattle.season_book.specs.declared.request.Request.TheVariants as request
use Rattle.season_host.specs.Accepted.{locks_more}
use Rattle.season_running.specs.Standing.{HostRows, StandsIn, passed}
use Rattle.season_views.specs.Reads.{view_reads}
use Rattle.request_handler.specs.Replying.{Asking, IsAsked, Reply}
use Rattle.request_handler.specs.Kept.{Kept, asked_in}

-- what goes from message to message as it is kept, and how many reads were counted
pub record Counted (K : Type 0) : Type 0 where
  pub kept : Kept K
  pub reads : ℕ

abbrev pub counted_as : {K : Type 0} → Kept K → ℕ → Counted K
counted_as kept reads = record { kept = kept; reads = reads }

-- the host of what is kept, with a book in place of its rows
abbrev pub host_with : {K : Type 0} → Counted K → Book → HostState
host_with now book = record { operator = now.kept.host.rows.operator; book = book }

-- Looks.

-- a caller asks a view, which makes so many counted reads in the book at most
abbrev pub IsViewOf : Book → Caller → Request → ℕ → Type 0
IsViewOf book caller (request.View view) most = most ≡ view_reads book caller view
IsViewOf book caller (request.Command number command) most = ⊥

-- so it is of what was found to be asked; and what is refused before the host judges it allows none
abbrev pub MayRead : Book → Asking → ℕ → Type 0
MayRead book (Ok (caller, asked)) most = IsViewOf book caller asked most
MayRead book (Err refusal) most = most ≡ 0

-- a message asks nothing else of a host
abbrev pub IsLook : HostState → Message → ℕ → Type 0
IsLook host message most = (asking : Asking) → IsAsked host message asking → MayRead host.book asking most

-- nor does any of these messages, of which each allows so many reads
abbrev pub AreLooks : HostState → List Message → List ℕ → Type 0
AreLooks host [] [] = ⊤
AreLooks host (m ∷ messages) (most ∷ more) = IsLook host m most × AreLooks host messages more
AreLooks host messages more = ⊥

-- no command is asked
abbrev pub IsNoCommand : Request → Type 0
IsNoCommand (request.View view) = ⊤
IsNoCommand (request.Command number command) = ⊥

abbrev pub AsksNoCommand : Asking → Type 0
AsksNoCommand (Ok (caller, asked)) = IsNoCommand asked
AsksNoCommand (Err refusal) = ⊤

-- nor does a message ask one of a host with these rows, or any of these
abbrev pub OrdersNone : HostRows → Message → Type 0
OrdersNone rows message = (route : Route) (ids : List ℕ) → IsFound message.method message.target (found.Route route ids) → AsksNoCommand (asked_in rows message route ids)

abbrev pub AllOrderNone : HostRows → List Message → Type 0
AllOrderNone rows [] = ⊤
AllOrderNone rows (m ∷ messages) = OrdersNone rows m × AllOrderNone rows messages

-- Moments.

-- a clock told these moments, one after another
abbrev pub TellsOn : Option Moments → List ℕ → Option Moments → Type 0
TellsOn old [] new = new ≡ old
TellsOn old (now ∷ told) new = (mid : Option Moments) × Tells old now mid × TellsOn mid told new

-- none of them locks a gameweek
abbrev pub LockNone : Book → List ℕ → Type 0
LockNone book [] = ⊤
LockNone book (now ∷ told) = (locks_more book.facts now ≡ false) × LockNone book told

-- the rows with the locks of these moments, one after another
abbrev pub passed_on : List ℕ → HostRows → HostRows
passed_on [] rows = rows
passed_on (now ∷ told) rows = passed_on told (passed now rows)

-- What is counted.

-- the host and its keeper are as they were, and no more than so many reads were counted
pub record LooksOn {K : Type 0} (old new : Counted K) (most : ℕ) : Type 0 where
  pub host : new.kept.host ≡ old.kept.host
  pub keeper : new.kept.keeper ≡ old.kept.keeper
  pub reads : new.reads ≤ old.reads + most

-- What was found to be asked of a host that is ready. In each book that its rows stand for, where no moment that was told for it
-- locks a gameweek, it counts no more than it may; and unless it is a command the rows have the locks of these moments, and
-- nothing else
pub record CountsAs {K : Type 0} (asking : Asking) (old new : Counted K) : Type 0 where
  pub told : List ℕ
  pub tells : TellsOn old.kept.moments told new.kept.moments
  pub few : (book : Book) → StandsIn old.kept.host.rows book → (most : ℕ) → MayRead book asking most → LockNone book told → LooksOn old new most
  pub locks : AsksNoCommand asking → new.kept.host.rows ≡ passed_on told old.kept.host.rows

-- so it is of a message that comes to a host that is not stale; a stale one is read again, or stays as it is
pub record CountsLooks {K : Type 0} (old : Counted K) (message : Message) (reply : Reply) (new : Counted K) : Type 0 where
  pub told : List ℕ
  pub tells : TellsOn old.kept.moments told new.kept.moments
  pub few : old.kept.host.stale ≡ false → (book : Book) → StandsIn old.kept.host.rows book → (most : ℕ) → IsLook (host_with old book) message most → LockNone book told
      → LooksOn old new most
  pub locks : old.kept.host.stale ≡ false → OrdersNone old.kept.host.rows message → new.kept.host.rows ≡ passed_on told old.kept.host.rows
  pub again : old.kept.host.reread ≡ true → new.kept.host.reread ≡ true
  pub stale : old.kept.host.stale ≡ true → (new.kept.host ≡ old.kept.host) ⊎ (new.kept.host.reread ≡ true)

-- Where these messages ask nothing but views of a host that is not stale, and no moment that was told for them locks a gameweek,
-- the host and its keeper stay, and no more reads are counted than these views allow in all. And where none orders anything, the
-- rows of a host that is not stale behind them, and was not read again, have the locks of the moments that were told, and
-- nothing else: so where no gameweek is locked behind them that was not before, none of the moments locked one.
pub record ReadFew {K : Type 0} (messages : List Message) (old new : Counted K) : Type 0 where
  pub told : List ℕ
  pub tells : TellsOn old.kept.moments told new.kept.moments
  pub few : (book : Book) (more : List ℕ) → old.kept.host.stale ≡ false → StandsIn old.kept.host.rows book
      → AreLooks (host_with old book) messages more → LockNone book told → LooksOn old new (sum more)
  pub locks : old.kept.host.stale ≡ false → AllOrderNone old.kept.host.rows messages → new.kept.host.stale ≡ false → new.kept.host.reread ≡ false
      → new.kept.host.rows ≡ passed_on told old.kept.host.rows

-- so it is of every run
abbrev pub RunsReadFew : Type 0 → Type 0
RunsReadFew K =
    (old new : Counted K) (messages : List Message) (texts : List (List ℕ)) → Run (Speaks CountsLooks) old messages texts new → ReadFew messages old new

-- and of the messages that a session answered, which stand at the front of the bytes that it took
abbrev pub SessionReadsFew : {K : Type 0} → Option (List ℕ) → Option (List ℕ) → Counted K → Counted K → Type 0
SessionReadsFew left now old new =
    (got : List ℕ) × Consumes left now got × ((messages : List Message) × Leads got messages × ReadFew messages old new)
