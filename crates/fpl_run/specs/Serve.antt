-- The command that serves connections.
use Rattle.std.specs.Prelude.{◌≡◌, ◌≢◌, ◌⊎◌, ◌<◌, ◌++◌, ℕ, zero, suc, List, [], ◌∷◌, Option, Some, None, Result, Ok, Err, IfSome, drop, ⊤}
use Rattle.fpl_base.specs.Causes.{Rose}
use Rattle.fpl_base.specs.Doors.{Ended, GivesBack, Opens}
use Rattle.fpl_base.specs.Keeping.{Map}
use Rattle.fpl_base.specs.Moments.{Moments}
use Rattle.fpl_base.specs.declared.outside.Failed.{Failed}
use Rattle.fpl_http.specs.Stream.{Request}
use Rattle.fpl_http.specs.Sessions.{EndsAs}
use Rattle.fpl_http.specs.declared.ending.Ending.{Ending}
use Rattle.fpl_http.specs.declared.ending.Ending.TheVariants.{Read, Write, Memory}
use Rattle.request_handler.specs.Replying.{IsReplyUntil}
use Rattle.request_handler.specs.Whole.{IsKeptReply}
use Rattle.fpl_run.specs.Keeping.{IsUnopened, Runs}
use Rattle.fpl_run.specs.Looking.{LooksReadFew}
use Rattle.fpl_run.specs.Pipe.{AreHeard, IsSession}

-- what doors tell, and how often they failed
pub record DoorState : Type 0 where
  pub coming : Option (List (List ℕ))
  pub given_back : Option (List Ended)
  pub faults : ℕ

abbrev pub doors_as : Option (List (List ℕ)) → Option (List Ended) → ℕ → DoorState
doors_as coming given_back faults = record { coming = coming; given_back = given_back; faults = faults }

-- one connection: it was opened, it was one session of the host, and it was given back with what that session left of
-- its source and what its sink took; where it is told what comes, the session is over all that the connection sends. A
-- read or a write ended it only where a fault of this connection was counted
pub record IsVisit {S : Type 0} (answers : S → Request → ℕ × List ℕ → S → Type 0) (before after : DoorState) (old new : S) (ending : Ending) : Type 0 where
  pub left : Option (List ℕ)
  pub fresh : Option (List ℕ)
  pub back : Ended
  pub opens : Opens before.coming after.coming left fresh
  pub gives : GivesBack before.given_back after.given_back back
  pub faults : after.faults ≡ before.faults
  pub session : IsSession answers left back.left fresh back.taken ending old new
  pub exact : IfSome left (λ all. EndsAs all ending)
  pub read : ending ≡ Read → 0 < back.read_faults
  pub write : ending ≡ Write → 0 < back.write_faults

-- the doors failed, and nothing came or was given back
pub record Fails (before after : DoorState) : Type 0 where
  pub coming : after.coming ≡ before.coming
  pub given_back : after.given_back ≡ before.given_back
  pub faults : Rose before.faults after.faults

-- the doors were asked once: they failed, or one connection was served
abbrev pub IsAskedOnce : {S : Type 0} → (S → Request → ℕ × List ℕ → S → Type 0) → DoorState → DoorState → Result Ending Failed → S → S → Type 0
IsAskedOnce answers before after (Ok ending) old new = IsVisit answers before after old new ending
IsAskedOnce answers before after (Err failed) old new = Fails before after × (new ≡ old)

-- so many connections are served, one after another, the books following on from each to the next. Status 0 comes behind
-- the last of them, 8 where the doors failed, and 6 where there was no memory for the session of one, which was given back
abbrev pub ServesOn : {S : Type 0} → (S → Request → ℕ × List ℕ → S → Type 0) → ℕ → DoorState → DoorState → ℕ → S → S → Type 0
ServesOn answers zero before after status old new = (status ≡ 0) × (after ≡ before) × (new ≡ old)
ServesOn {S = S} answers (suc count) before after status old new =
    ((status ≡ 8) × Fails before after × (new ≡ old))
    ⊎ ((status ≡ 6) × IsVisit answers before after old new Memory)
    ⊎ ((ending : Ending) × (between : DoorState) × (mid : S) × (ending ≢ Memory) × IsVisit answers before between old mid ending × ServesOn answers count between after status mid new)

-- one connection came and was given back, and messages stand at the front of what was taken of it
pub record Hears (before after : DoorState) (messages : List Request) : Type 0 where
  pub left : Option (List ℕ)
  pub fresh : Option (List ℕ)
  pub back : Ended
  pub opens : Opens before.coming after.coming left fresh
  pub gives : GivesBack before.given_back after.given_back back
  pub heard : AreHeard left back.left messages

-- so many connections at most, one after another, each with its messages
abbrev pub HearOn : ℕ → DoorState → DoorState → List (List Request) → Type 0
HearOn count before after [] = (after.coming ≡ before.coming) × (after.given_back ≡ before.given_back)
HearOn zero before after (messages ∷ more) = ⊥
HearOn (suc count) before after (messages ∷ more) = (between : DoorState) × Hears before between messages × HearOn count between after more

-- the messages of all connections, in turn
abbrev pub in_turn : List (List Request) → List Request
in_turn [] = []
in_turn (messages ∷ more) = messages ++ in_turn more

-- a run of the command: the connections were served by the host, from the book that the keeper's records tell, with the
-- moments that the clock told, and looks behind which no gameweek is locked that was not before count few reads; or the host was
-- not opened, and no door was asked
abbrev pub Serves : {K : Type 0} → (K → Type 0) → (K → Type 0) → (K → Map → Type 0) → (K → Map → Type 0) → (K → ℕ) → K → K → List ℕ → ℕ → DoorState → DoorState → Option Moments → Option Moments
    → Option (List ℕ) → Option (List ℕ) → ℕ → ℕ → ℕ → Type 0
Serves tells serves holds passes faults old new key count before after moments later taken takes status first last =
    (Runs tells serves holds passes old new key moments later (faults old) (faults new)
    (λ a b. ServesOn IsReplyUntil count before after status a b × ((heard : List (List Request)) × HearOn count before after heard × LooksReadFew (in_turn heard) first last a b))
    (ServesOn IsKeptReply count before after status) × (takes ≡ taken))
    ⊎ ((after ≡ before) × (later ≡ moments) × IsUnopened tells serves holds passes faults old new taken takes status)

-- one connection fewer is to come, where they are told
abbrev pub OneFewer : Option (List (List ℕ)) → Option (List (List ℕ)) → Type 0
OneFewer None after = ⊤
OneFewer (Some all) after = after ≡ Some (drop 1 all)
