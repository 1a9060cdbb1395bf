-- What is left by a call that judges a command, does it and keeps it.
use Rattle.std.specs.Prelude.{◌≡◌, ◌≤◌, ◌+◌, ℕ, ⊤, List, [], ◌∷◌, Option, None, IsOk, IsSome, Result, Ok, Err, length}
use Rattle.fpl_base.specs.declared.kinds.Caller.{Caller}
use Rattle.fpl_base.specs.declared.kinds.Profile.{Profile}
use Rattle.fpl_base.specs.declared.memory.Memory.{Memory}
use Rattle.rule_book.specs.ById.{at_id, placed_at}
use Rattle.manager_book.specs.declared.manager.Manager.{Manager}
use Rattle.manager_book.specs.Managers.{issue_refusal, manager_in}
use Rattle.season_book.specs.Book.{Book, Facts, Last, caller_number}
use Rattle.season_book.specs.Commands.{part_of}
use Rattle.season_book.specs.Doing.{IsGranted, IsRefused}
use Rattle.season_book.specs.Hosts.{row_at}
use Rattle.season_book.specs.LeagueCommands.{cup_made, league_made}
use Rattle.season_book.specs.Verdict.{Outcome, accepted, judged, ruled}
use Rattle.season_book.specs.declared.answer.Answer.{Answer}
use Rattle.season_book.specs.declared.answer.Answer.TheVariants as answer
use Rattle.season_book.specs.declared.command.Command.{Command}
use Rattle.season_book.specs.declared.command.Command.TheVariants as command
use Rattle.season_book.specs.declared.made.Made.{Made}
use Rattle.season_book.specs.declared.made.Made.TheVariants as made
use Rattle.season_book.specs.declared.part.Part.{Part}
use Rattle.season_book.specs.declared.part.Part.TheVariants as part
use Rattle.season_competitions.specs.Cups.{IsCupGranted}
use Rattle.season_competitions.specs.Leagues.{IsLeagueGranted}
use Rattle.season_entries.specs.Amended.{CanAmend}
use Rattle.season_entries.specs.Deeds.{IsDeedGranted, IsDeedJudged}
use Rattle.season_entries.specs.Keys.{IsRekeyGranted}
use Rattle.season_running.specs.declared.judged.Judged.{Judged}
use Rattle.season_running.specs.declared.judged.Judged.TheVariants as judged_as
use Rattle.season_running.specs.Standing.{HostRows, Plays, Running, StandsIn}

-- what a command makes, where nothing refuses it: a new entry, league or cup has the next number
abbrev pub made_in : Part → Running → Command → Made
made_in part.Facts running command = made.Nothing
made_in part.Players running command = made.Nothing
made_in part.Entries running command = made.Entry (length running.managers + 1)
made_in part.Keys running command = made.Nothing
made_in part.Deeds running command = made.Nothing
made_in part.Leagues running command = league_made running.leagues command
made_in part.Cups running command = cup_made running.cups

abbrev pub made_by : Running → Command → Made
made_by running command = made_in (part_of command) running command

-- there is room for the entry that a command makes, and none has its key
abbrev pub HasRoom : List Manager → Command → Type 0
HasRoom managers (command.Key key name) = (profile : Profile) → issue_refusal (record { profile = profile; managers = managers }) key ≡ None
HasRoom managers command = ⊤

-- the entry is there to which a command gives a key, and the key is nobody's or its own
abbrev pub IsOpen : List Manager → Command → Type 0
IsOpen managers (command.Rekey e key name) = IsRekeyGranted managers e key
IsOpen managers command = ⊤

-- the player is there to whom a command gives a name and a position, and may have the position
abbrev pub IsAmendable : Facts → List Manager → Command → Type 0
IsAmendable facts managers (command.AmendPlayer p name position) = CanAmend facts managers p position
IsAmendable facts managers command = ⊤

-- nothing refuses a command on a running season, by what it keeps
abbrev pub IsGrantedIn : Part → Running → ℕ → ℕ → Command → Type 0
IsGrantedIn part.Facts running e now command = IsGranted running.facts now command
IsGrantedIn part.Players running e now command = IsAmendable running.facts running.managers command
IsGrantedIn part.Entries running e now command = HasRoom running.managers command
IsGrantedIn part.Keys running e now command = IsOpen running.managers command
IsGrantedIn part.Deeds running e now command =
    (1 ≤ e) × (e ≤ length running.managers) × IsDeedGranted running.facts (manager_in running.managers e).season command
IsGrantedIn part.Leagues running e now command = IsLeagueGranted running.facts running.managers running.leagues e command
IsGrantedIn part.Cups running e now command = IsCupGranted running.facts running.cups command

abbrev pub IsGrantedTo : Running → Caller → ℕ → Command → Type 0
IsGrantedTo running caller now command = IsGrantedIn (part_of command) running (caller_number caller) now command

-- the part of the season that was judged
abbrev pub part_judged : Judged → Part
part_judged judged_as.Facts = part.Facts
part_judged judged_as.Players = part.Players
part_judged judged_as.Entries = part.Entries
part_judged judged_as.Keys = part.Keys
part_judged (judged_as.Deed deed) = part.Deeds
part_judged judged_as.Leagues = part.Leagues
part_judged judged_as.Cups = part.Cups

-- a manager's command comes to what was worked out; nothing is said of another
abbrev pub ComesTo : Running → ℕ → Command → Judged → Type 0
ComesTo running e command (judged_as.Deed deed) = IsDeedJudged running.facts (manager_in running.managers e).season command deed
ComesTo running e command other = ⊤

-- what judging a command worked out: it is of the command's part, and a manager's command comes to it
pub record IsWorkedOut (running : Running) (caller : Caller) (command : Command) (worked : Judged) : Type 0 where
  pub part : part_judged worked ≡ part_of command
  pub deed : ComesTo running (caller_number caller) command worked

-- whether it was refused, without what it comes to
abbrev pub refused_in : {T : Type 0} → Result T Answer → Result ⊤ Answer
refused_in (Ok value) = Ok tt
refused_in (Err reply) = Err reply

-- an answer that refuses by a rule, or because something is not there
abbrev pub IsRefusal : Answer → Type 0
IsRefusal (answer.Rule rule) = ⊤
IsRefusal answer.Unknown = ⊤
IsRefusal reply = ⊥

-- a command was judged as it is ruled in a book
abbrev pub IsRuled : {T : Type 0} → Result Outcome Answer → Result T Answer → Type 0
IsRuled ruled (Ok value) = IsOk ruled
IsRuled ruled (Err reply) = ruled ≡ Err reply

-- from a book a command leads to this, and the running season stands for the book behind it
pub record Leads (ruled : Result Outcome Answer) (book : Book) (made : Made) (after : Running) : Type 0 where
  pub outcome : Outcome
  pub is_ruled : ruled ≡ Ok outcome
  pub makes : outcome.made ≡ made
  pub plays : Plays after outcome.book
  pub lasts : outcome.book.lasts ≡ book.lasts

-- a command was done: from each book in which it is ruled well it leads to one that the running season stands for
abbrev pub IsDone : Caller → ℕ → Command → Running → Running → Type 0
IsDone caller now command before after =
    (operator : List ℕ) (book : Book) → Plays before book → IsOk (ruled operator book caller now command)
    → Leads (ruled operator book caller now command) book (made_by before command) after

-- the last commands with this one in its caller's place
abbrev pub kept_last : List (ℕ × Last) → Caller → ℕ → Command → Made → List (ℕ × Last)
kept_last lasts caller number command made =
    placed_at lasts (caller_number caller) ((caller_number caller, record { number = number; command = command; made = made }) ∷ [])

-- a command was kept as its caller's last one, and what stood there brings back the old ones; or memory ran out
abbrev pub IsKept : Caller → ℕ → Command → Made → List (ℕ × Last) → List (ℕ × Last) → Result (Option Last) Memory → Type 0
IsKept caller number command made old new (Ok before) =
    (new ≡ kept_last old caller number command made)
    × (old ≡ placed_at new (caller_number caller) (row_at (caller_number caller) before))
    × IsSome (at_id new (caller_number caller))
IsKept caller number command made old new (Err memory) = new ≡ old

-- a command that nothing refuses was done on a running season and kept, or memory ran out, and all is as before
abbrev pub IsTakenOrOut : Caller → ℕ → ℕ → Command → Running → Running → List (ℕ × Last) → List (ℕ × Last) → Result Made Memory → Type 0
IsTakenOrOut caller now number command before after old new (Ok made) =
    (made ≡ made_by before command) × IsDone caller now command before after × (new ≡ kept_last old caller number command made)
IsTakenOrOut caller now number command before after old new (Err memory) = (after ≡ before) × (new ≡ old)

-- a command was done on a running season and kept, or it was refused, or memory ran out, and all is as before
abbrev pub IsTaken : List ℕ → Caller → ℕ → ℕ → Command → Running → Running → List (ℕ × Last) → List (ℕ × Last) → Result Made Answer → Type 0
IsTaken operator caller now number command before after old new (Ok made) =
    ((book : Book) → Plays before book → Leads (ruled operator book caller now command) book made after)
    × (new ≡ kept_last old caller number command made)
IsTaken operator caller now number command before after old new (Err reply) =
    (after ≡ before) × (new ≡ old)
    × ((book : Book) → Plays before book → IsRefused (ruled operator book caller now command) reply)

-- a season without entries, leagues and cups
pub record IsNew (running : Running) : Type 0 where
  pub managers : running.managers ≡ []
  pub leagues : running.leagues ≡ []
  pub cups : running.cups ≡ []

-- a command began a new season, or it was refused, or memory ran out
abbrev pub IsBegun : ℕ → Command → Result Facts Answer → Type 0
IsBegun now command (Ok facts) = judged None now command ≡ Ok facts
IsBegun now command (Err reply) = IsRefused (judged None now command) reply

-- the host accepted a caller's command, and stands for the book behind it; or it refused it, or memory ran out, and all is
-- as before
abbrev pub IsAccepted : HostRows → HostRows → Caller → ℕ → ℕ → Command → Result Made Answer → Type 0
IsAccepted old new caller now number command (Ok made) =
    (book : Book) → StandsIn old book
    → (outcome : Outcome) × (ruled old.operator book caller now command ≡ Ok outcome) × (outcome.made ≡ made)
    × StandsIn new (accepted caller number command outcome)
IsAccepted old new caller now number command (Err reply) =
    (new ≡ old) × ((book : Book) → StandsIn old book → IsRefused (ruled old.operator book caller now command) reply)
