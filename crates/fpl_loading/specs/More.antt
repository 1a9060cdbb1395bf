-- A load of what the season lacks: what it asks of a host, and what it writes.
use Rattle.std.specs.Prelude.{◌≡◌, ◌≤◌, ◌+◌, ◌++◌, ◌⊎◌, ◌^◌, ◌-◌, ◌∷◌, [], ℕ, Bool, true, false, List, Option, Some, None, Result, Ok, Err, MatchBool, MatchOption, MatchResult, codes, if◌then◌else◌, length}
use Rattle.std.specs.Fmt.{decimal}
use Rattle.std.specs.Io.KnownBytes.{Appends}
use Rattle.std.specs.List.{flat_map}
use Rattle.fpl_base.specs.Causes.{AppendsFront}
use Rattle.fpl_base.specs.declared.kinds.Caller.TheVariants as caller
use Rattle.season_book.specs.Book.{last_number}
use Rattle.season_book.specs.declared.answer.Answer.{Answer}
use Rattle.season_book.specs.declared.answer.Answer.TheVariants as answer
use Rattle.season_book.specs.declared.command.Command.{Command}
use Rattle.season_book.specs.declared.request.Request.TheVariants as request
use Rattle.request_handler.specs.Replying.{Served}
use Rattle.local_requests.specs.Asking.{IsHeard}
use Rattle.local_requests.specs.Printing.{EndsBy, PrintsOne}
use Rattle.fpl_loading.specs.Faults.{row_text}
use Rattle.fpl_loading.specs.Loading.{IsLoad}
use Rattle.fpl_loading.specs.Notes.{cause_of, no_place, place_behind}
use Rattle.fpl_loading.specs.Standing.{count_same, differing, lacks, rows_in, rows_same, view_of}
use Rattle.fpl_loading.specs.declared.adding.Added.{Added}
use Rattle.fpl_loading.specs.declared.adding.Stop.{Stop}
use Rattle.fpl_loading.specs.declared.adding.Stop.TheVariants as stop
use Rattle.fpl_loading.specs.declared.adding.Tally.{Tally}
use Rattle.fpl_loading.specs.declared.notes.Note.{Note}
use Rattle.fpl_loading.specs.declared.notes.Place.{Place}

-- an answer says that a command was done
abbrev pub is_done : Answer → Bool
is_done (answer.Done done made) = true
is_done told = false

-- what a command adds that the season has: how many of its rows say the same, and where the others stand
abbrev pub found_there : Place → List Bool → Added
found_there place rows = record { asked = 0; loaded = 0; there = count_same rows; differs = differing place rows }

-- what is found of one row more, which says the same or not
abbrev pub with_row : Added → Place → Bool → Added
with_row added place same = if same then record added { there = added.there + 1 } else record added { differs = added.differs ++ place ∷ [] }

-- what one adds that was asked and done
abbrev pub found_lacking : Command → Added
found_lacking command = record { asked = 1; loaded = rows_in command; there = 0; differs = [] }

-- what becomes of a command that the season lacks: it is asked under the number behind this one, unless that is too great, which is
-- as want of memory; where it is not done its answer ends the load
abbrev pub IsAdded : ℕ → Command → Result Added Stop → Served → Served → Type 0
IsAdded number command gave old new =
    ((2 ^ 63 - 1 ≤ number) × (new ≡ old) × (gave ≡ Err stop.Memory))
    ⊎ ((told : Answer) × IsHeard old caller.Operator (request.Command (number + 1) command) told new
    × MatchBool (is_done told) (gave ≡ Ok (found_lacking command)) (gave ≡ Err (stop.Told told)))

-- what becomes of one that stands at a place where this is told of what the season has: its rows are held against that; what shows
-- nothing of it ends the load; and memory may be wanting
abbrev pub IsHeld : Place → Command → Answer → Result Added Stop → Type 0
IsHeld place command told gave =
    MatchOption (rows_same command told) (gave ≡ Err (stop.Told told)) (λ rows. gave ≡ Ok (found_there place rows)) ⊎ (gave ≡ Err stop.Memory)

-- what becomes of a command of the files that stands at a place: the operator asks what the season has of it; what the season lacks
-- is added, and nothing is changed of what it has
abbrev pub IsStep : ℕ → Place → Command → Result Added Stop → Served → Served → Type 0
IsStep number place command gave old new =
    (told : Answer) × (mid : Served) × IsHeard old caller.Operator (request.View (view_of command)) told mid
    × MatchBool (lacks command told) (IsAdded number command gave mid new) ((new ≡ mid) × IsHeld place command told gave)

-- the lines that name rows which say another thing than the season
abbrev pub differs_text : List Place → List ℕ
differs_text places = flat_map (λ place. codes "differs: " ++ row_text place.file place.row) places

-- the line that counts the rows which were loaded, those that were there, and those that differ
abbrev pub more_text : ℕ → ℕ → ℕ → List ℕ
more_text loaded there differs =
    codes "loaded " ++ (decimal loaded ++ (codes ", there " ++ (decimal there ++ (codes ", differs " ++ (decimal differs ++ 10 ∷ [])))))

-- the rows that differ are named; or the output failed before all of them were (3), or memory ran out before (6)
abbrev pub IsNamed : List Place → Result Unit ℕ → Option (List ℕ) → Option (List ℕ) → Type 0
IsNamed places (Ok named) before after = Appends before after (differs_text places)
IsNamed places (Err status) before after = ((status ≡ 3) × AppendsFront before after (differs_text places)) ⊎ ((status ≡ 6) × (after ≡ before))

-- the rows that differ are named, and behind that the command ends; or memory ran out before they were, or the output failed
abbrev pub TellsThen : List Place → (ℕ → Option (List ℕ) → Option (List ℕ) → Type 0) → ℕ → Option (List ℕ) → Option (List ℕ) → Type 0
TellsThen places Ends status before after =
    ((between : Option (List ℕ)) × Appends before between (differs_text places) × Ends status between after)
    ⊎ ((status ≡ 3) × AppendsFront before after (differs_text places)) ⊎ ((status ≡ 6) × (after ≡ before))

-- what the commands so far added, and the operator's last number, behind one more
abbrev pub counted : Tally → Added → Tally
counted tally added = record {
  number = tally.number + added.asked;
  loaded = tally.loaded + added.loaded;
  there = tally.there + added.there;
  differs = tally.differs ++ added.differs;
}

-- before the first of them, where this is the operator's last number
abbrev pub nothing_added : ℕ → Tally
nothing_added last = record { number = last; loaded = 0; there = 0; differs = [] }

-- what stops a load ends it: an answer, behind the rows that differ so far, whose cause is noted; or want of memory
abbrev pub StopsBy : Place → List Place → Stop → ℕ → Option (List ℕ) → Option (List ℕ) → Option Note → Type 0
StopsBy place differs (stop.Told told) status before after noted = (noted ≡ cause_of place told) × TellsThen differs (EndsBy told) status before after
StopsBy place differs stop.Memory status before after noted = (noted ≡ None) × (status ≡ 6) × (after ≡ before)

-- the counts are written behind the rows that differ
abbrev pub CountsRows : Tally → ℕ → Option (List ℕ) → Option (List ℕ) → Type 0
CountsRows tally =
    TellsThen tally.differs (λ status before after. PrintsOne (λ text. text ≡ more_text tally.loaded tally.there (length tally.differs)) 0 status before after)

-- commands go one after another behind the one at a place, with what those before them added; the books follow on. What stops one
-- of them ends the load, as does want of memory for what it adds; behind the last of them the counts are written
abbrev pub AddsOn : Place → List Command → Tally → Option (List ℕ) → Option (List ℕ) → ℕ → Option Note → Served → Served → Type 0
AddsOn place [] tally before after status noted old new = (new ≡ old) × (noted ≡ None) × CountsRows tally status before after
AddsOn place (command ∷ commands) tally before after status noted old new =
    (gave : Result Added Stop) × (mid : Served) × IsStep tally.number (place_behind place command) command gave old mid
    × MatchResult gave
    (λ added. ((new ≡ mid) × (noted ≡ None) × (status ≡ 6) × (after ≡ before))
    ⊎ AddsOn (place_behind place command) commands (counted tally added) before after status noted mid new)
    (λ why. (new ≡ mid) × StopsBy (place_behind place command) tally.differs why status before after noted)

-- what the season lacks of commands is loaded, under the operator's next numbers
abbrev pub IsLoadOfMore : List Command → Option (List ℕ) → Option (List ℕ) → ℕ → Option Note → Served → Served → Type 0
IsLoadOfMore commands before after status noted old new =
    AddsOn no_place commands (nothing_added (last_number old.host.book caller.Operator)) before after status noted old new

-- commands are loaded, or what the season lacks of them
abbrev pub LoadsBy : Bool → List Command → Option (List ℕ) → Option (List ℕ) → ℕ → Option Note → Served → Served → Type 0
LoadsBy true = IsLoadOfMore
LoadsBy false = IsLoad
