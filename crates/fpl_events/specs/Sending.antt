-- Which commands send the lines that changed.
use Rattle.std.specs.Prelude.{◌≡◌, ◌⊎◌, ◌+◌, ◌-◌, ◌^◌, ℕ, Bool, true, false, List, [], ◌∷◌, Option, Result, Ok, Err, if◌then◌else◌, nat_lt, length}
use Rattle.std.specs.Option.{option_map_or}
use Rattle.fpl_base.specs.declared.kinds.Caller.TheVariants as caller
use Rattle.match_events.specs.Lines.{line_of}
use Rattle.match_events.specs.Sheets.{AreChanged, Sheet}
use Rattle.season_book.specs.Book.{last_number}
use Rattle.season_book.specs.declared.answer.Answer.{Answer}
use Rattle.season_book.specs.declared.answer.Answer.TheVariants as answer
use Rattle.season_book.specs.declared.command.Command.{Command}
use Rattle.season_book.specs.declared.command.Command.TheVariants as command
use Rattle.season_book.specs.declared.request.Request.TheVariants as request
use Rattle.request_handler.specs.Replying.{Served}
use Rattle.local_requests.specs.Asking.{IsHeard}
use Rattle.local_requests.specs.Printing.{EndsBy}

-- Each part goes on with something, `Ok`, and then nothing was written; or it ends the run with an exit status, `Err`, and
-- nothing is asked behind it.

-- the number of a caller's next command behind his last one; the greatest number stays
abbrev pub next_number : ℕ → ℕ
next_number last = if nat_lt last (2 ^ 63 - 1) then last + 1 else 2 ^ 63 - 1

-- the command that sends a player's line by the events: his line is put into the fixture, or taken out of it where he has none
abbrev pub line_command : ℕ → Sheet → ℕ → Command
line_command fixture sheet player =
    option_map_or (λ line. command.Line fixture player line) (line_of sheet.minutes sheet.events player) (command.Drop fixture player)

-- whether a command was done
abbrev pub is_done : Answer → Bool
is_done (answer.Done number made) = true
is_done told = false

-- a command that was done goes on, and every other answer ends the run
abbrev pub GoesOn : Answer → Option (List ℕ) → Option (List ℕ) → Result (Unit {0}) ℕ → Type 0
GoesOn told before after gave =
    ((is_done told ≡ true) × (gave ≡ Ok tt) × (after ≡ before))
    ⊎ ((is_done told ≡ false) × ((status : ℕ) × (gave ≡ Err status) × EndsBy told status before after))

-- a player's line was sent, under the operator's next number
abbrev pub IsSent : ℕ → Sheet → ℕ → Option (List ℕ) → Option (List ℕ) → Result (Unit {0}) ℕ → Served → Served → Type 0
IsSent fixture sheet player before after gave old new =
    (told : Answer)
    × IsHeard old caller.Operator (request.Command (next_number (last_number old.host.book caller.Operator)) (line_command fixture sheet player)) told new
    × GoesOn told before after gave

-- the lines of these players were sent one after another, up to the first that ends the run
abbrev pub SendsOn : ℕ → Sheet → List ℕ → Option (List ℕ) → Option (List ℕ) → Result (Unit {0}) ℕ → Served → Served → Type 0
SendsOn fixture sheet [] before after gave old new = (gave ≡ Ok tt) × (after ≡ before) × (new ≡ old)
SendsOn fixture sheet (player ∷ players) before after gave old new =
    ((status : ℕ) × (gave ≡ Err status) × IsSent fixture sheet player before after (Err status) old new)
    ⊎ ((mid : Served) × IsSent fixture sheet player before before (Ok tt) old mid × SendsOn fixture sheet players before after gave mid new)

-- so many commands were done where all were
abbrev pub sent_of : ℕ → Result (Unit {0}) ℕ → Result ℕ ℕ
sent_of count (Ok done) = Ok count
sent_of count (Err status) = Err status

-- the lines of these players were sent, and that many commands were done; or one of them ended the run
abbrev pub SendsAll : ℕ → Sheet → List ℕ → Option (List ℕ) → Option (List ℕ) → Result ℕ ℕ → Served → Served → Type 0
SendsAll fixture sheet players before after gave old new =
    (asked : Result (Unit {0}) ℕ) × SendsOn fixture sheet players before after asked old new × (gave ≡ sent_of (length players) asked)

-- memory was wanting for the list of players, and nothing was asked
abbrev pub LacksMemory : Option (List ℕ) → Option (List ℕ) → Result ℕ ℕ → Served → Served → Type 0
LacksMemory before after gave old new = (gave ≡ Err 6) × (after ≡ before) × (new ≡ old)

-- the lines that changed were sent, and no other: those of exactly the players whose line differs from that when the lines were
-- sent last, in ascending order
abbrev pub SendsChanged : ℕ → Sheet → Sheet → Option (List ℕ) → Option (List ℕ) → Result ℕ ℕ → Served → Served → Type 0
SendsChanged fixture sheet behind before after gave old new =
    LacksMemory before after gave old new
    ⊎ ((players : List ℕ) × AreChanged sheet.minutes sheet.told sheet.events players × (behind ≡ record sheet { told = sheet.events })
    × SendsAll fixture behind players before after gave old new)
