-- Which records a command touches, and what is committed of them.
use Rattle.std.specs.Prelude.{ℕ, ◌+◌, ◌==◌, not, List, [], ◌∷◌, ◌++◌, filter, length, map, Option, Some, None}
use Rattle.std.specs.List.{list_any, range_with_len}
use Rattle.std.specs.Option.{option_map_or}
use Rattle.fpl_base.specs.declared.kinds.Caller.{Caller}
use Rattle.fpl_base.specs.declared.records.Op.{Op}
use Rattle.fpl_base.specs.declared.records.Op.TheVariants.{Put, Delete}
use Rattle.rule_book.specs.EntryRecords.{sold_in}
use Rattle.rule_book.specs.MatchFacts.{lines_of, players_in}
use Rattle.season_book.specs.Book.{Book, caller_number}
use Rattle.season_book.specs.Commands.{club_ids}
use Rattle.season_book.specs.EntryViews.{gameweek_seen}
use Rattle.season_book.specs.LeagueViews.{history_of}
use Rattle.season_book.specs.declared.command.Command.{Command}
use Rattle.season_book.specs.declared.command.Command.TheVariants as command
use Rattle.season_book.specs.declared.request.Request.{Request}
use Rattle.season_book.specs.declared.request.Request.TheVariants as request
use Rattle.season_records.specs.Items.{body_of}
use Rattle.season_records.specs.Keys.{key_of}
use Rattle.season_records.specs.declared.item.Item.{Item}
use Rattle.season_records.specs.declared.slot.Slot.{Slot}
use Rattle.season_records.specs.declared.slot.Slot.TheVariants as slot

-- the players who have a line in a fixture
abbrev pub players_before : Book → ℕ → List ℕ
players_before book f = option_map_or (λ facts. players_in (lines_of facts.matches f)) book.facts []

-- those who had a line and have none among others
abbrev pub players_left : List ℕ → List ℕ → List ℕ
players_left had have = filter (λ p. not (list_any (λ q. q == p) have)) had

-- the gameweek in which a manager's command takes part: the next one
abbrev pub gameweek_of : Book → ℕ
gameweek_of book = option_map_or (λ facts. gameweek_seen facts.calendar) book.facts 0

-- how many transfers entry e made in gameweek g
abbrev pub transfers_made : Book → ℕ → ℕ → ℕ
transfers_made book e g = length (sold_in (history_of book.entries e) g)

-- a team, and so many new transfers behind those of its gameweek
abbrev pub team_and_transfers : Book → ℕ → ℕ → ℕ → List Slot
team_and_transfers book e g count = slot.Team e g ∷ map (slot.Transfer e g) (range_with_len (transfers_made book e g + 1) count)

-- the slots that a command of caller number e may change, in the book before it
abbrev pub touched_by : Book → ℕ → Command → List Slot
touched_by book e (command.Season profile deadlines split clubs) = slot.Season ∷ map slot.Club (club_ids clubs)
touched_by book e (command.Deadline g deadline) = slot.Season ∷ []
touched_by book e (command.Player id name position club price) = slot.Player id ∷ []
touched_by book e (command.Price p price) = slot.Player p ∷ []
touched_by book e (command.AmendPlayer p name position) = slot.Player p ∷ []
touched_by book e (command.Club p club) = slot.Player p ∷ []
touched_by book e (command.Gone p gone) = slot.Player p ∷ []
touched_by book e (command.Fixture id home away g kickoff) = slot.Fixture id ∷ []
touched_by book e (command.Move f g kickoff) = slot.Fixture f ∷ []
touched_by book e (command.AmendFixture f home away) = slot.Fixture f ∷ []
touched_by book e (command.Sheet f lines finished) = slot.Fixture f ∷ map (slot.Line f) (players_left (players_before book f) (players_in lines) ++ players_in lines)
touched_by book e (command.Line f p line) = slot.Line f p ∷ []
touched_by book e (command.Drop f p) = slot.Line f p ∷ []
touched_by book e (command.Finished f finished) = slot.Fixture f ∷ []
touched_by book e (command.Key key name) = slot.Entry (length book.entries + 1) ∷ []
touched_by book e (command.Rekey entry key name) = slot.Entry entry ∷ []
touched_by book e (command.Squad players captain vice) = slot.Entry e ∷ slot.Team e (gameweek_of book) ∷ []
touched_by book e (command.Transfers swaps) = team_and_transfers book e (gameweek_of book) (length swaps)
touched_by book e (command.Lineup players captain vice) = slot.Team e (gameweek_of book) ∷ []
touched_by book e (command.Chip chip) = slot.Team e (gameweek_of book) ∷ []
touched_by book e command.CancelChip = slot.Team e (gameweek_of book) ∷ []
touched_by book e (command.League kind name code start) =
    slot.League (length book.leagues + 1) ∷ slot.Member (length book.leagues + 1) e ∷ []
touched_by book e (command.Join l code) = slot.Member l e ∷ []
touched_by book e (command.Draw l order) = slot.League l ∷ []
touched_by book e (command.Cup start slots coins) = slot.Cup (length book.cups + 1) ∷ []

-- with the caller's last command
abbrev pub touched : Book → Caller → Command → List Slot
touched book caller command = slot.Last (caller_number caller) ∷ touched_by book (caller_number caller) command

-- those that a request may change: a view changes none
abbrev pub touched_in : Book → Caller → Request → List Slot
touched_in book caller (request.View view) = []
touched_in book caller (request.Command number command) = touched book caller command

-- those that a moment may change: gameweeks are locked
abbrev pub locked_slots : List Slot
locked_slots = slot.Season ∷ []

-- what is committed of a slot of which this is told
abbrev pub op_of : Slot → Option Item → Op
op_of s None = Delete (key_of s)
op_of s (Some item) = Put (key_of s) (body_of item)

-- what is committed of some slots
abbrev pub batch : (Slot → Option Item) → List Slot → List Op
batch told slots = map (λ s. op_of s (told s)) slots
