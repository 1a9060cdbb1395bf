-- What the records of a book tell of it: books with the same records have the same of all but what no record tells, which
-- is how a manager came to his team.
use Rattle.std.specs.Prelude.{◌≡◌, ◌<◌, ℕ, ⊤, true, List, Option, Some, None, AllPairs}
use Rattle.fpl_base.specs.Keeping.{no_records}
use Rattle.fpl_base.specs.declared.kinds.Caller.{Caller}
use Rattle.fpl_base.specs.declared.kinds.Position.{Position}
use Rattle.rule_book.specs.ById.{AreSorted, at_id}
use Rattle.rule_book.specs.Calendar.{fixture_of}
use Rattle.rule_book.specs.Entries.{entry_in}
use Rattle.rule_book.specs.EntryRecords.{sold_in}
use Rattle.rule_book.specs.History.{Event, is_touched}
use Rattle.rule_book.specs.Leagues.{LeagueFacts}
use Rattle.rule_book.specs.MatchFacts.{Sheet, has_facts, is_finished, line_of, lines_of, tells_facts}
use Rattle.rule_book.specs.Players.{player_of}
use Rattle.rule_book.specs.TeamOfHistory.{team_of}
use Rattle.rule_book.specs.UpTo.{start_of}
use Rattle.season_book.specs.Book.{Book, EntryFacts, Facts, Last, empty_book}
use Rattle.season_book.specs.Commands.{has_fixture}
use Rattle.season_book.specs.Runs.{Asked, Run}
use Rattle.season_book.specs.Verdict.{IsVerdictIn, Verdict, pass}
use Rattle.season_book.specs.declared.answer.Answer.{Answer}
use Rattle.season_book.specs.declared.command.Command.{Command}
use Rattle.season_book.specs.declared.command.Command.TheVariants as command
use Rattle.season_book.specs.declared.made.Made.{Made}
use Rattle.season_book.specs.declared.made.Made.TheVariants as made
use Rattle.season_book.specs.declared.request.Request.{Request}
use Rattle.season_records.specs.Items.{slot_of_item}
use Rattle.season_records.specs.Ranges.{IsItem}
use Rattle.season_records.specs.declared.item.Item.{Item}
use Rattle.season_records.specs.declared.slot.Slot.{Slot}
use Rattle.season_records.specs.Records.{made_id, records, told}

-- what is told of a slot is an item of that slot
abbrev pub SlotsTellOfThemselves : Type 0
SlotsTellOfThemselves = (book : Book) (s : Slot) (i : Item) → told book s ≡ Some i → slot_of_item i ≡ s

-- nothing is told of the empty book
abbrev pub EmptyTellsNothing : Type 0
EmptyTellsNothing = records empty_book ≡ no_records

-- what a book tells of a slot has values in their ranges; so of each slot
abbrev pub TellsItem : Book → Slot → Type 0
TellsItem book s = (i : Item) → told book s ≡ Some i → IsItem i

abbrev pub TellsItems : Book → Type 0
TellsItems book = (s : Slot) → TellsItem book s

-- books with the same records tell the same of a slot, where the values are in their ranges
abbrev pub RecordsTellSlots : Type 0
RecordsTellSlots = (book other : Book) (s : Slot) → TellsItem book s → TellsItem other s → records book ≡ records other
    → told book s ≡ told other s

-- two books tell the same of each slot
abbrev pub TellTheSame : Book → Book → Type 0
TellTheSame book other = (s : Slot) → told book s ≡ told other s

-- two that are there and alike, or none
abbrev pub BothAre : {X : Type 0} → (X → X → Type 0) → Option X → Option X → Type 0
BothAre Alike None None = ⊤
BothAre Alike None (Some y) = ⊥
BothAre Alike (Some x) None = ⊥
BothAre Alike (Some x) (Some y) = Alike x y

-- The facts.

-- the same by every look-up, but for the finished mark of a fixture that is not there, which is not told
pub record SameFacts (facts other : Facts) : Type 0 where
  pub profile : facts.profile ≡ other.profile
  pub deadlines : facts.calendar.deadlines ≡ other.calendar.deadlines
  pub split : facts.calendar.split ≡ other.calendar.split
  pub locked : facts.calendar.locked ≡ other.calendar.locked
  pub clubs : (c : ℕ) → at_id facts.clubs c ≡ at_id other.clubs c
  pub players : (p : ℕ) → player_of facts.players p ≡ player_of other.players p
  pub fixtures : (f : ℕ) → fixture_of facts.calendar f ≡ fixture_of other.calendar f
  pub marks : (f : ℕ) → has_fixture facts f ≡ true → is_finished facts.matches f ≡ is_finished other.matches f
  pub lines : (f p : ℕ) → line_of facts.matches f p ≡ line_of other.matches f p

-- facts by ascending id; each sheet tells something, of a fixture that is there
pub record AreInOrder (facts : Facts) : Type 0 where
  pub clubs : AreSorted facts.clubs
  pub players : AllPairs (λ p q. p.id < q.id) facts.players
  pub fixtures : AllPairs (λ x y. x.id < y.id) facts.calendar.fixtures
  pub sheets : AreSorted facts.matches
  pub lines : (f : ℕ) → AreSorted (lines_of facts.matches f)
  pub tell : (f : ℕ) (sheet : Sheet) → at_id facts.matches f ≡ Some sheet → tells_facts sheet ≡ true
  pub there : (f : ℕ) → has_facts facts.matches f ≡ true → has_fixture facts f ≡ true

-- The entries.

-- the same first gameweek, and in each gameweek the same team and the same transfers
pub record SameTeams (h other : List Event) : Type 0 where
  pub start : start_of h ≡ start_of other
  pub touched : (g : ℕ) → is_touched h g ≡ is_touched other g
  pub team : (position : ℕ → Position) (g : ℕ) → team_of position h g ≡ team_of position other g
  pub transfers : (g : ℕ) → sold_in h g ≡ sold_in other g

-- the same key and name, and the same teams
pub record SameEntry (entry other : EntryFacts) : Type 0 where
  pub key : entry.key ≡ other.key
  pub name : entry.name ≡ other.name
  pub teams : SameTeams entry.history other.history

-- The whole book.

-- what a command makes, under this id
abbrev pub made_by : Command → ℕ → Made
made_by (command.Key key name) id = made.Entry id
made_by (command.League kind name code start) id = made.League id
made_by (command.Cup start slots coins) id = made.Cup id
made_by command id = made.Nothing

-- facts in order, members of leagues and last commands by ascending id, and each last command made what such a one makes
pub record IsInOrder (book : Book) : Type 0 where
  pub facts : (facts : Facts) → book.facts ≡ Some facts → AreInOrder facts
  pub members : (l : ℕ) (league : LeagueFacts) → entry_in book.leagues l ≡ Some league → AllPairs (λ m n. m < n) league.members
  pub lasts : AreSorted book.lasts
  pub makes : (c : ℕ) (last : Last) → at_id book.lasts c ≡ Some last → last.made ≡ made_by last.command (made_id last.made)

-- the same but for the histories, which tell the same teams
pub record SameBook (book other : Book) : Type 0 where
  pub facts : book.facts ≡ other.facts
  pub entries : (e : ℕ) → BothAre SameEntry (entry_in book.entries e) (entry_in other.entries e)
  pub leagues : book.leagues ≡ other.leagues
  pub cups : book.cups ≡ other.cups
  pub lasts : book.lasts ≡ other.lasts

-- books with the same records have the same facts by look-up, whatever their order
abbrev pub RecordsTellFacts : Type 0
RecordsTellFacts = (book other : Book) → TellsItems book → TellsItems other → records book ≡ records other
    → BothAre SameFacts book.facts other.facts

-- and are the same books where they are in order
abbrev pub RecordsTellBooks : Type 0
RecordsTellBooks = (book other : Book) → TellsItems book → TellsItems other → IsInOrder book → IsInOrder other
    → records book ≡ records other → SameBook book other

-- every book of a run is in order: the empty one is, and moments, verdicts and runs lead from one in order to one in order
abbrev pub EmptyIsInOrder : Type 0
EmptyIsInOrder = IsInOrder empty_book

abbrev pub MomentsKeepOrder : Type 0
MomentsKeepOrder = (book : Book) (now : ℕ) → IsInOrder book → IsInOrder (pass book now)

abbrev pub VerdictsKeepOrder : Type 0
VerdictsKeepOrder =
    (operator : List ℕ) (book : Book) (caller : Caller) (now : ℕ) (asked : Request) (verdict : Verdict)
    → IsInOrder book → IsVerdictIn operator book caller now asked verdict → IsInOrder verdict.book

abbrev pub RunsKeepOrder : Type 0
RunsKeepOrder =
    (operator : List ℕ) (book after : Book) (asked : List Asked) (replies : List Answer)
    → IsInOrder book → Run operator book asked replies after → IsInOrder after
