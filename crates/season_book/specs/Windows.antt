-- What windows show: one JSON value each, whose members stand in the order of their bytes.
use Rattle.std.specs.Prelude.{ℕ, List, Option, Some, None, codes, filter, length, map}
use Rattle.std.specs.List.{enumerate_from}
use Rattle.std.specs.Option.{option_and_then, option_map}
use Rattle.serde_json.specs.Data.{Data, Members, array, boolean, member, no_members, object, string}
use Rattle.serde_json.specs.View.{items_of}
use Rattle.json_members.specs.Members.{count, count_or_null, text_or_null}
use Rattle.fpl_base.specs.declared.kinds.Caller.{Caller}
use Rattle.fpl_base.specs.declared.kinds.Caller.TheVariants.{Operator, Entry}
use Rattle.rule_book.specs.declared.cup.Bracket.{Bracket}
use Rattle.rule_book.specs.declared.league.LeagueKind.{LeagueKind}
use Rattle.rule_book.specs.declared.league.LeagueKind.TheVariants as kind
use Rattle.rule_book.specs.declared.line.Line.{Line}
use Rattle.rule_book.specs.declared.season.Fixture.{Fixture}
use Rattle.rule_book.specs.Calendar.{fixture_of}
use Rattle.rule_book.specs.Entries.{entry_in}
use Rattle.rule_book.specs.LeagueCalls.{is_drawn, is_member}
use Rattle.rule_book.specs.Leagues.{LeagueFacts}
use Rattle.rule_book.specs.MatchFacts.{is_finished, lines_of}
use Rattle.rule_book.specs.UpTo.{start_of}
use Rattle.season_book.specs.Book.{EntryFacts, Facts, caller_number}

-- things in the order of making, each with its number from 1
abbrev pub numbered : {X : Type 0} → List X → List (ℕ × X)
numbered things = enumerate_from 1 things

-- a list with one value for each thing
abbrev pub listed : {X : Type 0} → (X → Data) → List X → Data
listed row things = array (items_of (map row things))

-- The caller.

-- the number of a caller's entry; the operator has none
abbrev pub own_number : Caller → Option ℕ
own_number Operator = None
own_number (Entry e) = Some e

-- who he is: his entry with its name and its first gameweek, and the number of his last accepted command
abbrev pub me_data : Option ℕ → ℕ → Option (List ℕ) → Option ℕ → Data
me_data entry last name first = object
    (member (codes "entry") (count_or_null entry)
    (member (codes "last") (count last)
    (member (codes "name") (text_or_null name)
    (member (codes "started_event") (count_or_null first)
    no_members))))

abbrev pub me_window : List EntryFacts → Caller → ℕ → Data
me_window entries caller last =
    let own = entry_in entries (caller_number caller) in
    me_data (own_number caller) last (option_map (λ entry. entry.name) own) (option_and_then (λ entry. start_of entry.history) own)

-- Entries.

-- an entry by its number: its name, and its first gameweek, or null where it is not registered
abbrev pub entry_data : ℕ → List ℕ → Option ℕ → Data
entry_data e name first = object
    (member (codes "entry") (count e)
    (member (codes "name") (string name)
    (member (codes "started_event") (count_or_null first)
    no_members)))

abbrev pub entry_row : ℕ × EntryFacts → Data
entry_row row = entry_data row.0 row.1.name (start_of row.1.history)

abbrev pub entries_window : List EntryFacts → Data
entries_window entries = listed entry_row (numbered entries)

-- Leagues.

-- how a league is decided
abbrev pub scoring_of : LeagueKind → List ℕ
scoring_of kind.Classic = codes "c"
scoring_of kind.Head = codes "h"

-- a league by its number: whether it was drawn, how many members it has, how it is decided, and from which gameweek on
abbrev pub league_members : ℕ × LeagueFacts → Members
league_members row =
    member (codes "drawn") (boolean (is_drawn row.1))
    (member (codes "id") (count row.0)
    (member (codes "members") (count (length row.1.members))
    (member (codes "name") (string row.1.name)
    (member (codes "scoring") (string (scoring_of row.1.kind))
    (member (codes "start_event") (count row.1.start)
    no_members)))))

abbrev pub league_row : ℕ × LeagueFacts → Data
league_row row = object (league_members row)

abbrev pub leagues_window : List LeagueFacts → Data
leagues_window leagues = listed league_row (numbered leagues)

-- the same with the code that joins it, for its members
abbrev pub my_league_row : ℕ × LeagueFacts → Data
my_league_row row = object (member (codes "code") (string row.1.code) (league_members row))

-- the leagues that an entry is in
abbrev pub my_leagues : List LeagueFacts → ℕ → List (ℕ × LeagueFacts)
my_leagues leagues e = filter (λ row. is_member row.1 e) (numbered leagues)

abbrev pub my_leagues_window : List LeagueFacts → ℕ → Data
my_leagues_window leagues e = listed my_league_row (my_leagues leagues e)

-- Cups.

-- a cup by its number: how many slots it has, and the gameweek of its first round
abbrev pub cup_row : ℕ × Bracket → Data
cup_row row = object
    (member (codes "id") (count row.0)
    (member (codes "slots") (count (length row.1.slots))
    (member (codes "start_event") (count row.1.start)
    no_members)))

abbrev pub cups_window : List Bracket → Data
cups_window cups = listed cup_row (numbered cups)

-- Sheets.

-- a player's line: its 28 figures
abbrev pub figures_row : ℕ × Line → Data
figures_row row = object
    (member (codes "figures") (listed count row.1.figures)
    (member (codes "player") (count row.0)
    no_members))

-- what was handed in on a fixture: its lines by player, and whether it is finished
abbrev pub sheet_data : Facts → Fixture → Data
sheet_data facts fixture = object
    (member (codes "finished") (boolean (is_finished facts.matches fixture.id))
    (member (codes "lines") (listed figures_row (lines_of facts.matches fixture.id))
    no_members))

abbrev pub sheet_window : Facts → ℕ → Option Data
sheet_window facts f = option_map (sheet_data facts) (fixture_of facts.calendar f)
