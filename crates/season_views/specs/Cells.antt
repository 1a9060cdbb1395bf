-- Cells that are kept of a season and its managers.
use Rattle.std.specs.Prelude.{◌≡◌, ℕ, true, List, Some}
use Rattle.rule_book.specs.declared.cup.Bracket.{Bracket}
use Rattle.rule_book.specs.Entries.{entry_in}
use Rattle.rule_book.specs.Leagues.{LeagueFacts}
use Rattle.season_book.specs.Book.{Facts}
use Rattle.season_book.specs.declared.shown.ShownLine.{ShownLine}
use Rattle.manager_book.specs.Managers.{Managers}
use Rattle.season_graph.specs.Followed.{AreEvaluated}
use Rattle.season_nodes.specs.BookFacts.{facts_with}
use Rattle.season_nodes.specs.Held.{SeasonRows}
use Rattle.season_nodes.specs.Season.{IsSeason, SeasonFacts, has_start}
use Rattle.season_nodes.specs.declared.nodes.LineWorth.{LineWorth}

-- a season, a book of managers, leagues and cups, as cells see them
abbrev pub books_seen : Facts → Managers → List LeagueFacts → List Bracket → SeasonFacts
books_seen facts managers leagues cups =
    facts_with facts.profile facts.calendar facts.players facts.matches managers leagues cups

-- the facts are those of a season, and each cell holds what the rule book tells of its node
pub record AreKept (facts : Facts) (managers : Managers) (leagues : List LeagueFacts) (cups : List Bracket) (cells : SeasonRows) : Type 0 where
  pub season : IsSeason (books_seen facts managers leagues cups)
  pub evaluated : AreEvaluated (books_seen facts managers leagues cups) cells

-- so it is with some leagues and cups, and with some managers
abbrev pub AreKeptIn : Facts → Managers → SeasonRows → Type 0
AreKeptIn facts managers cells = (leagues : List LeagueFacts) × (cups : List Bracket) × AreKept facts managers leagues cups cells

abbrev pub AreKeptOf : Facts → SeasonRows → Type 0
AreKeptOf facts cells = (managers : Managers) × (leagues : List LeagueFacts) × (cups : List Bracket) × AreKept facts managers leagues cups cells

-- so it is with leagues of which this is the one of that number
abbrev pub AreKeptFor : Facts → Managers → ℕ → LeagueFacts → SeasonRows → Type 0
AreKeptFor facts managers l league cells =
    (leagues : List LeagueFacts) × (cups : List Bracket) × (entry_in leagues l ≡ Some league) × AreKept facts managers leagues cups cells

-- or the one of some number
abbrev pub AreKeptWith : Facts → Managers → LeagueFacts → SeasonRows → Type 0
AreKeptWith facts managers league cells = (l : ℕ) × AreKeptFor facts managers l league cells

-- so it is with leagues by which an entry has a total from a gameweek on
abbrev pub AreKeptFrom : Facts → Managers → ℕ → ℕ → SeasonRows → Type 0
AreKeptFrom facts managers e s cells =
    (leagues : List LeagueFacts) × (cups : List Bracket) × (has_start (books_seen facts managers leagues cups) e s ≡ true) × AreKept facts managers leagues cups cells

-- so it is with cups of which this is the one of that number
abbrev pub AreKeptAt : Facts → Managers → ℕ → Bracket → SeasonRows → Type 0
AreKeptAt facts managers c bracket cells =
    (leagues : List LeagueFacts) × (cups : List Bracket) × (entry_in cups c ≡ Some bracket) × AreKept facts managers leagues cups cells

-- a player's line as it is shown, by its worth without bonus and by its bonus
abbrev pub line_with : ℕ → LineWorth → ℕ → ShownLine
line_with p worth bonus = record { player = p; points = worth.points; bps = worth.bps; bonus = bonus }
