-- What a host keeps, and the books that it stands for.
use Rattle.std.specs.Prelude.{◌≡◌, ℕ, List, [], Option, Some, None, length, map}
use Rattle.std.specs.Option.{option_map, option_map_or}
use Rattle.fpl_base.specs.declared.kinds.Caller.{Caller}
use Rattle.rule_book.specs.declared.cup.Bracket.{Bracket}
use Rattle.rule_book.specs.declared.player.Player.{Player}
use Rattle.rule_book.specs.Leagues.{LeagueFacts}
use Rattle.manager_book.specs.declared.manager.Manager.{Manager}
use Rattle.manager_book.specs.Managers.{Managers}
use Rattle.rule_book.specs.ById.{at_id}
use Rattle.season_book.specs.Book.{Book, Facts, Last, caller_number}
use Rattle.season_book.specs.Hosts.{HostState, number_in}
use Rattle.season_book.specs.Verdict.{locked_at}
use Rattle.season_competitions.specs.Leagues.{AreMembers}
use Rattle.season_entries.specs.EntryLaws.{AreEarly}
use Rattle.season_entries.specs.Entries.{AreEntries}

-- A season with its entries.

-- the facts, the entries with their rows, the leagues and the cups
pub record Running : Type 0 where
  pub facts : Facts
  pub managers : List Manager
  pub leagues : List LeagueFacts
  pub cups : List Bracket

-- the managers play by the season's rules, and did nothing for a gameweek behind the next one or the last; the members
-- of each league are among them
pub record InStep (facts : Facts) (book : Managers) (leagues : List LeagueFacts) : Type 0 where
  pub profile : book.profile ≡ facts.profile
  pub early : AreEarly facts book.managers
  pub members : AreMembers (length book.managers) leagues

-- a running season stands for a book: the same facts, leagues and cups, and entries whose rows stand for their histories
pub record Plays (running : Running) (book : Book) : Type 0 where
  pub facts : book.facts ≡ Some running.facts
  pub entries : AreEntries running.facts.players running.managers book.entries
  pub leagues : book.leagues ≡ running.leagues
  pub cups : book.cups ≡ running.cups

-- A host.

-- the operator's key, the facts, once there is a season, the entries with their rows, the leagues, the cups, and each
-- caller's last command
pub record HostRows : Type 0 where
  pub operator : List ℕ
  pub facts : Option Facts
  pub managers : List Manager
  pub leagues : List LeagueFacts
  pub cups : List Bracket
  pub lasts : List (ℕ × Last)

-- the rows of a host whose season runs, or is not there yet
abbrev pub host_rows : List ℕ → Option Running → List (ℕ × Last) → HostRows
host_rows operator running lasts = record {
  operator = operator;
  facts = option_map (λ r. r.facts) running;
  managers = option_map_or (λ r. r.managers) running [];
  leagues = option_map_or (λ r. r.leagues) running [];
  cups = option_map_or (λ r. r.cups) running [];
  lasts = lasts;
}

-- a host without a season
abbrev pub empty_rows : List ℕ → HostRows
empty_rows operator = record { operator = operator; facts = None; managers = []; leagues = []; cups = []; lasts = [] }

-- the rows when a moment was told
abbrev pub passed : ℕ → HostRows → HostRows
passed now host = record host { facts = option_map (locked_at now) host.facts }

-- the number of a caller's last command, 0 before the first
abbrev pub number_at : List (ℕ × Last) → Caller → ℕ
number_at lasts caller = number_in (at_id lasts (caller_number caller))

-- the players of a season, none before it
abbrev pub players_in : Option Facts → List Player
players_in facts = option_map_or (λ f. f.players) facts []

-- the keys of the entries
abbrev pub keys_in : HostRows → List (List ℕ)
keys_in host = map (λ manager. manager.key) host.managers

-- a host stands for a book: the same facts, leagues, cups and last commands, and entries whose rows stand for their
-- histories
pub record StandsIn (host : HostRows) (book : Book) : Type 0 where
  pub facts : book.facts ≡ host.facts
  pub entries : AreEntries (players_in host.facts) host.managers book.entries
  pub leagues : book.leagues ≡ host.leagues
  pub cups : book.cups ≡ host.cups
  pub lasts : book.lasts ≡ host.lasts

-- the same with the operator's key
pub record Stands (host : HostRows) (state : HostState) : Type 0 where
  pub operator : state.operator ≡ host.operator
  pub book : StandsIn host state.book

-- for each book that the host stood for there is one that it stands for now, to which this leads
abbrev pub Follows : HostRows → HostRows → (Book → Book → Type 0) → Type 0
Follows old new leads = (book : Book) → StandsIn old book → (after : Book) × StandsIn new after × leads book after
