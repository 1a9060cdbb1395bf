-- The commands on leagues by kept rows: what refuses each, and what nothing refuses.
use Rattle.std.specs.Prelude.{All, length, ◌≡◌, ◌≤◌, ℕ, Bool, true, List, Option, Some, None, Result, if◌then◌else◌, ⊤}
use Rattle.std.specs.Option.{option_map}
use Rattle.rule_book.specs.Entries.{entry_in}
use Rattle.rule_book.specs.Leagues.{LeagueFacts}
use Rattle.manager_book.specs.declared.manager.Manager.{Manager}
use Rattle.season_book.specs.Book.{EntryFacts, Facts}
use Rattle.season_book.specs.LeagueCommands.{is_issued, is_registered, league_refusal, leagues_after, leagues_there}
use Rattle.season_book.specs.declared.answer.Answer.{Answer}
use Rattle.season_book.specs.declared.answer.Answer.TheVariants as answer
use Rattle.season_book.specs.declared.command.Command.{Command}
use Rattle.season_book.specs.declared.command.Command.TheVariants as command
use Rattle.season_entries.specs.Deeds.{IsAnswered}
use Rattle.season_entries.specs.Entries.{AreEntries}
use Rattle.season_entries.specs.Known.{is_issued_by, is_registered_by}

-- the answer that refuses entry e's command on leagues, if one does, where these entries were issued and these are
-- registered: by an id that is not there, then by a rule
abbrev pub league_answer : Facts → (ℕ → Bool) → (ℕ → Bool) → List LeagueFacts → ℕ → Command → Option Answer
league_answer facts issued registered leagues e command =
    if leagues_there facts issued leagues command then option_map answer.Rule (league_refusal facts (registered e) leagues e command)
    else Some answer.Unknown

-- the same by the managers
abbrev pub league_answer_by : Facts → List Manager → List LeagueFacts → ℕ → Command → Option Answer
league_answer_by facts managers leagues e command =
    league_answer facts (is_issued_by managers) (is_registered_by managers) leagues e command

-- a command was judged as each book says for which the managers stand
abbrev pub IsLeagueJudgedByBooks : {T : Type 0} → Facts → List Manager → List LeagueFacts → ℕ → Command → Result T Answer → Type 0
IsLeagueJudgedByBooks facts managers leagues e command judged = (entries : List EntryFacts)
    → AreEntries facts.players managers entries
    → IsAnswered (league_answer facts (is_issued entries) (is_registered entries) leagues e command) judged

-- who creates or joins a league is a registered entry
abbrev pub IsByEntry : List Manager → ℕ → Command → Type 0
IsByEntry managers e (command.League kind name code start) = is_registered_by managers e ≡ true
IsByEntry managers e (command.Join l code) = is_registered_by managers e ≡ true
IsByEntry managers e command = ⊤

-- nothing refuses it: the gameweek or the league that it names is there, and it breaks no rule
pub record IsLeagueGranted (facts : Facts) (managers : List Manager) (leagues : List LeagueFacts) (e : ℕ) (command : Command) : Type 0 where
  pub by_entry : IsByEntry managers e command
  pub there : leagues_there facts (λ number. true) leagues command ≡ true
  pub unbroken : league_refusal facts true leagues e command ≡ None

-- each member of each league is one of so many entries
abbrev pub AreMembers : ℕ → List LeagueFacts → Type 0
AreMembers count leagues = All (λ league. All (λ e. e ≤ count) league.members) leagues

-- so it stays behind a command that nothing refuses, and where entries are added
pub record MembersStay (facts : Facts) (managers : List Manager) (leagues : List LeagueFacts) : Type 0 where
  pub commands : (e : ℕ) (command : Command) → IsLeagueGranted facts managers leagues e command
      → AreMembers (length managers) leagues → AreMembers (length managers) (leagues_after leagues e command)
  pub entries : (count : ℕ) → length managers ≤ count → AreMembers (length managers) leagues → AreMembers count leagues
  pub there : (l : ℕ) (league : LeagueFacts) → entry_in leagues l ≡ Some league → AreMembers (length managers) leagues
      → All (λ e. e ≤ length managers) league.members

abbrev pub MembersAlwaysStay : Type 0
MembersAlwaysStay = (facts : Facts) (managers : List Manager) (leagues : List LeagueFacts) → MembersStay facts managers leagues
