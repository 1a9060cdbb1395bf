-- A running season as a view sees it, and what a view writes of it.
use Rattle.std.specs.Prelude.{◌≡◌, ◌++◌, ℕ, Bool, true, false, List, Option, Some, None, Result, Ok, IfOk}
use Rattle.std.specs.declared.alloc.AllocError.{AllocError}
use Rattle.json.specs.Written.{Written}
use Rattle.serde_json.specs.Data.{Data}
use Rattle.json_members.specs.Tokens.{Appends, tokens_of}
use Rattle.fpl_base.specs.declared.memory.Memory.{Memory}
use Rattle.rule_book.specs.declared.cup.Bracket.{Bracket}
use Rattle.rule_book.specs.Leagues.{LeagueFacts}
use Rattle.manager_book.specs.Managers.{Managers}
use Rattle.season_book.specs.Book.{EntryFacts, Facts}
use Rattle.season_nodes.specs.Held.{SeasonRows}
use Rattle.season_views.specs.Cells.{AreKept}
use Rattle.season_views.specs.Entries.{OfEachBook}

-- the facts, the managers with their rows, the leagues and the cups
pub record SeenSeason : Type 0 where
  pub facts : Facts
  pub managers : Managers
  pub leagues : List LeagueFacts
  pub cups : List Bracket

-- this holds of the entries of each book that the managers stand for
abbrev pub OfEachSeen : SeenSeason → (List EntryFacts → Type 0) → Type 0
OfEachSeen seen Holds = OfEachBook seen.facts seen.managers Holds

-- a value is written by each of these books
abbrev pub WritesEach : SeenSeason → (List EntryFacts → Data) → Result (Unit {0}) AllocError → Written → Written → Type 0
WritesEach seen due result old new = OfEachSeen seen (λ entries. Appends result old new (tokens_of (due entries)))

-- managers play by the rules of the season, and each cell holds what the rule book tells of its node
pub record IsKept (seen : SeenSeason) (cells : SeasonRows) : Type 0 where
  pub profile : seen.managers.profile ≡ seen.facts.profile
  pub kept : AreKept seen.facts seen.managers seen.leagues seen.cups cells

-- what is shown is written, if something is; where nothing is shown, no memory is wanted
abbrev pub WritesShown : Option Data → Result Bool Memory → Written → Written → Type 0
WritesShown None result old new = result ≡ Ok false
WritesShown (Some d) result old new =
    IfOk result (λ is_shown. (is_shown ≡ true) × (new.tokens ≡ old.tokens ++ tokens_of d) × (new.before ≡ old.before))

-- so it is by each of the books that the managers stand for
abbrev pub ShowsEach : SeenSeason → (List EntryFacts → Option Data) → Result Bool Memory → Written → Written → Type 0
ShowsEach seen due result old new = OfEachSeen seen (λ entries. WritesShown (due entries) result old new)
