-- What a command on a season changes that cells hang on.
use Rattle.std.specs.Prelude.{◌≡◌, ◌≢◌, ◌⊎◌, ℕ, ◌+◌, Bool, List, length, Option, None, Some, IsSomeAnd}
use Rattle.rule_book.specs.declared.line.Line.{Line}
use Rattle.rule_book.specs.Calendar.{stands_in}
use Rattle.rule_book.specs.Entries.{entry_in}
use Rattle.rule_book.specs.Leagues.{LeagueFacts}
use Rattle.rule_book.specs.MatchFacts.{Lines, is_finished, line_in, line_of, lines_of}
use Rattle.leagues_and_cups.specs.Books.{Rise}
use Rattle.rescore_graph.specs.Graph.{Among}
use Rattle.season_book.specs.Book.{Facts}
use Rattle.season_book.specs.declared.command.Command.{Command}
use Rattle.season_book.specs.declared.command.Command.TheVariants as command
use Rattle.season_graph.specs.Touched.{is_other}
use Rattle.season_cells.specs.declared.plan.Plan.{Plan}
use Rattle.season_cells.specs.declared.plan.Plan.TheVariants as plan

-- a fixture stands in another place than before; in the same one it is no change
abbrev pub IsPlaced : ℕ → Option ℕ → Option ℕ → Plan → Type 0
IsPlaced f old new plan.Nothing = old ≡ new
IsPlaced f old new (plan.Place k from to) = (k ≡ f) × (from ≡ old) × (to ≡ new) × (old ≢ new)
IsPlaced f old new other = ⊥

-- a player's line in a fixture is another; the same is no change
abbrev pub IsLined : ℕ → ℕ → Option Line → Option Line → Plan → Type 0
IsLined f p old new plan.Nothing = old ≡ new
IsLined f p old new (plan.Line k q) = (k ≡ f) × (q ≡ p) × (old ≢ new)
IsLined f p old new other = ⊥

-- the mark of a fixture is another; the same is no change
abbrev pub IsMarked : ℕ → Bool → Bool → Plan → Type 0
IsMarked f old new plan.Nothing = old ≡ new
IsMarked f old new (plan.Mark k) = (k ≡ f) × (old ≢ new)
IsMarked f old new other = ⊥

-- some players are those whose lines are others among the new lines
pub record AreOthersIn (old new : Lines) (players : List ℕ) : Type 0 where
  pub within : (p : ℕ) → Among players p → line_in old p ≢ line_in new p
  pub all : (p : ℕ) → Among players p ⊎ (line_in old p ≡ line_in new p)

-- the lines and the mark of a fixture are others
abbrev pub IsSheet : ℕ → Lines → Bool → Lines → Bool → Plan → Type 0
IsSheet f old was new is (plan.Sheet k players marked) = (k ≡ f) × AreOthersIn old new players.items × (marked ≡ is_other was is)
IsSheet f old was new is other = ⊥

-- the league of a number is another, where it is there; its members stand by ascending number
abbrev pub IsLeagued : List LeagueFacts → ℕ → Plan → Type 0
IsLeagued leagues l plan.Nothing = entry_in leagues l ≡ None
IsLeagued leagues l (plan.League k) = (k ≡ l) × IsSomeAnd (entry_in leagues l) (λ league. Rise league.members)
IsLeagued leagues l other = ⊥

-- how many lines a command is compared with: those that stand in the fixture of a sheet; the one that a command on one line
-- names; none for the others
abbrev pub lines_named : Facts → Command → ℕ
lines_named facts (command.Sheet f lines finished) = length (lines_of facts.matches f)
lines_named facts (command.Line f p line) = 1
lines_named facts (command.Drop f p) = 1
lines_named facts other = 0

-- what a command on a season and its leagues changes; most change nothing that cells hang on
abbrev pub IsPlanOf : Facts → List LeagueFacts → Command → Plan → Type 0
IsPlanOf facts leagues (command.Player id name position club price) = λ made. made ≡ plan.Player id
IsPlanOf facts leagues (command.Fixture id home away g kickoff) = IsPlaced id None g
IsPlanOf facts leagues (command.Move f g kickoff) = IsPlaced f (stands_in facts.calendar f) g
IsPlanOf facts leagues (command.Sheet f lines finished) = IsSheet f (lines_of facts.matches f) (is_finished facts.matches f) lines finished
IsPlanOf facts leagues (command.Line f p line) = IsLined f p (line_of facts.matches f p) (Some line)
IsPlanOf facts leagues (command.Drop f p) = IsLined f p (line_of facts.matches f p) None
IsPlanOf facts leagues (command.Finished f finished) = IsMarked f (is_finished facts.matches f) finished
IsPlanOf facts leagues (command.League kind name code start) = λ made. made ≡ plan.League (length leagues + 1)
IsPlanOf facts leagues (command.Join l code) = IsLeagued leagues l
IsPlanOf facts leagues (command.Draw l order) = IsLeagued leagues l
IsPlanOf facts leagues other = λ made. made ≡ plan.Nothing
