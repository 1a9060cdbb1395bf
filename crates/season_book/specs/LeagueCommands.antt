-- The commands on leagues and cups: what has to be there, what refuses each, and what each changes.
use Rattle.std.specs.Prelude.{◌+◌, ◌++◌, ℕ, Bool, false, ◌&&◌, List, [], ◌∷◌, length, Option, Some, None, is_some}
use Rattle.std.specs.List.{list_all}
use Rattle.std.specs.Option.{option_and_then, option_map_or}
use Rattle.fpl_base.specs.declared.rule.Rule.{Rule}
use Rattle.fpl_base.specs.declared.rule.Rule.TheVariants as rule
use Rattle.rule_book.specs.declared.cup.Bracket.{Bracket}
use Rattle.rule_book.specs.CupCalls.{cup_refusal, entrants}
use Rattle.rule_book.specs.Entries.{changed_in, entry_in}
use Rattle.rule_book.specs.HistoryRules.{is_started}
use Rattle.rule_book.specs.LeagueCalls.{create_refusal, draw_refusal, join_refusal, new_league, with_member, with_order}
use Rattle.rule_book.specs.Leagues.{LeagueFacts}
use Rattle.rule_book.specs.Refusals.{first_broken, unless}
use Rattle.season_book.specs.Book.{EntryFacts, Facts}
use Rattle.season_book.specs.Commands.{has_gameweek}
use Rattle.season_book.specs.declared.command.Command.{Command}
use Rattle.season_book.specs.declared.command.Command.TheVariants as command
use Rattle.season_book.specs.declared.made.Made.{Made}
use Rattle.season_book.specs.declared.made.Made.TheVariants as made

-- Entries as leagues and cups see them.

-- an entry was issued
abbrev pub is_issued : List EntryFacts → ℕ → Bool
is_issued entries e = is_some (entry_in entries e)

-- an entry is registered: it has a first squad
abbrev pub is_registered : List EntryFacts → ℕ → Bool
is_registered entries e = option_map_or (λ entry. is_started entry.history) (entry_in entries e) false

-- Leagues.

-- all that a command on leagues names is there, where these entries were issued
abbrev pub leagues_there : Facts → (ℕ → Bool) → List LeagueFacts → Command → Bool
leagues_there facts issued leagues (command.League kind name code start) = has_gameweek facts start
leagues_there facts issued leagues (command.Join l code) = is_some (entry_in leagues l)
leagues_there facts issued leagues (command.Draw l order) = is_some (entry_in leagues l) && list_all issued order
leagues_there facts issued leagues command = false

-- what refuses the command of entry e, which is registered or not
abbrev pub league_refusal : Facts → Bool → List LeagueFacts → ℕ → Command → Option Rule
league_refusal facts registered leagues e (command.League kind name code start) =
    first_broken (unless registered rule.NotRegistered ∷ create_refusal leagues e start facts.calendar.locked ∷ [])
league_refusal facts registered leagues e (command.Join l code) =
    first_broken (
    unless registered rule.NotRegistered
    ∷ option_and_then (λ league. join_refusal leagues e league code) (entry_in leagues l)
    ∷ [])
league_refusal facts registered leagues e (command.Draw l order) =
    option_and_then (λ league. draw_refusal league order facts.calendar.locked) (entry_in leagues l)
league_refusal facts registered leagues e command = None

-- the leagues behind the command of entry e
abbrev pub leagues_after : List LeagueFacts → ℕ → Command → List LeagueFacts
leagues_after leagues e (command.League kind name code start) = leagues ++ new_league kind name code start e ∷ []
leagues_after leagues e (command.Join l code) = changed_in (with_member e) leagues l
leagues_after leagues e (command.Draw l order) = changed_in (with_order order) leagues l
leagues_after leagues e command = leagues

-- what it makes: a new league has the next number
abbrev pub league_made : List LeagueFacts → Command → Made
league_made leagues (command.League kind name code start) = made.League (length leagues + 1)
league_made leagues command = made.Nothing

-- Cups.

-- the cup that a command draws
abbrev pub cup_drawn : Command → Option Bracket
cup_drawn (command.Cup start slots coins) = Some (record { start = start; slots = slots; coins = coins })
cup_drawn command = None

-- all that a draw names is there, where these entries were issued
abbrev pub cup_there : Facts → (ℕ → Bool) → Bracket → Bool
cup_there facts issued b = has_gameweek facts b.start && list_all issued (entrants b.slots)

-- what refuses a draw beside so many cups, where these entries are registered
abbrev pub cup_broken : Facts → (ℕ → Bool) → ℕ → Bracket → Option Rule
cup_broken facts registered count b = cup_refusal registered count b (length facts.calendar.deadlines) facts.calendar.locked

-- the number of a new cup
abbrev pub cup_made : List Bracket → Made
cup_made cups = made.Cup (length cups + 1)
