-- That a history's records stay lawful: whatever its manager does, the operator changes or a moment locks.
use Rattle.std.specs.Prelude.{◌≡◌, ◌≢◌, ◌⊎◌, ℕ, ⊤, true, false, List, [], Some, None, length}
use Rattle.fpl_base.specs.declared.kinds.Chip.TheVariants.{None as NoChip}
use Rattle.rule_book.specs.declared.player.Player.{Player}
use Rattle.rule_book.specs.History.{Event, kept}
use Rattle.rule_book.specs.HistoryRules.{IsHistory, NoneAfter}
use Rattle.rule_book.specs.HistorySquad.{picks_of}
use Rattle.rule_book.specs.HistoryTeam.{is_begun}
use Rattle.rule_book.specs.PlayerFigures.{position_in}
use Rattle.rule_book.specs.Players.{player_of, price_refusal}
use Rattle.rule_book.specs.Squads.{has_squad_shape, positions_of}
use Rattle.rule_book.specs.Uses.{has_had}
use Rattle.season_book.specs.Book.{Facts}
use Rattle.season_book.specs.Commands.{changed_by}
use Rattle.season_book.specs.Doing.{IsGranted}
use Rattle.season_book.specs.EntryCommands.{deed_refusal, history_after, names_players}
use Rattle.season_book.specs.EntryViews.{gameweek_seen}
use Rattle.season_book.specs.PlayerCommands.{Amendment, facts_amended}
use Rattle.season_book.specs.Verdict.{locked_at}
use Rattle.season_book.specs.declared.command.Command.{Command}
use Rattle.season_book.specs.declared.command.Command.TheVariants as command
use Rattle.lawful_books.specs.Histories.{IsLawfulHistory}

-- a manager who did nothing has no records that break a rule
abbrev pub EmptyIsLawful : Type 0
EmptyIsLawful = (facts : Facts) → IsLawfulHistory facts []

-- an operator's command that is granted leaves histories lawful
abbrev pub ChangesKeepHistories : Type 0
ChangesKeepHistories = (facts : Facts) (now : ℕ) (command : Command) (h : List Event)
    → IsGranted facts now command → IsLawfulHistory facts h → IsLawfulHistory (changed_by facts command) h

-- so does another name and another position of a player, where it is his position already or the history has not had him
abbrev pub AmendmentsKeepHistories : Type 0
AmendmentsKeepHistories = (facts : Facts) (given : Amendment) (h : List Event) → IsHistory h
    → (position_in facts.players given.player ≡ given.position) ⊎ (has_had h given.player ≡ false)
    → IsLawfulHistory facts h → IsLawfulHistory (facts_amended facts given) h

-- and so does a moment, which may lock gameweeks
abbrev pub MomentsKeepHistories : Type 0
MomentsKeepHistories = (facts : Facts) (now : ℕ) (h : List Event) → IsLawfulHistory facts h → IsLawfulHistory (locked_at now facts) h

-- each player has a price that a player can have
abbrev pub AreLawfulPlayers : Facts → Type 0
AreLawfulPlayers facts = (p : ℕ) (player : Player) → player_of facts.players p ≡ Some player → price_refusal player.price ≡ None

-- what the type of a manager's command says of it: an order has fifteen players, and a chip is one
abbrev pub IsTyped : Command → Type 0
IsTyped (command.Lineup players captain vice) = length players ≡ 15
IsTyped (command.Chip chip) = chip ≢ NoChip
IsTyped command = ⊤

-- the team of each gameweek of a lawful history has a squad's shape
abbrev pub TeamsHaveShape : Type 0
TeamsHaveShape = (facts : Facts) (h : List Event) (g : ℕ) → IsHistory h → IsLawfulHistory facts h → is_begun h g ≡ true
    → has_squad_shape (positions_of (picks_of (position_in facts.players) (kept h g))) ≡ true

-- a manager's command that is granted leads from a lawful history to a lawful one, where he did nothing in a later
-- gameweek than the next
abbrev pub DeedsKeepHistories : Type 0
DeedsKeepHistories = TeamsHaveShape → (facts : Facts) (h : List Event) (command : Command)
    → AreLawfulPlayers facts → NoneAfter (gameweek_seen facts.calendar) h → IsHistory h → IsTyped command
    → names_players facts command ≡ true → deed_refusal facts h command ≡ None
    → IsLawfulHistory facts h → IsLawfulHistory facts (history_after facts h command)
