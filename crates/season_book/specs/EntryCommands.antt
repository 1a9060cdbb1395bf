-- The commands of an entry's manager: what has to be there, what refuses each, and what each adds to his history.
use Rattle.std.specs.Prelude.{◌++◌, ℕ, Bool, true, ◌&&◌, List, [], Option, None}
use Rattle.std.specs.List.{list_all}
use Rattle.std.specs.Option.{option_map_or}
use Rattle.fpl_base.specs.declared.rule.Rule.{Rule}
use Rattle.rule_book.specs.Calendar.{next_gameweek}
use Rattle.rule_book.specs.EntryCalls.{batch_deeds, batch_refused, cancel_deeds, cancel_refused, chip_deeds, chip_refused, in_next, lineup_deeds, lineup_refused, squad_deeds, squad_refused}
use Rattle.rule_book.specs.History.{Deed, Event, in_gameweek}
use Rattle.season_book.specs.Book.{Facts}
use Rattle.season_book.specs.Commands.{has_player}
use Rattle.season_book.specs.declared.command.Command.{Command}
use Rattle.season_book.specs.declared.command.Command.TheVariants as command

-- fifteen players, and two of them
abbrev pub has_players : Facts → List ℕ → ℕ → ℕ → Bool
has_players facts players captain vice = list_all (has_player facts) players && (has_player facts captain && has_player facts vice)

-- all players that a manager's command names are there
abbrev pub names_players : Facts → Command → Bool
names_players facts (command.Squad players captain vice) = has_players facts players captain vice
names_players facts (command.Transfers swaps) = list_all (λ swap. has_player facts swap.out && has_player facts swap.into) swaps
names_players facts (command.Lineup players captain vice) = has_players facts players captain vice
names_players facts command = true

-- what refuses a manager's command in gameweek g, by what he did before
abbrev pub refused_in : Facts → List Event → Command → ℕ → Option Rule
refused_in facts h (command.Squad players captain vice) g = squad_refused facts.players h players captain vice
refused_in facts h (command.Transfers swaps) g = batch_refused facts.players h swaps g
refused_in facts h (command.Lineup players captain vice) g = lineup_refused facts.players h players captain vice g
refused_in facts h (command.Chip chip) g = chip_refused h facts.calendar.split chip g
refused_in facts h command.CancelChip g = cancel_refused h g
refused_in facts h command g = None

-- the same in the next gameweek; where all are locked the season is over
abbrev pub deed_refusal : Facts → List Event → Command → Option Rule
deed_refusal facts h command = in_next (next_gameweek facts.calendar) (refused_in facts h command)

-- what a manager's command does in gameweek g
abbrev pub deeds_in : Facts → List Event → Command → ℕ → List Deed
deeds_in facts h (command.Squad players captain vice) g = squad_deeds facts.players players captain vice
deeds_in facts h (command.Transfers swaps) g = batch_deeds facts.players h swaps g
deeds_in facts h (command.Lineup players captain vice) g = lineup_deeds players captain vice
deeds_in facts h (command.Chip chip) g = chip_deeds chip
deeds_in facts h command.CancelChip g = cancel_deeds
deeds_in facts h command g = []

-- his history behind it: the deeds of the next gameweek follow
abbrev pub history_after : Facts → List Event → Command → List Event
history_after facts h command =
    h ++ option_map_or (λ g. in_gameweek g (deeds_in facts h command g)) (next_gameweek facts.calendar) []
