-- A manager's command that is granted leads from a lawful history to a lawful one.
use Rattle.std.proofs.Common.{◌≡◌, ◌≤◌, ◌+◌, ◌&&◌, ℕ, true, List, [], ◌++◌, Option, Some, None, append-nil, nat_lt, length, arith, refl, sym, subst}
use Rattle.std.specs.List.{list_all}
use Rattle.std.specs.Option.{option_map_or}
use Rattle.std.proofs.lemmas.Bool.{and_parts}
use Rattle.std.proofs.lemmas.Option.{cond_some, none-some}
use Rattle.fpl_base.specs.declared.rule.Rule.TheVariants as rule
use Rattle.rule_book.specs.Calendar.{next_gameweek}
use Rattle.rule_book.specs.EntryCalls.{in_next}
use Rattle.rule_book.specs.History.{Event, in_gameweek}
use Rattle.rule_book.specs.HistoryRules.{IsHistory, NoneAfter}
use Rattle.season_book.specs.Book.{Facts}
use Rattle.season_book.specs.Commands.{has_player}
use Rattle.season_book.specs.EntryCommands.{deeds_in, names_players, refused_in}
use Rattle.season_book.specs.EntryViews.{gameweek_seen}
use Rattle.season_book.specs.declared.command.Command.{Command}
use Rattle.season_book.specs.declared.command.Command.TheVariants as command
use Rattle.season_records.proofs.Deeds.{next_seen}
use Rattle.lawful_books.specs.Histories.{AreThere, IsLawfulHistory}
use Rattle.lawful_books.specs.EntriesKeeping.{AreLawfulPlayers, DeedsKeepHistories, IsTyped, TeamsHaveShape}
use Rattle.lawful_books.proofs.Batches.{transferred}
use Rattle.lawful_books.proofs.Chips.{played, taken_back}
use Rattle.lawful_books.proofs.Firsts.{registered}
use Rattle.lawful_books.proofs.Grows.{goes_on}
use Rattle.lawful_books.proofs.Lineups.{lined}
use Rattle.lawful_books.proofs.EntriesPlayers.{all_of}

all_there : (facts : Facts) (players : List ℕ) (captain vice : ℕ) → (list_all (has_player facts) players && (has_player facts captain && has_player facts vice)) ≡ true → AreThere facts players
all_there facts players captain vice named =
    all_of (has_player facts) players (and_parts (list_all (has_player facts) players) (has_player facts captain && has_player facts vice) named).0

module _ (shapes : TeamsHaveShape) (facts : Facts) (h : List Event) (players : AreLawfulPlayers facts) (history : IsHistory h) (lawful : IsLawfulHistory facts h) where
  -- in the next gameweek
  goes_on_by : (command : Command) (g : ℕ) → 1 ≤ g → NoneAfter g h → IsTyped command → names_players facts command ≡ true → refused_in facts h command g ≡ None
      → IsLawfulHistory facts (h ++ in_gameweek g (deeds_in facts h command g))
  goes_on_by (command.Squad ps captain vice) g one early typed named granted =
      goes_on facts h g _ early lawful (registered facts h g ps captain vice players (all_there facts ps captain vice named) granted) one
  goes_on_by (command.Transfers swaps) g one early typed named granted =
      goes_on facts h g _ early lawful (transferred facts h g players early history lawful swaps named granted) one
  goes_on_by (command.Lineup ps captain vice) g one early typed named granted =
      goes_on facts h g _ early lawful (lined facts h g shapes early history lawful ps captain vice typed (all_there facts ps captain vice named) granted) one
  goes_on_by (command.Chip chip) g one early typed named granted = goes_on facts h g _ early lawful (played facts h g lawful chip typed granted) one
  goes_on_by command.CancelChip g one early typed named granted = goes_on facts h g _ early lawful (taken_back facts h g lawful granted) one
  goes_on_by command g one early typed named granted = subst (IsLawfulHistory facts) (sym (append-nil h)) lawful

  from_one : (g : ℕ) → next_gameweek facts.calendar ≡ Some g → 1 ≤ g
  from_one g is =
      let both = cond_some (nat_lt facts.calendar.locked (length facts.calendar.deadlines)) (facts.calendar.locked + 1) g is in
      omega (arith, both.1)

  in_next_keeps : (command : Command) (next : Option ℕ) → NoneAfter (gameweek_seen facts.calendar) h → IsTyped command → names_players facts command ≡ true
      → next_gameweek facts.calendar ≡ next → in_next next (refused_in facts h command) ≡ None
      → IsLawfulHistory facts (h ++ option_map_or (λ g. in_gameweek g (deeds_in facts h command g)) next [])
  in_next_keeps command None early typed named is granted = absurd (none-some rule.SeasonOver (sym granted))
  in_next_keeps command (Some g) early typed named is granted =
      goes_on_by command g (from_one g is) (subst (λ w. NoneAfter w h) (sym (next_seen facts.calendar g is)) early) typed named granted

pub deeds_keep_histories : DeedsKeepHistories
deeds_keep_histories shapes facts h command players early history typed named granted lawful =
    in_next_keeps shapes facts h players history lawful command (next_gameweek facts.calendar) early typed named refl granted
