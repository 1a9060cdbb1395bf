-- The rounds of head-to-head leagues by the places of the order, counted from 0. The Average's place is the one behind the
-- members.
use Rattle.std.specs.Prelude.{ℕ, ◌==◌, ◌%◌, min, Bool, List, []}
use Rattle.std.specs.Option.{option_map_or}
use Rattle.rule_book.specs.Entries.{entry_in}
use Rattle.rule_book.specs.Leagues.{LeagueFacts}
use Rattle.rule_book.specs.Opponents.{opponent_of}
use Rattle.rule_book.specs.declared.pairing.Opponent.{Opponent}
use Rattle.rule_book.specs.declared.pairing.Opponent.TheVariants.{Place, Average}

-- the order in which the league of a number was drawn; empty before, and where there is no such league
abbrev pub order_in : List LeagueFacts → ℕ → List ℕ
order_in leagues l = option_map_or (λ league. league.order) (entry_in leagues l) []

-- the first gameweek of the league of a number; 0 where there is no such league
abbrev pub start_in : List LeagueFacts → ℕ → ℕ
start_in leagues l = option_map_or (λ league. league.start) (entry_in leagues l) 0

-- whether the Average plays among so many members
abbrev pub has_average : ℕ → Bool
has_average members = members % 2 == 1

-- the place of an opponent of one of so many members
abbrev pub place_met : ℕ → Opponent → ℕ
place_met members (Place j) = j
place_met members Average = members

-- the place that a place meets in a round
abbrev pub met : ℕ → ℕ → ℕ → ℕ
met members k i = place_met members (opponent_of members k i)

-- the lower one of the two places
abbrev pub lower : ℕ → ℕ → ℕ → ℕ
lower members k i = min i (met members k i)
