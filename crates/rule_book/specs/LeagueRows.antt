-- The rows of leagues, by the points after deductions that each entry has in each gameweek.
use Rattle.std.specs.Prelude.{ℕ, ◌-◌, ◌==◌, ℤ, List, [], Option, length, map, position, slice_index}
use Rattle.std.specs.Option.{option_map_or}
use Rattle.rule_book.specs.HeadToHead.{head_score}
use Rattle.rule_book.specs.Leagues.{LeagueFacts}
use Rattle.rule_book.specs.Opponents.{mean_of, opponent_of}
use Rattle.rule_book.specs.Totals.{gameweeks, total_from}
use Rattle.rule_book.specs.declared.pairing.Opponent.{Opponent}
use Rattle.rule_book.specs.declared.pairing.Opponent.TheVariants.{Place, Average}
use Rattle.rule_book.specs.declared.tables.HeadScore.{HeadScore}

-- a row of a classic league: an entry, its total from the league's start on, and its counted transfers
abbrev pub classic_row : (ℕ → ℕ → ℤ) → (ℕ → Option ℕ) → (ℕ → ℕ) → ℕ → LeagueFacts → ℕ → ℕ × ℤ × ℕ
classic_row net first counted locked league entry = (entry, total_from (net entry) league.start (first entry) locked, counted entry)

-- one for each member
abbrev pub classic_rows : (ℕ → ℕ → ℤ) → (ℕ → Option ℕ) → (ℕ → ℕ) → ℕ → LeagueFacts → List (ℕ × ℤ × ℕ)
classic_rows net first counted locked league = map (classic_row net first counted locked league) league.members

-- the points of the Average in a gameweek: the mean of all in the order
abbrev pub average_in : (ℕ → ℕ → ℤ) → List ℕ → ℕ → ℤ
average_in net order g = mean_of (map (λ entry. net entry g) order)

-- the points of an opponent in a gameweek: those of the member at his place in the order, or the Average's
abbrev pub points_against : (ℕ → ℕ → ℤ) → List ℕ → ℕ → Opponent → ℤ
points_against net order g (Place j) = net (slice_index order j) g
points_against net order g Average = average_in net order g

-- the place of a member in the order, if it has one
abbrev pub place_of : List ℕ → ℕ → Option ℕ
place_of order entry = position (λ member. member == entry) order

-- the match of an entry at a place in a gameweek: its own points and those of whom it meets there
abbrev pub match_in : (ℕ → ℕ → ℤ) → LeagueFacts → ℕ → ℕ → ℕ → ℤ × ℤ
match_in net league entry place g =
    (net entry g, points_against net league.order g (opponent_of (length league.order) (g - league.start) place))

-- its matches in the locked gameweeks from the start on; none where the league is not drawn
abbrev pub matches_of : (ℕ → ℕ → ℤ) → ℕ → LeagueFacts → ℕ → List (ℤ × ℤ)
matches_of net locked league entry =
    option_map_or (λ place. map (match_in net league entry place) (gameweeks league.start locked)) (place_of league.order entry) []

-- a row of a head-to-head league: a member and what it has of its matches
abbrev pub head_row : (ℕ → ℕ → ℤ) → ℕ → LeagueFacts → ℕ → ℕ × HeadScore
head_row net locked league entry = (entry, head_score (matches_of net locked league entry))

-- one for each member
abbrev pub head_rows : (ℕ → ℕ → ℤ) → ℕ → LeagueFacts → List (ℕ × HeadScore)
head_rows net locked league = map (head_row net locked league) league.members
