-- What a window shows of the matches of a head-to-head league.
use Rattle.std.specs.Prelude.{ℕ, ℤ, pos, ◌+◌, ◌*◌, ◌-◌, Bool, false, if◌then◌else◌, nat_lt, int_lt, List, Option, Some, None, codes, filter, length, map, slice_get, slice_index}
use Rattle.std.specs.List.{flat_map, range_with_len}
use Rattle.std.specs.Option.{option_and_then, option_map_or}
use Rattle.std.specs.Ordering.{int_eq}
use Rattle.serde_json.specs.Data.{Data, Members, boolean, member, no_members, null, object, string}
use Rattle.json_members.specs.Members.{count, count_or_null, integer}
use Rattle.rule_book.specs.declared.pairing.Opponent.{Opponent}
use Rattle.rule_book.specs.declared.pairing.Opponent.TheVariants.{Place, Average}
use Rattle.rule_book.specs.Calendar.{is_locked}
use Rattle.rule_book.specs.Entries.{entry_in}
use Rattle.rule_book.specs.HeadToHead.{match_points}
use Rattle.rule_book.specs.LeagueCalls.{is_head}
use Rattle.rule_book.specs.LeagueRows.{match_in}
use Rattle.rule_book.specs.Leagues.{LeagueFacts}
use Rattle.rule_book.specs.Opponents.{opponent_of}
use Rattle.rule_book.specs.Totals.{gameweeks}
use Rattle.season_book.specs.Book.{EntryFacts, Facts}
use Rattle.season_book.specs.LeagueViews.{name_of, net_in}
use Rattle.season_book.specs.Windows.{listed}

-- What a match gave to one of the two, who has the first of these points; nothing while its gameweek is open.

abbrev pub points_shown : Option (ℤ × ℤ) → ℤ
points_shown played = option_map_or (λ scores. scores.0) played (pos 0)

abbrev pub match_points_shown : Option (ℤ × ℤ) → ℕ
match_points_shown played = option_map_or (λ scores. match_points scores.0 scores.1) played 0

-- 1 where it was won, where it was drawn, and where it was lost, and else 0
abbrev pub won_shown : Option (ℤ × ℤ) → ℕ
won_shown played = option_map_or (λ scores. if int_lt scores.1 scores.0 then 1 else 0) played 0

abbrev pub drawn_shown : Option (ℤ × ℤ) → ℕ
drawn_shown played = option_map_or (λ scores. if int_eq scores.0 scores.1 then 1 else 0) played 0

abbrev pub lost_shown : Option (ℤ × ℤ) → ℕ
lost_shown played = option_map_or (λ scores. if int_lt scores.0 scores.1 then 1 else 0) played 0

-- the same match as the other of the two sees it
abbrev pub seen_by_other : Option (ℤ × ℤ) → Option (ℤ × ℤ)
seen_by_other None = None
seen_by_other (Some scores) = Some (scores.1, scores.0)

-- One of the two: his number, which the Average has not, his name, and what the match gave him.

abbrev pub first_members : Option ℕ → List ℕ → Option (ℤ × ℤ) → Members → Members
first_members entry name played more =
    member (codes "entry_1_draw") (count (drawn_shown played))
    (member (codes "entry_1_entry") (count_or_null entry)
    (member (codes "entry_1_loss") (count (lost_shown played))
    (member (codes "entry_1_name") (string name)
    (member (codes "entry_1_player_name") (string (codes ""))
    (member (codes "entry_1_points") (integer (points_shown played))
    (member (codes "entry_1_total") (count (match_points_shown played))
    (member (codes "entry_1_win") (count (won_shown played))
    more)))))))

abbrev pub second_members : Option ℕ → List ℕ → Option (ℤ × ℤ) → Members → Members
second_members entry name played more =
    member (codes "entry_2_draw") (count (drawn_shown played))
    (member (codes "entry_2_entry") (count_or_null entry)
    (member (codes "entry_2_loss") (count (lost_shown played))
    (member (codes "entry_2_name") (string name)
    (member (codes "entry_2_player_name") (string (codes ""))
    (member (codes "entry_2_points") (integer (points_shown played))
    (member (codes "entry_2_total") (count (match_points_shown played))
    (member (codes "entry_2_win") (count (won_shown played))
    more)))))))

-- what stands in a match of a league behind the two: its gameweek and its number
abbrev pub match_members : ℕ → ℕ → ℕ → Members
match_members l g place =
    member (codes "event") (count g)
    (member (codes "id") (count (1000 * g + place))
    (member (codes "is_bye") (boolean false)
    (member (codes "is_knockout") (boolean false)
    (member (codes "league") (count l)
    (member (codes "winner") null
    no_members)))))

-- Who meets whom.

-- the place of an opponent in an order of so many; that of the Average is the one behind them
abbrev pub opponent_place : ℕ → Opponent → ℕ
opponent_place members (Place j) = j
opponent_place members Average = members

-- whether a place is the lower one of the two that meet in a round
abbrev pub stands_first : ℕ → ℕ → ℕ → Bool
stands_first members round place = nat_lt place (opponent_place members (opponent_of members round place))

-- the matches of a league in the gameweeks from its start to one, each as the gameweek and the lower place, by these; none
-- where it is not drawn
abbrev pub matches_in : LeagueFacts → ℕ → List (ℕ × ℕ)
matches_in league g =
    let members = length league.order in
    map (λ place. (g, place)) (filter (stands_first members (g - league.start)) (range_with_len 0 members))

abbrev pub matches_to : LeagueFacts → ℕ → List (ℕ × ℕ)
matches_to league last = flat_map (matches_in league) (gameweeks league.start last)

-- who stands at a place of an order: an entry, or none for the Average; and his name
abbrev pub standing_at : LeagueFacts → ℕ → Option ℕ
standing_at league place = slice_get league.order place

abbrev pub name_at : List EntryFacts → LeagueFacts → ℕ → List ℕ
name_at entries league place = option_map_or (name_of entries) (standing_at league place) (codes "AVERAGE")

-- the points that decide a match, those of the lower place first; none while its gameweek is open
abbrev pub scores_shown : Facts → List EntryFacts → LeagueFacts → ℕ → ℕ → Option (ℤ × ℤ)
scores_shown facts entries league g place =
    if is_locked facts.calendar g then Some (match_in (net_in facts entries) league (slice_index league.order place) place g)
    else None

-- a match by its gameweek and its lower place, in the league of a number
abbrev pub match_row : Facts → List EntryFacts → ℕ → LeagueFacts → ℕ × ℕ → Data
match_row facts entries l league row =
    let played = scores_shown facts entries league row.0 row.1 in
    let other = opponent_place (length league.order) (opponent_of (length league.order) (row.0 - league.start) row.1) in
    object
    (first_members (standing_at league row.1) (name_at entries league row.1) played
    (second_members (standing_at league other) (name_at entries league other) (seen_by_other played)
    (match_members l row.0 row.1)))

-- all matches of a league from its start to the last gameweek of the season, as one page
abbrev pub matches_data : Facts → List EntryFacts → ℕ → LeagueFacts → Data
matches_data facts entries l league = object
    (member (codes "has_next") (boolean false)
    (member (codes "page") (count 1)
    (member (codes "results") (listed (match_row facts entries l league) (matches_to league (length facts.calendar.deadlines)))
    no_members)))

-- none where there is no such head-to-head league
abbrev pub head_matches_window : Facts → List EntryFacts → List LeagueFacts → ℕ → Option Data
head_matches_window facts entries leagues l =
    option_and_then (λ league. if is_head league.kind then Some (matches_data facts entries l league) else None) (entry_in leagues l)
