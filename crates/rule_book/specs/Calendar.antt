-- The calendar of a season: when its gameweeks lock, and where its fixtures stand.
use Rattle.std.specs.Prelude.{◌≤◌, ◌<◌, ◌+◌, ◌-◌, ℕ, Bool, false, not, ◌&&◌, ◌||◌, ◌==◌, nat_lt, nat_le, if◌then◌else◌, List, [], ◌∷◌, ◌++◌, Option, Some, None, All, AllPairs, MatchOption, ⊤, length, map, filter, find, position, count_by, drop, max, slice_get, slice_index, slice_set}
use Rattle.std.specs.List.{zip, list_any, list_all}
use Rattle.std.specs.Option.{option_map, option_and_then}
use Rattle.fpl_base.specs.declared.rule.Rule.{Rule}
use Rattle.fpl_base.specs.declared.rule.Rule.TheVariants as rule
use Rattle.rule_book.specs.declared.season.Fixture.{Fixture}

-- what a calendar holds: the deadline of each gameweek, the last gameweek of the season's first half, how many
-- gameweeks are locked, and the fixtures by ascending id
pub record CalendarFacts : Type 0 where
  pub deadlines : List ℕ
  pub split : ℕ
  pub locked : ℕ
  pub fixtures : List Fixture

-- the deadline of gameweek g, where the season has it
abbrev pub deadline_of : CalendarFacts → ℕ → Option ℕ
deadline_of c g = slice_get c.deadlines (g - 1)

-- how many gameweeks have a deadline of at most t
abbrev pub passed_deadlines : List ℕ → ℕ → ℕ
passed_deadlines ds t = count_by (λ d. nat_le d t) ds

-- the calendar when a moment t was told: the gameweeks whose deadlines it has passed are locked, and none is unlocked
abbrev pub after_pass : CalendarFacts → ℕ → CalendarFacts
after_pass c t = record c { locked = max c.locked (passed_deadlines c.deadlines t) }

-- the gameweek in which the next squads, transfers and lineups take part: none where all are locked
abbrev pub next_gameweek : CalendarFacts → Option ℕ
next_gameweek c = if nat_lt c.locked (length c.deadlines) then Some (c.locked + 1) else None

-- gameweeks lock in order
abbrev pub is_locked : CalendarFacts → ℕ → Bool
is_locked c g = nat_le g c.locked

-- the fixture of this id
abbrev pub fixture_of : CalendarFacts → ℕ → Option Fixture
fixture_of c f = find (λ x. x.id == f) c.fixtures

-- the gameweek in which a fixture stands, if it is there and stands in one
abbrev pub stands_in : CalendarFacts → ℕ → Option ℕ
stands_in c f = option_and_then (λ x. x.gw) (fixture_of c f)

-- whether a place, which may be none, is this gameweek
abbrev pub is_gameweek : ℕ → Option ℕ → Bool
is_gameweek g None = false
is_gameweek g (Some h) = h == g

-- whether a place is a locked gameweek
abbrev pub is_locked_place : CalendarFacts → Option ℕ → Bool
is_locked_place c None = false
is_locked_place c (Some g) = is_locked c g

-- of some fixtures, the ids of those that stand in gameweek g
abbrev pub standing_among : List Fixture → ℕ → List ℕ
standing_among xs g = map (λ x. x.id) (filter (λ x. is_gameweek g x.gw) xs)

-- the fixtures that stand in gameweek g, by ascending id
abbrev pub standing : CalendarFacts → ℕ → List ℕ
standing c g = standing_among c.fixtures g

-- a gameweek has ended where each fixture that stands in it is finished; an empty one has ended
abbrev pub has_ended : CalendarFacts → (ℕ → Bool) → ℕ → Bool
has_ended c is_finished g = list_all is_finished (standing c g)

-- a kick-off is early for a deadline where fewer than 90 minutes lie between
abbrev pub is_early : ℕ → ℕ → Bool
is_early deadline kickoff = nat_lt kickoff (deadline + 5400)

-- where a fixture stands in a gameweek, the season has it, and the kick-off is not early for its deadline
abbrev pub StandsRightly : List ℕ → Fixture → Type 0
StandsRightly ds x = MatchOption x.gw ⊤ (λ g. (1 ≤ g) × (g ≤ length ds) × (slice_index ds (g - 1) + 5400 ≤ x.kickoff))

-- what holds of every calendar
pub record IsCalendar (c : CalendarFacts) : Type 0 where
  pub has_gameweeks : 1 ≤ length c.deadlines
  pub at_most_38 : length c.deadlines ≤ 38
  pub deadlines_rise : AllPairs (λ a b. a < b) c.deadlines
  pub split_within : c.split ≤ length c.deadlines
  pub locked_within : c.locked ≤ length c.deadlines
  pub ids_rise : AllPairs (λ x y. x.id < y.id) c.fixtures
  pub at_most_380 : length c.fixtures ≤ 380
  pub stand_rightly : All (StandsRightly c.deadlines) c.fixtures
  pub at_most_20_each : (g : ℕ) → length (standing c g) ≤ 20

-- The refusals. Each gives what the call is refused with, where it is broken.

-- of a season's deadlines, the first gameweek whose deadline is not after that of the gameweek before
abbrev pub first_out_of_order : List ℕ → Option ℕ
first_out_of_order ds = option_map (λ k. k + 2) (position (λ p. nat_le p.1 p.0) (zip ds (drop 1 ds)))

-- the deadlines of a new season do not rise
abbrev pub deadlines_order : List ℕ → Option Rule
deadlines_order ds = option_map (λ g. rule.DeadlineOrder g) (first_out_of_order ds)

-- a deadline t of gameweek g is after that of the gameweek before, if there is one
abbrev pub is_after_previous : List ℕ → ℕ → ℕ → Bool
is_after_previous ds g t = nat_le g 1 || nat_lt (slice_index ds (g - 2)) t

-- a deadline t of gameweek g is before that of the next gameweek, if there is one
abbrev pub is_before_next : List ℕ → ℕ → ℕ → Bool
is_before_next ds g t = nat_le (length ds) g || nat_lt t (slice_index ds g)

-- the new deadline is not after that of the gameweek before, or not before that of the next
abbrev pub deadline_order : CalendarFacts → ℕ → ℕ → Option Rule
deadline_order c g t =
    if is_after_previous c.deadlines g t && is_before_next c.deadlines g t then None else Some (rule.DeadlineOrder g)

-- the gameweek is locked, or the new deadline is not after the moment told
abbrev pub deadline_passed : CalendarFacts → ℕ → ℕ → ℕ → Option Rule
deadline_passed c g t now = if is_locked c g || nat_le t now then Some (rule.DeadlinePassed g) else None

-- a fixture that stands in the gameweek kicks off too early for the new deadline: the one of the least id
abbrev pub deadline_late : CalendarFacts → ℕ → ℕ → Option Rule
deadline_late c g t =
    option_map (λ x. rule.KickoffEarly x.id) (find (λ x. is_gameweek g x.gw && is_early t x.kickoff) c.fixtures)

-- the kick-off is too early for the gameweek in which the fixture is to stand
abbrev pub kickoff_early : CalendarFacts → ℕ → Option ℕ → ℕ → Option Rule
kickoff_early c f None kickoff = None
kickoff_early c f (Some g) kickoff =
    if is_early (slice_index c.deadlines (g - 1)) kickoff then Some (rule.KickoffEarly f) else None

-- the fixture has facts, and is to stand in an open gameweek or nowhere
abbrev pub facts_held : CalendarFacts → ℕ → Option ℕ → Bool → Option Rule
facts_held c f to has_facts =
    if has_facts && not (is_locked_place c to) then Some (rule.HasFacts f) else None

-- the fixture has facts, so that its clubs stay
abbrev pub clubs_held : ℕ → Bool → Option Rule
clubs_held f has_facts = if has_facts then Some (rule.FactsThere f) else None

-- twenty other fixtures stand in the gameweek in which the fixture is to stand
abbrev pub gameweek_full : CalendarFacts → ℕ → Option ℕ → Option Rule
gameweek_full c f None = None
gameweek_full c f (Some g) =
    if nat_le 20 (length (filter (λ i. not (i == f)) (standing c g))) then Some (rule.GameweekFull g) else None

-- a fixture of this id is there
abbrev pub fixture_there : CalendarFacts → ℕ → Option Rule
fixture_there c f = if list_any (λ x. x.id == f) c.fixtures then Some (rule.FixtureThere f) else None

-- 380 fixtures are there
abbrev pub fixtures_full : CalendarFacts → Option Rule
fixtures_full c = if nat_le 380 (length c.fixtures) then Some rule.FixturesFull else None

-- The changes.

-- the calendar of a new season
abbrev pub new_calendar : List ℕ → ℕ → CalendarFacts
new_calendar ds split = record { deadlines = ds; split = split; locked = 0; fixtures = [] }

-- gameweek g has the deadline t
abbrev pub with_deadline : CalendarFacts → ℕ → ℕ → CalendarFacts
with_deadline c g t = record c { deadlines = slice_set c.deadlines (g - 1) t }

-- one more fixture, at its place by id
abbrev pub with_fixture : CalendarFacts → Fixture → CalendarFacts
with_fixture c x = record c {
  fixtures = filter (λ y. nat_lt y.id x.id) c.fixtures ++ x ∷ filter (λ y. nat_lt x.id y.id) c.fixtures;
}

-- fixture f stands there and kicks off then; the other fixtures stay
abbrev pub moved_to : ℕ → Option ℕ → ℕ → Fixture → Fixture
moved_to f to kickoff x = if x.id == f then record x { gw = to; kickoff = kickoff } else x

-- fixture f stands there and kicks off then
abbrev pub with_move : CalendarFacts → ℕ → Option ℕ → ℕ → CalendarFacts
with_move c f to kickoff = record c { fixtures = map (moved_to f to kickoff) c.fixtures }

-- fixture f is between these clubs; the other fixtures stay
abbrev pub between : ℕ → ℕ → ℕ → Fixture → Fixture
between f home away x = if x.id == f then record x { home = home; away = away } else x

-- fixture f is between these clubs
abbrev pub with_opponents : CalendarFacts → ℕ → ℕ → ℕ → CalendarFacts
with_opponents c f home away = record c { fixtures = map (between f home away) c.fixtures }
