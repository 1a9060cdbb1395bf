-- What the calendar keeps beside its facts, and where a fixture is in it.
use Rattle.std.specs.Prelude.{◌≡◌, ◌≤◌, ◌<◌, ◌+◌, ◌-◌, ◌==◌, ℕ, Bool, false, not, nat_lt, nat_le, List, [], ◌∷◌, ◌++◌, Option, Some, None, All, length, filter, take, drop, slice_index_or, slice_set}
use Rattle.std.specs.List.{HoldsAt}
use Rattle.rule_book.specs.declared.season.Fixture.{Fixture}
use Rattle.rule_book.specs.Calendar.{CalendarFacts, IsCalendar, standing_among, is_early}

-- the lists are those of the fixtures that stand in gameweek 1, 2 and so on
pub record AreStanding (lists : List (List ℕ)) (xs : List Fixture) : Type 0 where
  pub lists_are : (k : ℕ) → k < length lists → slice_index_or lists k [] ≡ standing_among xs (k + 1)

-- the calendar is lawful, and each of its gameweeks has its list
pub record IsKept (c : CalendarFacts) (lists : List (List ℕ)) : Type 0 where
  pub lawful : IsCalendar c
  pub one_each : length lists ≡ length c.deadlines
  pub standing : AreStanding lists c.fixtures

-- ascending ids with one more, at its place
abbrev pub ids_with : ℕ → List ℕ → List ℕ
ids_with f ids = filter (λ i. nat_lt i f) ids ++ f ∷ filter (λ i. nat_le f i) ids

-- ids without one
abbrev pub ids_without : ℕ → List ℕ → List ℕ
ids_without f ids = filter (λ i. not (i == f)) ids

-- the lists when fixture f stands in one gameweek more, or in none
abbrev pub put_in : List (List ℕ) → Option ℕ → ℕ → List (List ℕ)
put_in lists None f = lists
put_in lists (Some g) f = slice_set lists (g - 1) (ids_with f (slice_index_or lists (g - 1) []))

-- the lists when fixture f no longer stands in its gameweek, if it stood in one
abbrev pub taken_out : List (List ℕ) → Option ℕ → ℕ → List (List ℕ)
taken_out lists None f = lists
taken_out lists (Some g) f = slice_set lists (g - 1) (ids_without f (slice_index_or lists (g - 1) []))

-- fixture f is at place i of fixtures by ascending id
pub record IsAt (xs : List Fixture) (f i : ℕ) : Type 0 where
  pub within : i < length xs
  pub before : All (λ x. x.id < f) (take i xs)
  pub here : HoldsAt (λ x. x.id ≡ f) xs i
  pub after : All (λ x. f < x.id) (drop (i + 1) xs)

-- fixture f is not there, and would go to place i
pub record IsGap (xs : List Fixture) (f i : ℕ) : Type 0 where
  pub within : i ≤ length xs
  pub before : All (λ x. x.id < f) (take i xs)
  pub after : All (λ x. f < x.id) (drop i xs)

-- a fixture, if it is there, kicks off too early for a deadline
abbrev pub is_there_early : ℕ → Option Fixture → Bool
is_there_early deadline None = false
is_there_early deadline (Some x) = is_early deadline x.kickoff
