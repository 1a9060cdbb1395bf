-- Which command stands where among the steps of a made-up season.
use Rattle.std.specs.Prelude.{◌≤◌, ℕ, ◌-◌, ◌/◌, ◌+◌, ◌%◌, ◌==◌, Option, Some, None, cond, nat_lt, ⊤}
use Rattle.season_generator.specs.declared.places.Place.{Place}
use Rattle.season_generator.specs.declared.places.Place.TheVariants as place

-- an entry's key, then its squad
abbrev pub place_of_entry : ℕ → Place
place_of_entry n = cond (n % 2 == 0) (place.Key (n / 2 + 1)) (place.Squad (n / 2 + 1))

-- the season, 600 players, 10 fixtures, 500 entries, a league, the 499 entries that join it, 10 sheets, and one line
-- again
abbrev pub place_of : ℕ → Option Place
place_of n =
    cond (nat_lt n 1) (Some place.Season)
    (cond (nat_lt n 601) (Some (place.Player n))
    (cond (nat_lt n 611) (Some (place.Fixture (n - 600)))
    (cond (nat_lt n 1611) (Some (place_of_entry (n - 611)))
    (cond (nat_lt n 1612) (Some place.League)
    (cond (nat_lt n 2111) (Some (place.Join (n - 1610)))
    (cond (nat_lt n 2121) (Some (place.Sheet (n - 2110)))
    (cond (nat_lt n 2122) (Some place.Again) None)))))))

-- players, fixtures and entries are counted from 1
abbrev pub IsPlace : Place → Type 0
IsPlace (place.Player p) = (1 ≤ p) × (p ≤ 600)
IsPlace (place.Fixture f) = (1 ≤ f) × (f ≤ 10)
IsPlace (place.Key e) = (1 ≤ e) × (e ≤ 500)
IsPlace (place.Squad e) = (1 ≤ e) × (e ≤ 500)
IsPlace (place.Join e) = (1 ≤ e) × (e ≤ 500)
IsPlace (place.Sheet f) = (1 ≤ f) × (f ≤ 10)
IsPlace place = ⊤
