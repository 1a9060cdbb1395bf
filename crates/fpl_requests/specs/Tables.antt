-- The tables that `matchit` keeps, one for each method.
use Rattle.std.specs.Prelude.{◌≡◌, ℕ, List, [], ◌∷◌, Option, Some, None, MatchOption, Bool, true, false, Result, Ok, Err, if◌then◌else◌}
use Rattle.std.specs.Borrow.{Bor}
use Rattle.std.specs.Str.{IsUtf8}
use Rattle.matchit.specs.Rows.{RowsOf}
use Rattle.matchit.specs.Order.{placed}
use Rattle.matchit.specs.Route.{Scan, parse_route}
use Rattle.matchit.specs.Router.{RouteOf, route_from}
use Rattle.matchit.specs.declared.error.InsertError.{InsertError}
use Rattle.fpl_requests.specs.declared.route.Asks.{Asks}
use Rattle.fpl_requests.specs.declared.route.Callers.{Callers}
use Rattle.fpl_requests.specs.declared.route.Found.{Found}
use Rattle.fpl_requests.specs.declared.route.Found.TheVariants as found
use Rattle.fpl_requests.specs.declared.route.Route.{Route}
use Rattle.fpl_requests.specs.declared.route.Method.{Method}
use Rattle.fpl_requests.specs.declared.routes.Place.{Place}
use Rattle.fpl_requests.specs.Targets.{Fits, IsShaped, Row, is_method, place_of, rows_at, served}

-- patterns with what is served there, as a router keeps them
abbrev pub Table : Type 0
Table = RowsOf (RouteOf Place)

abbrev pub added_read : Result Scan InsertError → Place → Table → Table
added_read (Ok s) value rows = placed (s.pattern, route_from s value) rows
added_read (Err e) value rows = rows

unfoldable pub all_added : Table → List (List ℕ × Place) → Table
all_added rows [] = rows
all_added rows (r ∷ rest) = all_added (added_read (parse_route r.0) r.1 rows) rest

unfoldable pub table : Method → Table
table method = all_added [] (rows_at method served)

-- a row, as the code has it
abbrev pub row_of : Method × Bor (List ℕ) × Callers × Asks → Row
row_of row = (row.0, row.1.now, row.2, row.3)

-- a table with one more row, if it is one of this method
abbrev pub with_row : Method → Row → Table → Table
with_row method row rows = if is_method row.0 method then added_read (parse_route row.1) (place_of row) rows else rows

-- a target has the shapes of one place at most
abbrev pub IsOne : Method → List ℕ → Type 0
IsOne method target = (a b : Place) → IsShaped method a target → IsShaped method b target → a ≡ b

-- a target that is text has the shape of no place
abbrev pub IsNowhere : Method → List ℕ → Type 0
IsNowhere method target = IsUtf8 target → (place : Place) → IsShaped method place target → ⊥

-- what a method finds at a target, with its ids
abbrev pub IsAt : Method → List ℕ → Option (Route × List ℕ) → Type 0
IsAt method target at =
    MatchOption at ((place : Place) (ns : List ℕ) → Fits method place target ns → ⊥)
    (λ (one : Route × List ℕ). (place : Place) × Fits method place target one.1 × (place.route ≡ one.0))

-- what is told of a target at which a method finds this, and which is served to one method at least or to none
abbrev pub told : Option (Route × List ℕ) → Bool → Found
told (Some at) is_served = found.Route at.0 at.1
told None true = found.Method
told None false = found.Unknown
