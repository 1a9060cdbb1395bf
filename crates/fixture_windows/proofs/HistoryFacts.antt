-- A player's line found among those of a match.
use Rattle.std.proofs.Common.{◌≡◌, sym, ap, refl, ℕ, zero, suc, ◌<◌, List, [], ◌∷◌, Option, Some, arith, get_or, length, map, slice_get, zip}
use Rattle.std.proofs.lemmas.Option.{same_Some}
use Rattle.rule_book.specs.declared.line.Line.{Line}
use Rattle.rule_book.specs.MatchFacts.{Lines, players_in}

-- the lines without their players
abbrev pub only_lines : Lines → List Line
only_lines rows = map (λ row. row.1) rows

pub sides_are : (rows : Lines) → zip (players_in rows) (only_lines rows) ≡ rows
sides_are [] = refl
sides_are (row ∷ rows) = ap (λ l. row ∷ l) (sides_are rows)

pub as_long : (rows : Lines) → length (only_lines rows) ≡ length (players_in rows)
as_long [] = refl
as_long (row ∷ rows) = ap suc (as_long rows)

-- who stands at a place with a line has this row there
pub row_at : (rows : Lines) (place p : ℕ) (o : Option Line) → place < length (players_in rows) → ((d : ℕ) → get_or (players_in rows) place d ≡ p) → slice_get (only_lines rows) place ≡ o
    → (line : Line) × (slice_get rows place ≡ Some (p, line)) × (o ≡ Some line)
row_at [] place p o within is at = absurd (omega (arith, within))
row_at (row ∷ rows) zero p o within is at = (row.1, ap Some (λ i. (is 0 i, row.1)), sym at)
row_at (row ∷ rows) (suc place) p o within is at = row_at rows place p o (omega (arith, within)) is at

-- a row is made of what stands at its place on both sides
pub pair_at : (players : List ℕ) (lines : List Line) (place : ℕ) (row : ℕ × Line) (p : ℕ) (line : Line) → length lines ≡ length players → slice_get (zip players lines) place ≡ Some row
    → (place < length players) × (get_or players place p ≡ row.0) × (get_or lines place line ≡ row.1)
pair_at [] lines place row p line same at = absurd (cc at)
pair_at (k ∷ players) [] place row p line same at = absurd (omega (arith, same))
pair_at (k ∷ players) (l ∷ lines) zero row p line same at =
    let is = same_Some (k, l) row at in
    (omega arith, ap (λ (r : ℕ × Line). r.0) is, ap (λ (r : ℕ × Line). r.1) is)
pair_at (k ∷ players) (l ∷ lines) (suc place) row p line same at =
    let rest = pair_at players lines place row p line (omega (arith, same)) at in
    (omega (arith, rest.0), rest.1, rest.2)
