-- What is found of a player among the lines of a fixture.
use Rattle.std.proofs.Common.{◌≡◌, ◌<◌, ◌==◌, ℕ, zero, suc, true, false, List, [], ◌∷◌, Some, length, get_or, arith, sym, ◌∙◌, ap, subst, zip}
use Rattle.std.specs.List.{All, AllPairs, slice_get}
use Rattle.std.specs.List.Sorted.{IsStrictlyIncreasing}
use Rattle.std.proofs.lemmas.Bool.Decides.{nat_tests}
use Rattle.std.proofs.lemmas.List.Kept.{AllPairs-from_increasing}
use Rattle.std.proofs.lemmas.Map.Entries.{lookup_head, lookup_tail}
use Rattle.std.proofs.lemmas.Option.{same_Some, slice_get-map, slice_get-get_or, slice_get_within, get_or_from_slice_get, none-some}
use Rattle.std.proofs.lemmas.Slice.Zip.{firsts-zip, get_or-zip, length-zip}
use Rattle.std.specs.Option.{option_map}
use Rattle.rule_book.specs.declared.line.Line.{Line}
use Rattle.rule_book.specs.Figures.{IsLine}
use Rattle.rule_book.specs.MatchFacts.{Lines, line_in, players_in}

same_test : (n : ℕ) → (n == n) ≡ true
same_test n = grind (arith, nat_tests)

below_test : (m n : ℕ) → m < n → (m == n) ≡ false
below_test m n lt = grind (arith, nat_tests)

pairs_tail : (x : ℕ) (xs : List ℕ) → AllPairs (λ a b. a < b) (x ∷ xs) → AllPairs (λ a b. a < b) xs
pairs_tail x xs up i j d lt within = up (suc i) (suc j) d (omega arith) (omega arith)

above_head : (x : ℕ) (xs : List ℕ) → AllPairs (λ a b. a < b) (x ∷ xs) → All (λ b. x < b) xs
above_head x xs up k d within = up zero (suc k) d (omega arith) (omega arith)

above_at : (x : ℕ) (es : Lines) (i : ℕ) (row : ℕ × Line) → All (λ b. x < b) (players_in es) → slice_get es i ≡ Some row → x < row.0
above_at x es i row all at =
    let there : slice_get (players_in es) i ≡ Some row.0 = slice_get-map (λ e. e.0) es i ∙ ap (option_map (λ e. e.0)) at in
    subst (λ n. x < n) (get_or_from_slice_get (players_in es) i row.0 0 there) (all i 0 (slice_get_within (players_in es) i row.0 there))

found : (es : Lines) (i : ℕ) (row : ℕ × Line) → AllPairs (λ a b. a < b) (players_in es) → slice_get es i ≡ Some row → line_in es row.0 ≡ Some row.1
found [] i row up at = absurd (none-some row at)
found (e ∷ es) zero row up at =
    subst (λ r. line_in (e ∷ es) r.0 ≡ Some r.1) (same_Some e row at) (lookup_head (λ other. other == e.0) e es (same_test e.0))
found (e ∷ es) (suc i) row up at =
    lookup_tail (λ other. other == row.0) e es (below_test e.0 row.0 (above_at e.0 es i row (above_head e.0 (players_in es) up) at))
    ∙ found es i row (pairs_tail e.0 (players_in es) up) at

-- the row at a place is found by its player
pub line_found : (es : Lines) (i : ℕ) (row : ℕ × Line) → IsStrictlyIncreasing (players_in es) → slice_get es i ≡ Some row → line_in es row.0 ≡ Some row.1
line_found es i row up at = found es i row (AllPairs-from_increasing (players_in es) up) at

-- each line of a fixture is in range where each line that is found is
pub all_in_range : (players : List ℕ) (lines : List Line) → IsStrictlyIncreasing players → length lines ≡ length players
    → ((p : ℕ) (line : Line) → line_in (zip players lines) p ≡ Some line → IsLine line) → All IsLine lines
all_in_range players lines up paired ranged k d within =
    let row : ℕ × Line = (get_or players k 0, get_or lines k d) in
    let inside : k < length players = omega arith in
    let at : slice_get (zip players lines) k ≡ Some row =
    slice_get-get_or (zip players lines) k (0, d) (omega (arith, length-zip players lines)) ∙ ap Some (get_or-zip players lines k (0, d) inside within) in
    ranged row.0 row.1 (line_found (zip players lines) k row (subst IsStrictlyIncreasing (sym (firsts-zip players lines paired)) up) at)
