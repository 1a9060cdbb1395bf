-- The line of a player among those of a fixture, one more line at a time.
use Rattle.std.proofs.Common.{◌≡◌, ◌<◌, ◌∷◌, [], ◌++◌, ◌∙◌, ◌==◌, ℕ, zero, suc, Bool, true, false, cond, List, Some, None, inl, inr, arith, length, get_or, take, refl, sym, ap, subst}
use Rattle.std.specs.Prelude.{nat_lt}
use Rattle.std.specs.List.{slice_get, zip}
use Rattle.std.proofs.lemmas.Bool.Decides.{nat_tests}
use Rattle.std.proofs.lemmas.Option.{slice_get_read, slice_get_within, slice_get-get_or, get_or_from_slice_get}
use Rattle.json_members.proofs.ListLemmas.{get_or-zip, length-zip}
use Rattle.rule_book.specs.declared.line.Line.{Line}
use Rattle.rule_book.specs.ById.{at_id}
use Rattle.rule_book.specs.MatchFacts.{Lines, players_in}
use Rattle.rescore_graph.specs.Graph.{Among}
use Rattle.season_nodes.specs.Season.{Rising}

-- a line behind others leaves those of other players
pub other_line : (rows : Lines) (row : ℕ × Line) (p : ℕ) → (row.0 == p) ≡ false → at_id (rows ++ row ∷ []) p ≡ at_id rows p
other_line [] row p other = ap (λ b. cond b (Some row.1) None) other
other_line (r ∷ rows) row p other = ap (cond (r.0 == p) (Some r.1)) (other_line rows row p other)

same_number : (n : ℕ) → (n == n) ≡ true
same_number n = grind (arith, nat_tests)

-- and is that of its player, where he has none before it
pub own_line : (rows : Lines) (row : ℕ × Line) → at_id rows row.0 ≡ None → at_id (rows ++ row ∷ []) row.0 ≡ Some row.1
own_line [] row none = ap (λ b. cond b (Some row.1) None) (same_number row.0)
own_line (r ∷ rows) row none = by_test (r.0 == row.0) refl none (own_line rows row)
  where
    by_test : (b : Bool) → (r.0 == row.0) ≡ b → cond b (Some r.1) (at_id rows row.0) ≡ None
        → (at_id rows row.0 ≡ None → at_id (rows ++ row ∷ []) row.0 ≡ Some row.1) → cond (r.0 == row.0) (Some r.1) (at_id (rows ++ row ∷ []) row.0) ≡ Some row.1
    by_test true is none rest = absurd (cc none)
    by_test false is none rest = ap (λ b. cond b (Some r.1) (at_id (rows ++ row ∷ []) row.0)) is ∙ rest none

among_players : (rows : Lines) (i : ℕ) (d : ℕ × Line) → i < length rows → Among (players_in rows) (get_or rows i d).0
among_players [] i d within = absurd (omega (arith, within))
among_players (r ∷ rows) zero d within = inl refl
among_players (r ∷ rows) (suc i) d within = inr (among_players rows i d (omega (arith, within)))

less_is_other : (m n : ℕ) → m < n → (m == n) ≡ false
less_is_other m n less = grind (arith, nat_tests, less)

-- a player has no line before his own, where the players ascend
pub none_before : (rows : Lines) (i : ℕ) (d : ℕ × Line) → Rising (players_in rows) → i < length rows → at_id (take i rows) (get_or rows i d).0 ≡ None
none_before [] i d rise within = absurd (omega (arith, within))
none_before (r ∷ rows) zero d rise within = refl
none_before (r ∷ rows) (suc i) d rise within =
    let p : ℕ = (get_or rows i d).0 in
    ap (λ b. cond b (Some r.1) (at_id (take i rows) p)) (less_is_other r.0 p (rise.0 p (among_players rows i d (omega (arith, within)))))
    ∙ none_before rows i d rise.1 (omega (arith, within))

-- so it is with the line at a place
pub row_none : (rows : Lines) (i : ℕ) (row : ℕ × Line) → Rising (players_in rows) → slice_get rows i ≡ Some row → at_id (take i rows) row.0 ≡ None
row_none rows i row rise at =
    subst (λ (r : ℕ × Line). at_id (take i rows) r.0 ≡ None) (get_or_from_slice_get rows i row row at) (none_before rows i row rise (slice_get_within rows i row at))

among_rows : (rows : Lines) (i : ℕ) (d : ℕ × Line) → i < length rows → Among rows (get_or rows i d)
among_rows [] i d within = absurd (omega (arith, within))
among_rows (r ∷ rows) zero d within = inl refl
among_rows (r ∷ rows) (suc i) d within = inr (among_rows rows i d (omega (arith, within)))

pub row_among : (rows : Lines) (i : ℕ) (row : ℕ × Line) → slice_get rows i ≡ Some row → Among rows row
row_among rows i row at = subst (Among rows) (get_or_from_slice_get rows i row row at) (among_rows rows i row (slice_get_within rows i row at))

-- the line at a place, by the players and the lines beside them
pub row_at : (players : List ℕ) (lines : List Line) (rows : Lines) (place player : ℕ) (none : Line) → length lines ≡ length players → zip players lines ≡ rows → place < length players → player ≡ get_or players place player
    → slice_get rows place ≡ Some (player, get_or lines place none)
row_at players lines rows place player none paired are below is =
    let line : Line = get_or lines place none in
    let inside : place < length lines = subst (λ n. place < n) (sym paired) below in
    let there : line ≡ get_or lines place line = sym (get_or_from_slice_get lines place line line (slice_get-get_or lines place none inside)) in
    let within : place < length (zip players lines) = subst (λ n. place < n) (sym (length-zip players lines paired)) below in
    let pair : (player, line) ≡ get_or (zip players lines) place (player, line) = (λ i. (is i, there i)) ∙ sym (get_or-zip players lines place player line paired below) in
    subst (λ (rs : Lines). slice_get rs place ≡ Some (player, line)) are (slice_get_read (zip players lines) (length (zip players lines)) place (player, line) refl within pair)

-- where there is a line, there are some
pub some_among : (rows : Lines) (row : ℕ × Line) → Among rows row → nat_lt 0 (length rows) ≡ true
some_among [] row among = absurd among
some_among (r ∷ rows) row among = grind (arith, nat_tests)
