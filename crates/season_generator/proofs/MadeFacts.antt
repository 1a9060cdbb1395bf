-- Lists of clubs, players and lines, one more at a time.
use Rattle.std.proofs.Common.{◌≡◌, ◌<◌, ◌≤◌, ◌+◌, ◌-◌, ◌*◌, ◌∷◌, [], ◌++◌, ℕ, zero, suc, List, length, map, get_or, arith, refl, sym, ap, ◌∙◌}
use Rattle.std.specs.List.{range_with_len}
use Rattle.std.proofs.lemmas.List.FromFn.{get_or-range_with_len, length-map-range_with_len, length-range_with_len, map-range_with_len_more}
use Rattle.rule_book.specs.Ranks.{AllDiffer}
use Rattle.season_book.specs.Commands.{IsCommand, club_ids}
use Rattle.season_generator.specs.Places.{IsPlace}
use Rattle.season_generator.specs.declared.places.Place.{Place}
use Rattle.season_generator.specs.declared.places.Place.TheVariants as place
use Rattle.season_generator.specs.Draws.{draws_at}
use Rattle.season_generator.specs.Made.{bands, club_of, clubs, command_at, line_by, lines_at, player_in, squad_by}
use Rattle.season_generator.proofs.DrawFacts.{by_places}

pub no_clubs : clubs 0 ≡ []
unfolding clubs
no_clubs = refl

pub clubs_more : (n : ℕ) → clubs (n + 1) ≡ clubs n ++ club_of (n + 1) ∷ []
unfolding clubs
clubs_more n = map-range_with_len_more club_of 1 n (n + 1) (omega arith)

pub no_lines : (seed from f : ℕ) → lines_at seed from f 0 ≡ []
unfolding lines_at
no_lines seed from f = refl

pub lines_more : (seed from f n : ℕ) → lines_at seed from f (n + 1) ≡ lines_at seed from f n ++ line_by f n (draws_at seed (from + 8 * n) 8) ∷ []
unfolding lines_at
lines_more seed from f n = map-range_with_len_more (λ k. line_by f k (draws_at seed (from + 8 * k) 8)) 0 n n (omega arith)

pub squad_is : (e : ℕ) (drawn players : List ℕ) → length players ≡ 15 → ((k : ℕ) → k < 15 → get_or players k 0 ≡ player_in e (k + 1) (get_or drawn k 0)) → players ≡ squad_by e drawn
unfolding squad_by
squad_is e drawn players size each = by_places (λ k. player_in e (k + 1) (get_or drawn k 0)) players 15 size each

-- each is at most 25
abbrev AreWithin : List ℕ → Type 0
AreWithin [] = Unit {0}
AreWithin (x ∷ xs) = (x ≤ 25) × AreWithin xs

within : (xs : List ℕ) → AreWithin xs → (k : ℕ) → get_or xs k 0 ≤ 25
within [] all k = omega arith
within (x ∷ xs) all zero = all.0
within (x ∷ xs) all (suc k) = within xs all.1 k

-- no band of those that play is above 25
pub bands_within : (k : ℕ) → get_or bands k 0 ≤ 25
bands_within k =
    within bands
    (omega arith, (omega arith, (omega arith, (omega arith, (omega arith, (omega arith, (omega arith, (omega arith, (omega arith, (omega arith, (omega arith, (omega arith, (omega arith, (omega arith, (omega arith, (omega arith, tt))))))))))))))))
    k

-- What is ordered can be ordered.

ids_are : (a n : ℕ) → club_ids (map club_of (range_with_len a n)) ≡ range_with_len a n
ids_are a zero = refl
ids_are a (suc n) = ap (λ ids. a ∷ ids) (ids_are (a + 1) n)

range_differs : (a n : ℕ) → AllDiffer (range_with_len a n)
range_differs a n = λ i j d below within same.
    let size : length (range_with_len a n) ≡ n = length-range_with_len a n in
    let first = get_or-range_with_len a n i d (omega (arith, size)) in
    let second = get_or-range_with_len a n j d (omega (arith, size)) in
    let equal : a + i ≡ a + j = sym first ∙ same ∙ second in
    omega arith

clubs_differ : (n : ℕ) → AllDiffer (club_ids (clubs n))
unfolding clubs
clubs_differ n = rw (ids_are 1 n) (range_differs 1 n)

clubs_count : (n : ℕ) → length (clubs n) ≡ n
unfolding clubs
clubs_count n = length-map-range_with_len club_of 1 n

lines_count : (seed from f n : ℕ) → length (lines_at seed from f n) ≡ n
unfolding lines_at
lines_count seed from f n = length-map-range_with_len (λ k. line_by f k (draws_at seed (from + 8 * k) 8)) 0 n

pub place_lawful : (seed : ℕ) (p : Place) → IsPlace p → IsCommand (command_at seed p)
place_lawful seed place.Season is = (omega arith, omega arith, omega arith, omega (arith, clubs_count 20), omega (arith, clubs_count 20), clubs_differ 20)
place_lawful seed (place.Player p) is = tt
place_lawful seed (place.Fixture f) is = λ same. omega (arith, is.0)
place_lawful seed (place.Key e) is = tt
place_lawful seed (place.Squad e) is = tt
place_lawful seed place.League is = tt
place_lawful seed (place.Join e) is = tt
place_lawful seed (place.Sheet f) is = omega (arith, lines_count seed (8600 + 256 * (f - 1)) f 32)
place_lawful seed place.Again is = tt
