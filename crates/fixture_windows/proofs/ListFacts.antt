-- Lists of which each thing has a number of its own, and lists side by side.
use Rattle.std.proofs.Common.{◌≡◌, ◌∙◌, sym, ap, refl, ℕ, zero, suc, ◌+◌, ◌<◌, ◌≤◌, ◌≢◌, List, [], ◌∷◌, AllPairs, length, get_or, map, max, fold, arith, inl}
use Rattle.std.specs.List.{zip}
use Rattle.std.proofs.lemmas.List.{get_or-map, length-map}
use Rattle.season_nodes.specs.Season.{Rising}
use Rattle.rescore_graph.specs.Graph.{Among}
use Rattle.rule_book.specs.declared.line.Line.{Line}
use Rattle.season_book.specs.FixturesWindow.{most_minutes}
use Rattle.season_book.specs.LineSums.{minutes_of}

-- where numbers of things differ, they differ as a list
pub differ_mapped : {X : Type 0} (f : X → ℕ) (xs : List X) → AllPairs (λ a b. f a ≢ f b) xs → AllPairs (λ a b. a ≢ b) (map f xs)
differ_mapped f [] differ i j d less lt e = omega arith
differ_mapped f (x ∷ xs) differ i j d less lt e =
    let within : j < length (x ∷ xs) = omega (arith, lt, length-map (x ∷ xs) f) in
    differ i j x less within (sym (get_or-map f (x ∷ xs) i x d (omega (arith, less, within))) ∙ e ∙ get_or-map f (x ∷ xs) j x d within)

-- of two lists side by side the first
pub firsts : {K V : Type 0} (ks : List K) (vs : List V) → length vs ≡ length ks → map (λ r. r.0) (zip ks vs) ≡ ks
firsts [] vs same = refl
firsts (k ∷ ks) [] same = absurd (omega (arith, same))
firsts (k ∷ ks) (v ∷ vs) same = ap (λ t. k ∷ t) (firsts ks vs (omega (arith, same)))

-- numbers that rise from one on are as far above it as they stand behind it
above : (n : ℕ) (ns : List ℕ) → ((m : ℕ) → Among ns m → n < m) → Rising ns → (i d : ℕ) → i < length ns → n + 1 + i ≤ get_or ns i d
above n [] over rise i d within = absurd (omega (arith, within))
above n (m ∷ ns) over rise zero d within = omega (arith, over m (inl refl))
above n (m ∷ ns) over rise (suc i) d within =
    omega (arith, above m ns rise.0 rise.1 i d (omega (arith, within)), over m (inl refl))

pub place_below : (ns : List ℕ) → Rising ns → (i d : ℕ) → i < length ns → i ≤ get_or ns i d
place_below [] rise i d within = absurd (omega (arith, within))
place_below (n ∷ ns) rise zero d within = omega arith
place_below (n ∷ ns) rise (suc i) d within = omega (arith, above n ns rise.0 rise.1 i d (omega (arith, within)))

-- numbers that rise differ
pub rising_differ : (ns : List ℕ) → Rising ns → AllPairs (λ a b. a ≢ b) ns
rising_differ [] rise i j d less lt e = omega arith
rising_differ (n ∷ ns) rise zero zero d less lt e = omega arith
rising_differ (n ∷ ns) rise (suc i) zero d less lt e = omega arith
rising_differ (n ∷ ns) rise zero (suc j) d less lt e =
    omega (arith, e, above n ns rise.0 rise.1 j d (omega (arith, lt)))
rising_differ (n ∷ ns) rise (suc i) (suc j) d less lt e =
    rising_differ ns rise.1 i j d (omega (arith, less)) (omega (arith, lt)) e

-- the most minutes of lines beside their players
most_from : (most : ℕ) (players : List ℕ) (lines : List Line) → length lines ≡ length players
    → fold (λ so_far row. max so_far (minutes_of row.1)) most (zip players lines) ≡ fold (λ so_far line. max so_far (minutes_of line)) most lines
most_from most [] [] same = refl
most_from most [] (line ∷ lines) same = absurd (omega (arith, same))
most_from most (p ∷ players) [] same = absurd (omega (arith, same))
most_from most (p ∷ players) (line ∷ lines) same = most_from (max most (minutes_of line)) players lines (omega (arith, same))

pub most_beside : (players : List ℕ) (lines : List Line) → length lines ≡ length players → most_minutes (zip players lines) ≡ fold (λ so_far line. max so_far (minutes_of line)) 0 lines
most_beside players lines same = most_from 0 players lines same
