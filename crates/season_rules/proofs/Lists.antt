-- Lists that a loop makes, one more element at a time.
use Rattle.std.proofs.Common.{◌≡◌, ◌<◌, ◌+◌, ◌∷◌, [], ◌++◌, ℕ, Bool, true, false, List, All, length, get_or, map, take, arith, refl, sym, ap, subst, ◌∙◌}
use Rattle.std.specs.List.{filter, flat_map, range_with_len}
use Rattle.std.proofs.lemmas.List.{flat_map_more, length-append, map-append}
use Rattle.std.proofs.lemmas.List.Elements.{All-push}
use Rattle.std.proofs.lemmas.List.FromFn.{map-range_with_len_more}
use Rattle.season_nodes.proofs.Lists.{take_next}
use Rattle.season_rules.proofs.TotalFacts.{mapped_next, mapped_same}

-- what a function makes of each of a list, with one more
pub mapped_more : {X Y : Type 0} (f : X → Y) (xs : List X) (i : ℕ) (x : X) (y : Y) (old new : List Y)
    → i < length xs → x ≡ get_or xs i x → y ≡ f x → old ≡ map f (take i xs) → new ≡ old ++ y ∷ [] → new ≡ map f (take (i + 1) xs)
mapped_more f xs i x y old new within is is_y so_far more =
    more ∙ ap (λ ys. ys ++ y ∷ []) so_far ∙ ap (λ z. map f (take i xs) ++ z ∷ []) is_y
    ∙ sym (map-append f (take i xs) (x ∷ []))
    ∙ ap (map f) (sym (take_next xs i x within is))

-- so of one number more
pub range_more : {X : Type 0} (f : ℕ → X) (a n j : ℕ) (x : X) (old new : List X) → a + n ≡ j → x ≡ f j → old ≡ map f (range_with_len a n) → new ≡ old ++ x ∷ []
    → new ≡ map f (range_with_len a (n + 1))
range_more f a n j x old new at is so_far more =
    more ∙ ap (λ xs. xs ++ x ∷ []) so_far ∙ ap (λ y. map f (range_with_len a n) ++ y ∷ []) is ∙ sym (map-range_with_len_more f a n j at)

-- and of the numbers that pass a test, with the next one if it passes
pub passing_next : {X : Type 0} (f : ℕ → X) (t : ℕ → Bool) (n : ℕ) → t n ≡ true → map f (filter t (range_with_len 0 n)) ++ f n ∷ [] ≡ map f (filter t (range_with_len 0 (n + 1)))
passing_next f t n =
    let none : 0 + n ≡ n = omega arith in
    subst (λ k. t k ≡ true → map f (filter t (range_with_len 0 n)) ++ f k ∷ [] ≡ map f (filter t (range_with_len 0 (n + 1)))) none (mapped_next f t 0 n)

pub passing_same : {X : Type 0} (f : ℕ → X) (t : ℕ → Bool) (n : ℕ) → t n ≡ false → map f (filter t (range_with_len 0 n)) ≡ map f (filter t (range_with_len 0 (n + 1)))
passing_same f t n =
    let none : 0 + n ≡ n = omega arith in
    subst (λ k. t k ≡ false → map f (filter t (range_with_len 0 n)) ≡ map f (filter t (range_with_len 0 (n + 1)))) none (mapped_same f t 0 n)

-- a list with one more
pub long_more : {X : Type 0} (n : ℕ) (x : X) (old new : List X) → length old ≡ n → new ≡ old ++ x ∷ [] → length new ≡ n + 1
long_more n x old new long more = ap length more ∙ length-append old (x ∷ []) ∙ ap (λ k. k + 1) long

pub all_more : {X : Type 0} (P : X → Type 0) (x : X) (old new : List X) → All P old → P x → new ≡ old ++ x ∷ [] → All P new
all_more P x old new all one more = subst (All P) (sym more) (All-push P old x all one)

same_map : (xs : List ℕ) → map (λ n. n) xs ≡ xs
same_map [] = refl
same_map (x ∷ xs) = ap (λ ys. x ∷ ys) (same_map xs)

range_step : (a n j : ℕ) → a + n ≡ j → range_with_len a (n + 1) ≡ range_with_len a n ++ j ∷ []
range_step a n j at =
    sym (same_map (range_with_len a (n + 1))) ∙ map-range_with_len_more (λ k. k) a n j at ∙ ap (λ ns. ns ++ j ∷ []) (same_map (range_with_len a n))

-- what a function makes of each number from 1 on, behind others, with one number more
pub flat_next : {X : Type 0} (f : ℕ → List X) (front old new more : List X) (n k : ℕ) → k ≡ n + 1 → more ≡ f k → old ≡ front ++ flat_map f (range_with_len 1 n) → new ≡ old ++ more
    → new ≡ front ++ flat_map f (range_with_len 1 (n + 1))
flat_next f front old new more n k is made so_far grown =
    let at : 1 + n ≡ k = omega (arith, is) in
    grown ∙ ap (λ ns. ns ++ more) so_far ∙ ap (λ ns. (front ++ flat_map f (range_with_len 1 n)) ++ ns) made
    ∙ flat_map_more f front (range_with_len 1 n) k ∙ ap (λ ns. front ++ flat_map f ns) (sym (range_step 1 n k at))
