-- States and draws, one more at a time, and lists by their places.
use Rattle.std.proofs.Common.{◌≡◌, ◌<◌, ◌+◌, ℕ, zero, suc, List, length, map, get_or, arith, refl, sym, ap, ◌∙◌}
use Rattle.std.specs.List.{range_with_len}
use Rattle.std.proofs.lemmas.List.FromFn.{length-map-range_with_len}
use Rattle.std.proofs.lemmas.Grind.{same_number_lists}
use Rattle.season_generator.specs.Draws.{draw, draws_at, next_state, state_after}

-- the state behind one draw more
pub state_more : (seed n : ℕ) → state_after seed (n + 1) ≡ next_state (state_after seed n)
unfolding state_after
state_more seed n =
    let one : n + 1 ≡ suc n = omega arith in
    ap (state_after seed) one

pub state_none : (seed : ℕ) → state_after seed 0 ≡ seed
unfolding state_after
state_none seed = refl

pub state_further : (seed n k : ℕ) (x y : ℕ) → x ≡ state_after seed (n + k) → y ≡ next_state x → y ≡ state_after seed (n + (k + 1))
state_further seed n k x y is next =
    let one : (n + k) + 1 ≡ n + (k + 1) = omega arith in
    next ∙ ap next_state is ∙ sym (state_more seed (n + k)) ∙ ap (state_after seed) one

-- what stands at a place of a list that is made by places
map_at : (f : ℕ → ℕ) (a n k : ℕ) → k < n → get_or (map f (range_with_len a n)) k 0 ≡ f (a + k)
map_at f a zero k h = absurd (omega arith)
map_at f a (suc n) zero h =
    let same : a ≡ a + 0 = omega arith in
    ap f same
map_at f a (suc n) (suc k) h =
    let same : (a + 1) + k ≡ a + suc k = omega arith in
    map_at f (a + 1) n k (omega arith) ∙ ap f same

-- a list that has at each place what is made there
pub by_places : (f : ℕ → ℕ) (xs : List ℕ) (n : ℕ) → length xs ≡ n → ((k : ℕ) → k < n → get_or xs k 0 ≡ f k) → xs ≡ map f (range_with_len 0 n)
by_places f xs n size each =
    same_number_lists xs (map f (range_with_len 0 n)) (size ∙ sym (length-map-range_with_len f 0 n))
    (λ k h.
    let within : k < n = omega (arith, size) in
    let same : k ≡ 0 + k = omega arith in
    each k within ∙ ap f same ∙ sym (map_at f 0 n k within))

pub drawn_by_places : (seed from n : ℕ) (xs : List ℕ) → length xs ≡ n → ((k : ℕ) → k < n → get_or xs k 0 ≡ draw seed (from + k)) → xs ≡ draws_at seed from n
unfolding draws_at
drawn_by_places seed from n xs size each = by_places (λ k. draw seed (from + k)) xs n size each
