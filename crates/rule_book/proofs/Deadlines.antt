-- Deadlines that rise, by the pairs of each and the next.
use Rattle.std.proofs.Common.{◌≡◌, ◌∙◌, ap, ℕ, ◌+◌, ◌-◌, ◌<◌, ◌≤◌, true, false, cond, ltb, leb, List, length, get_or, drop, Some, None, arith, length-drop}
use Rattle.std.specs.List.{zip, position_or_len}
use Rattle.std.specs.Option.{option_map}
use Rattle.std.proofs.lemmas.List.{get_or-drop}
use Rattle.std.proofs.lemmas.List.Sums.{position_or_len_is}
use Rattle.std.proofs.lemmas.Slice.Zip.{length-zip, get_or-zip}
use Rattle.std.proofs.lemmas.Bool.{le-leb, lt-leb, lt-ltb, le-ltb}
use Rattle.rule_book.specs.Calendar.{first_out_of_order}

-- the pairs of a deadline and the next
pub length-pairs : (ds : List ℕ) → length (zip ds (drop 1 ds)) ≡ length ds - 1
length-pairs ds = length-zip ds (drop 1 ds) ∙ omega (arith, length-drop 1 ds)

pub pair_at : (ds : List ℕ) (k : ℕ) → k + 1 < length ds → get_or (zip ds (drop 1 ds)) k (0, 0) ≡ (get_or ds k 0, get_or ds (k + 1) 0)
pair_at ds k lt =
    let one : 1 + k ≡ k + 1 = omega arith in
    get_or-zip ds (drop 1 ds) k (0, 0) (omega arith) (omega (arith, length-drop 1 ds)) ∙ ap (λ n. (get_or ds k 0, n)) (get_or-drop 1 ds k 0 ∙ ap (λ n. get_or ds n 0) one)

rises_at : (ds : List ℕ) (k : ℕ) → k + 1 < length ds → get_or ds k 0 < get_or ds (k + 1) 0 → leb (get_or (zip ds (drop 1 ds)) k (0, 0)).1 (get_or (zip ds (drop 1 ds)) k (0, 0)).0 ≡ false
rises_at ds k lt up = rw (pair_at ds k lt) (lt-leb (get_or ds (k + 1) 0) (get_or ds k 0) up)

falls_at : (ds : List ℕ) (k : ℕ) → k + 1 < length ds → get_or ds (k + 1) 0 ≤ get_or ds k 0 → leb (get_or (zip ds (drop 1 ds)) k (0, 0)).1 (get_or (zip ds (drop 1 ds)) k (0, 0)).0 ≡ true
falls_at ds k lt down = rw (pair_at ds k lt) (le-leb (get_or ds (k + 1) 0) (get_or ds k 0) down)

-- the first gameweek whose deadline is not after that of the one before
pub first_late : (ds : List ℕ) (i : ℕ) → 1 ≤ i → i < length ds → ((k : ℕ) → k + 1 < i → get_or ds k 0 < get_or ds (k + 1) 0) → get_or ds i 0 ≤ get_or ds (i - 1) 0 → first_out_of_order ds ≡ Some (i + 1)
first_late ds i from_1 lt rise late =
    let pairs = zip ds (drop 1 ds) in
    let number : i - 1 + 1 ≡ i = omega arith in
    let down : get_or ds (i - 1 + 1) 0 ≤ get_or ds (i - 1) 0 = omega (arith, late, ap (λ n. get_or ds n 0) number) in
    let first : position_or_len (λ (p : ℕ × ℕ). leb p.1 p.0) pairs ≡ i - 1 = position_or_len_is (λ (p : ℕ × ℕ). leb p.1 p.0) pairs (i - 1) (0, 0) (omega (arith, length-pairs ds)) (λ k low. rises_at ds k (omega arith) (rise k (omega arith))) (λ within. falls_at ds (i - 1) (omega arith) down) in
    let there : ltb (i - 1) (length pairs) ≡ true = lt-ltb (i - 1) (length pairs) (omega (arith, length-pairs ds)) in
    let after : i - 1 + 2 ≡ i + 1 = omega arith in
    ap (λ n. option_map (λ k. k + 2) (cond (ltb n (length pairs)) (Some n) None)) first ∙ (ap (λ b. option_map (λ k. k + 2) (cond b (Some (i - 1)) None)) there ∙ ap (λ n. Some n) after)

pub none_late : (ds : List ℕ) → ((k : ℕ) → k + 1 < length ds → get_or ds k 0 < get_or ds (k + 1) 0) → first_out_of_order ds ≡ None
none_late ds rise =
    let pairs = zip ds (drop 1 ds) in
    let last : position_or_len (λ (p : ℕ × ℕ). leb p.1 p.0) pairs ≡ length pairs = position_or_len_is (λ (p : ℕ × ℕ). leb p.1 p.0) pairs (length pairs) (0, 0) (omega arith) (λ k low. rises_at ds k (omega (arith, length-pairs ds)) (rise k (omega (arith, length-pairs ds)))) (λ within. absurd (omega arith)) in
    ap (λ n. option_map (λ k. k + 2) (cond (ltb n (length pairs)) (Some n) None)) last ∙ ap (λ b. option_map (λ k. k + 2) (cond b (Some (length pairs)) None)) (le-ltb (length pairs) (length pairs) (omega arith))
