-- Lists and sums over the counted gameweeks, one more.
use Rattle.std.proofs.Common.{◌≡◌, ℕ, ◌+◌, ℤ, pos, ◌+ℤ◌, Bool, true, false, cond, if◌then◌else◌, [], ◌∷◌, ◌++◌, Option, Some, None, map, refl, sym, ap, ◌∙◌, arith}
use Rattle.std.specs.List.{filter, range_with_len}
use Rattle.std.specs.Option.{option_map_or}
use Rattle.std.proofs.lemmas.Int.{ints}
use Rattle.std.proofs.lemmas.List.{append-nil, map-append, map-id}
use Rattle.std.proofs.lemmas.List.Elements.{filter-append}
use Rattle.std.proofs.lemmas.List.FromFn.{map-range_with_len_more}
use Rattle.std.proofs.lemmas.List.Sums.{fold_push}
use Rattle.rule_book.specs.HeadToHead.{total_of}

range_more : (a n : ℕ) → range_with_len a (n + 1) ≡ range_with_len a n ++ (a + n) ∷ []
range_more a n =
    sym (map-id (range_with_len a (n + 1)))
    ∙ map-range_with_len_more (λ k. k) a n (a + n) refl
    ∙ ap (λ ks. ks ++ (a + n) ∷ []) (map-id (range_with_len a n))

-- what passes a test in a range, one number more
filtered_more : (t : ℕ → Bool) (a n : ℕ) → filter t (range_with_len a (n + 1)) ≡ filter t (range_with_len a n) ++ cond (t (a + n)) ((a + n) ∷ []) []
filtered_more t a n = ap (filter t) (range_more a n) ∙ filter-append t (range_with_len a n) ((a + n) ∷ [])

pub mapped_next : {X : Type 0} (f : ℕ → X) (t : ℕ → Bool) (a n : ℕ) → t (a + n) ≡ true → map f (filter t (range_with_len a n)) ++ f (a + n) ∷ [] ≡ map f (filter t (range_with_len a (n + 1)))
mapped_next f t a n y =
    sym (map-append f (filter t (range_with_len a n)) ((a + n) ∷ []))
    ∙ ap (λ b. map f (filter t (range_with_len a n) ++ cond b ((a + n) ∷ []) [])) (sym y)
    ∙ ap (map f) (sym (filtered_more t a n))

pub mapped_same : {X : Type 0} (f : ℕ → X) (t : ℕ → Bool) (a n : ℕ) → t (a + n) ≡ false → map f (filter t (range_with_len a n)) ≡ map f (filter t (range_with_len a (n + 1)))
mapped_same f t a n y =
    ap (map f) (sym (append-nil (filter t (range_with_len a n)))
    ∙ ap (λ b. filter t (range_with_len a n) ++ cond b ((a + n) ∷ []) []) (sym y)
    ∙ sym (filtered_more t a n))

plus_none : (z : ℤ) → z ≡ z +ℤ pos 0
plus_none z = omega (arith, ints)

added : (f : ℕ → ℤ) (t : ℕ → Bool) (a n : ℕ) (b : Bool) → t (a + n) ≡ b → total_of (map f (filter t (range_with_len a (n + 1)))) ≡ total_of (map f (filter t (range_with_len a n))) +ℤ (if b then f (a + n) else pos 0)
added f t a n true y = ap total_of (sym (mapped_next f t a n y)) ∙ fold_push ◌+ℤ◌ (pos 0) (map f (filter t (range_with_len a n))) (f (a + n))
added f t a n false y = ap total_of (sym (mapped_same f t a n y)) ∙ plus_none (total_of (map f (filter t (range_with_len a n))))

-- the sum over what passes a test in a range, one number more
pub total_more : (f : ℕ → ℤ) (t : ℕ → Bool) (a n : ℕ) → total_of (map f (filter t (range_with_len a (n + 1)))) ≡ total_of (map f (filter t (range_with_len a n))) +ℤ (if t (a + n) then f (a + n) else pos 0)
total_more f t a n = added f t a n (t (a + n)) refl

told_case : (f : ℕ → ℤ) (b : Bool) (x : ℕ) → option_map_or f (if b then Some x else None) (pos 0) ≡ (if b then f x else pos 0)
told_case f true x = refl
told_case f false x = refl

-- and the sum with it
pub total_next : (f : ℕ → ℤ) (t : ℕ → Bool) (a n : ℕ) (o : Option ℕ) (total net : ℤ) → total ≡ total_of (map f (filter t (range_with_len a n)))
    → o ≡ (if t (a + n) then Some (a + n) else None) → net ≡ option_map_or f o (pos 0) → total +ℤ net ≡ total_of (map f (filter t (range_with_len a (n + 1))))
total_next f t a n o total net so_far told is =
    ap (λ z. z +ℤ net) so_far
    ∙ ap (λ z. total_of (map f (filter t (range_with_len a n))) +ℤ z) (is ∙ ap (λ k. option_map_or f k (pos 0)) told ∙ told_case f (t (a + n)) (a + n))
    ∙ sym (total_more f t a n)
