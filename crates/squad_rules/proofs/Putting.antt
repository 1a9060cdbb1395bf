-- Places of a list that are filled one after another.
use Rattle.std.proofs.Common.{◌≡◌, ◌∙◌, sym, ap, ℕ, ◌+◌, ◌<◌, ◌≤◌, List, [], ◌∷◌, ◌++◌, length, map, take, drop, set, get_or, arith, add-zero, zero-add}
use Rattle.std.proofs.lemmas.List.{append-nil, append_assoc, drop-drop, drop_at, drop_more, length-append, length-drop, length-map, length-take-le, map_more, nil_from_length, set_at, take-append-drop, take_all, take_at}
use Rattle.squad_rules.specs.Pools.{placed_at}

-- the old list, where the places from one on hold what f gives of the first n of ys
abbrev pub filled : {X Y : Type 0} → (Y → X) → List X → ℕ → List Y → ℕ → List X
filled f old from ys n = take from old ++ (map f (take n ys) ++ drop (from + n) old)

pub none_filled : {X Y : Type 0} (f : Y → X) (old : List X) (from : ℕ) (ys : List Y) → old ≡ filled f old from ys 0
none_filled f old from ys = sym (ap (λ n. take from old ++ drop n old) (add-zero from) ∙ take-append-drop from old)

pub one_filled : {X Y : Type 0} (f : Y → X) (old : List X) (from : ℕ) (ys : List Y) (n : ℕ) (y : Y) → from + length ys ≤ length old → n < length ys
    → set (filled f old from ys n) (from + n) (f (get_or ys n y)) ≡ filled f old from ys (n + 1)
one_filled {X} f old from ys n y room inside =
    let front : List X = take from old ++ map f (take n ys) in
    let value : X = f (get_or ys n y) in
    let rest : List X = drop ((from + n) + 1) old in
    let long : length front ≡ from + n = omega (arith, length-append (take from old) (map f (take n ys)), length-take-le from old (omega arith), length-map (take n ys) f, length-take-le n ys (omega arith)) in
    let split : filled f old from ys n ≡ front ++ get_or old (from + n) value ∷ rest
    = sym (append_assoc (take from old) (map f (take n ys)) (drop (from + n) old)) ∙ ap (λ l. front ++ l) (drop_more old (from + n) value (omega arith)) in
    ap (λ l. set l (from + n) value) split ∙ set_at front (get_or old (from + n) value) rest value (from + n) long
    ∙ append_assoc (take from old) (map f (take n ys)) (value ∷ rest)
    ∙ ap (λ l. take from old ++ l) (sym (append_assoc (map f (take n ys)) (value ∷ []) rest))
    ∙ ap (λ l. take from old ++ (l ++ rest)) (sym (map_more f ys n y inside))
    ∙ ap (λ k. take from old ++ (map f (take (n + 1) ys) ++ drop k old)) (along from n)
  where
    along : (a b : ℕ) → (a + b) + 1 ≡ a + (b + 1)
    along a b = omega arith

pub all_filled : {Y : Type 0} (f : Y → ℕ) (old : List ℕ) (from : ℕ) (ys : List Y) (n : ℕ) → length ys ≤ n → n ≤ length ys → filled f old from ys n ≡ placed_at old from (map f ys)
all_filled f old from ys n low high =
    let same : n ≡ length (map f ys) = omega (arith, length-map ys f) in
    ap (λ l. take from old ++ (map f l ++ drop (from + n) old)) (take_all n ys low) ∙ ap (λ k. take from old ++ (map f ys ++ drop (from + k) old)) same

-- where the places before are a list of its own, others stand behind it
behind : (front rest others : List ℕ) (from : ℕ) → length front ≡ from → placed_at (front ++ rest) from others ≡ (front ++ others) ++ drop (length others) rest
behind front rest others from long =
    ap (λ l. l ++ (others ++ drop (from + length others) (front ++ rest))) (take_at front rest from long)
    ∙ ap (λ l. front ++ (others ++ l)) (sym (drop-drop (length others) from (front ++ rest)) ∙ ap (drop (length others)) (drop_at front rest from long))
    ∙ sym (append_assoc front others (drop (length others) rest))

-- four lists that fill all places, one behind the other
pub four_placed : (blank one two three four a b c e : List ℕ) (n m : ℕ) → length blank ≡ length a + length b + length c + length e → length a ≡ 1 → n ≡ 1 + length b → m ≡ 1 + length b + length c
    → one ≡ placed_at blank 0 a → two ≡ placed_at one 1 b → three ≡ placed_at two n c → four ≡ placed_at three m e → four ≡ a ++ (b ++ (c ++ e))
four_placed blank one two three four a b c e n m all single at_n at_m first second third fourth =
    let r : List ℕ = drop (length a) blank in
    let s : List ℕ = drop (length b) r in
    let t : List ℕ = drop (length c) s in
    let u : List ℕ = drop (length e) t in
    let f : one ≡ a ++ r = first ∙ ap (λ k. a ++ drop k blank) (zero-add (length a)) in
    let g : two ≡ (a ++ b) ++ s = second ∙ ap (λ l. placed_at l 1 b) f ∙ behind a r b 1 single in
    let h : three ≡ ((a ++ b) ++ c) ++ t = third ∙ ap (λ l. placed_at l n c) g ∙ behind (a ++ b) s c n (omega (arith, length-append a b, single, at_n)) in
    let i : four ≡ (((a ++ b) ++ c) ++ e) ++ u = fourth ∙ ap (λ l. placed_at l m e) h ∙ behind ((a ++ b) ++ c) t e m (omega (arith, length-append (a ++ b) c, length-append a b, single, at_m)) in
    let none : u ≡ [] = nil_from_length u (omega (arith, length-drop (length e) t, length-drop (length c) s, length-drop (length b) r, length-drop (length a) blank, all)) in
    i ∙ ap (λ l. (((a ++ b) ++ c) ++ e) ++ l) none ∙ append-nil (((a ++ b) ++ c) ++ e) ∙ append_assoc (a ++ b) c e ∙ append_assoc a b (c ++ e)
