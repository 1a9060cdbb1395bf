-- The ties that an entry can reach are those to which its slots lead.
use Rattle.std.proofs.Common.{◌≡◌, ℕ, zero, suc, ◌+◌, ◌-◌, ◌*◌, ◌/◌, ◌^◌, ◌<◌, ◌≤◌, ◌==◌, nat_le, Bool, true, false, ◌||◌, List, [], ◌∷◌, ◌++◌, cond, if◌then◌else◌, length, map, take, drop, get_or, arith, refl, sym, ap, ◌∙◌, append_assoc, length-drop, take-append-drop, mul_comm, mul-suc, mul-zero}
use Rattle.std.specs.List.{filter, range_with_len, zip}
use Rattle.std.proofs.lemmas.Bool.Decides.{nat_tests}
use Rattle.std.proofs.lemmas.List.{drop-drop, drop_more, length-take-le}
use Rattle.std.proofs.lemmas.List.Elements.{filter-append}
use Rattle.std.proofs.lemmas.Nat.{div-mul-add, pow_pos}
use Rattle.leagues_and_cups.specs.Places.{of_entry, places_of}
use Rattle.season_nodes.specs.Brackets.{is_in, part_of, ties_after}
use Rattle.season_nodes.specs.Dependents.{reached}
use Rattle.season_nodes.specs.Season.{SeasonFacts, bracket_of}
use Rattle.season_nodes.specs.declared.nodes.Node.{Node}
use Rattle.season_nodes.specs.declared.nodes.Node.TheVariants as node

-- the ties to which slots lead, w slots to a tie, but those before the next one
abbrev pub ties_from : ℕ → ℕ → List (ℕ × ℕ) → List ℕ
ties_from w next [] = []
ties_from w next (x ∷ rows) = if nat_le next (x.1 / w) then x.1 / w ∷ ties_from w (x.1 / w + 1) rows else ties_from w next rows

-- the slots from a place on, each with its place
abbrev pub from_place : ℕ → List ℕ → List (ℕ × ℕ)
from_place n xs = zip xs (range_with_len n (length xs))

two_parts : (n : ℕ) (xs ys : List ℕ) → from_place n (xs ++ ys) ≡ from_place n xs ++ from_place (n + length xs) ys
two_parts n [] ys = ap (λ k. from_place k ys) (omega arith)
two_parts n (x ∷ xs) ys = ap (λ l. (x, n) ∷ l) (two_parts (n + 1) xs ys ∙ ap (λ k. from_place (n + 1) xs ++ from_place k ys) (omega arith))

module _ (slots : List ℕ) (e w : ℕ) (some : 0 < w) where
  -- whether an entry can reach a tie
  abbrev reaches : ℕ → Bool
  reaches i = is_in (take w (drop (w * i) slots)) e

  leads : (b n : ℕ) → w * b ≤ n → n < w * b + w → n / w ≡ b
  leads b n low high =
      let turned : b * w ≡ w * b = mul_comm b w in
      let is : n ≡ b * w + (n - w * b) = omega (arith, turned, low) in
      ap (λ k. k / w) is ∙ div-mul-add b w (n - w * b) (omega (arith, low, high))

  -- a tie that came does not come again
  again : (b n : ℕ) (xs : List ℕ) (rest : List (ℕ × ℕ)) → w * b ≤ n → n + length xs ≤ w * b + w → ties_from w (b + 1) (of_entry e (from_place n xs) ++ rest) ≡ ties_from w (b + 1) rest
  again b n [] rest low high = refl
  again b n (x ∷ xs) rest low high = test (x == e) (again b (n + 1) xs rest (omega (arith, low)) (omega (arith, high)))
    where
      tail : List (ℕ × ℕ)
      tail = of_entry e (from_place (n + 1) xs)

      here : nat_le (b + 1) (n / w) ≡ false
      here = let is = leads b n low (omega (arith, high)) in grind (arith, nat_tests, is)

      test : (c : Bool) → ties_from w (b + 1) (tail ++ rest) ≡ ties_from w (b + 1) rest → ties_from w (b + 1) (cond c ((x, n) ∷ tail) tail ++ rest) ≡ ties_from w (b + 1) rest
      test true h = ap (λ c. cond c (n / w ∷ ties_from w (n / w + 1) (tail ++ rest)) (ties_from w (b + 1) (tail ++ rest))) here ∙ h
      test false h = h

  -- the slots of one tie
  one_tie : (b n next : ℕ) (xs : List ℕ) (rest : List (ℕ × ℕ)) → next ≤ b → w * b ≤ n → n + length xs ≤ w * b + w
      → ties_from w next (of_entry e (from_place n xs) ++ rest) ≡ cond (is_in xs e) (b ∷ ties_from w (b + 1) rest) (ties_from w next rest)
  one_tie b n next [] rest up low high = refl
  one_tie b n next (x ∷ xs) rest up low high = test (x == e) (one_tie b (n + 1) next xs rest up (omega (arith, low)) (omega (arith, high)))
    where
      tail : List (ℕ × ℕ)
      tail = of_entry e (from_place (n + 1) xs)

      is : n / w ≡ b
      is = leads b n low (omega (arith, high))

      here : nat_le next (n / w) ≡ true
      here = let at = is in grind (arith, nat_tests, at)

      test : (c : Bool) → ties_from w next (tail ++ rest) ≡ cond (is_in xs e) (b ∷ ties_from w (b + 1) rest) (ties_from w next rest)
          → ties_from w next (cond c ((x, n) ∷ tail) tail ++ rest) ≡ cond (c || is_in xs e) (b ∷ ties_from w (b + 1) rest) (ties_from w next rest)
      test true h =
          ap (λ c. cond c (n / w ∷ ties_from w (n / w + 1) (tail ++ rest)) (ties_from w next (tail ++ rest))) here
          ∙ ap (λ k. k ∷ ties_from w (k + 1) (tail ++ rest)) is
          ∙ ap (λ l. b ∷ l) (again b (n + 1) xs rest (omega (arith, low)) (omega (arith, high)))
      test false h = h

  none_left : (n next : ℕ) (xs : List ℕ) → length xs ≡ 0 → ties_from w next (of_entry e (from_place n xs)) ≡ []
  none_left n next [] long = refl
  none_left n next (x ∷ xs) long = absurd (omega (arith, long))

  -- the slots of all ties from one on
  all_ties : (m b next : ℕ) (xs : List ℕ) → xs ≡ drop (w * b) slots → next ≤ b → length xs ≡ w * m → ties_from w next (of_entry e (from_place (w * b) xs)) ≡ filter reaches (range_with_len b m)
  all_ties zero b next xs is up long = none_left (w * b) next xs (omega (arith, long))
  all_ties (suc m) b next xs is up long =
      let more : w * suc m ≡ w * m + w = mul-suc w m in
      let ahead : w * (b + 1) ≡ w * b + w = omega (arith, mul-suc w b) in
      let front : length (take w xs) ≡ w = length-take-le w xs (omega (arith, long, more)) in
      let back : length (drop w xs) ≡ w * m = length-drop w xs ∙ omega (arith, long, more) in
      let rest = of_entry e (from_place (w * (b + 1)) (drop w xs)) in
      let behind : drop w xs ≡ drop (w * (b + 1)) slots = ap (drop w) is ∙ drop-drop w (w * b) slots ∙ ap (λ k. drop k slots) (sym ahead) in
      let at : w * b + length (take w xs) ≡ w * (b + 1) = omega (arith, front, ahead) in
      let parts : of_entry e (from_place (w * b) xs) ≡ of_entry e (from_place (w * b) (take w xs)) ++ rest =
      ap (λ l. of_entry e (from_place (w * b) l)) (sym (take-append-drop w xs)) ∙ ap (of_entry e) (two_parts (w * b) (take w xs) (drop w xs))
      ∙ filter-append (λ row. row.0 == e) (from_place (w * b) (take w xs)) (from_place (w * b + length (take w xs)) (drop w xs))
      ∙ ap (λ k. of_entry e (from_place (w * b) (take w xs)) ++ of_entry e (from_place k (drop w xs))) at in
      ap (ties_from w next) parts
      ∙ one_tie b (w * b) next (take w xs) rest up (omega arith) (omega (arith, front))
      ∙ ap (λ l. cond (is_in (take w l) e) (b ∷ ties_from w (b + 1) rest) (ties_from w next rest)) is
      ∙ ap (λ l. cond (reaches b) (b ∷ l) (ties_from w next rest)) (all_ties m (b + 1) (b + 1) (drop w xs) behind (omega arith) back)
      ∙ ap (λ l. cond (reaches b) (b ∷ filter reaches (range_with_len (b + 1) m)) l) (all_ties m (b + 1) next (drop w xs) behind (omega (arith, up)) back)

module _ (b : SeasonFacts) (e c r : ℕ) where
  pub without_ties : ties_after (bracket_of b c) r ≡ 0 → reached b e c r ≡ []
  without_ties none = ap (λ n. map (node.Tie c r) (filter (λ i. is_in (part_of (bracket_of b c) r i) e) (range_with_len 0 n))) none

  pub reached_ties : length (bracket_of b c).slots ≡ 2 ^ (r + 1) * ties_after (bracket_of b c) r → map (node.Tie c r) (ties_from (2 ^ (r + 1)) 0 (places_of (bracket_of b c).slots e)) ≡ reached b e c r
  reached_ties whole =
      let slots = (bracket_of b c).slots in
      let w = 2 ^ (r + 1) in
      let none : w * 0 ≡ 0 = mul-zero w in
      ap (map (node.Tie c r)) (
      ap (λ k. ties_from w 0 (of_entry e (from_place k slots))) (sym none)
      ∙ all_ties slots e w (pow_pos (r + 1)) (ties_after (bracket_of b c) r) 0 0 slots (ap (λ k. drop k slots) (sym none)) (omega arith) whole
      )

-- one slot more was looked at
module _ (c r w next : ℕ) (rows : List (ℕ × ℕ)) (i : ℕ) (x d : ℕ × ℕ) (within : i < length rows) (is : x ≡ get_or rows i d) (found all : List Node) where
  abbrev named : ℕ → Node
  named = node.Tie c r

  so_far : found ++ map named (ties_from w next (drop i rows)) ≡ all
      → found ++ map named (if nat_le next (x.1 / w) then x.1 / w ∷ ties_from w (x.1 / w + 1) (drop (i + 1) rows) else ties_from w next (drop (i + 1) rows)) ≡ all
  so_far h = ap (λ l. found ++ map named (ties_from w next l)) (ap (λ y. y ∷ drop (i + 1) rows) is ∙ sym (drop_more rows i d within)) ∙ h

  pub one_new : (place : ℕ) (new : List Node) → place ≡ x.1 / w → nat_le next place ≡ true → new ≡ found ++ named place ∷ [] → found ++ map named (ties_from w next (drop i rows)) ≡ all
      → new ++ map named (ties_from w (place + 1) (drop (i + 1) rows)) ≡ all
  one_new place new at first grown h =
      ap (λ l. l ++ map named (ties_from w (place + 1) (drop (i + 1) rows))) grown
      ∙ append_assoc found (named place ∷ []) (map named (ties_from w (place + 1) (drop (i + 1) rows)))
      ∙ ap (λ k. found ++ named k ∷ map named (ties_from w (k + 1) (drop (i + 1) rows))) at
      ∙ ap (λ t. found ++ map named (if t then x.1 / w ∷ ties_from w (x.1 / w + 1) (drop (i + 1) rows) else ties_from w next (drop (i + 1) rows))) (sym first ∙ ap (nat_le next) at)
      ∙ so_far h

  pub one_again : (place : ℕ) → place ≡ x.1 / w → nat_le next place ≡ false → found ++ map named (ties_from w next (drop i rows)) ≡ all → found ++ map named (ties_from w next (drop (i + 1) rows)) ≡ all
  one_again place at came h =
      ap (λ t. found ++ map named (if t then x.1 / w ∷ ties_from w (x.1 / w + 1) (drop (i + 1) rows) else ties_from w next (drop (i + 1) rows))) (sym came ∙ ap (nat_le next) at)
      ∙ so_far h
