-- A loop over a list: what is so of each thing before the present one, and of that one, is so of one thing more.
use Rattle.std.proofs.Common.{◌≡◌, ◌+◌, ◌<◌, ◌≤◌, ◌++◌, ◌∷◌, [], ◌∙◌, ℕ, List, ap, append_assoc, append-nil, flat_map, get_or, length, subst, sym, take}
use Rattle.std.specs.List.{All, AllByRecursion}
use Rattle.std.proofs.lemmas.Grind.{flat_map-append}
use Rattle.std.proofs.lemmas.List.{take_all, take_more}
use Rattle.std.proofs.lemmas.List.Elements.{All-more, at_read, recursion_from_All}

pub one_more : {X : Type 0} (P : X → Type 0) (xs : List X) (i : ℕ) (x : X) → i < length xs → x ≡ get_or xs i x → All P (take i xs) → P x → All P (take (i + 1) xs)
one_more P xs i x within is so_far here = All-more P xs i x within so_far (at_read xs P i x within is here x)

pub all_of_them : {X : Type 0} (P : X → Type 0) (xs : List X) (i : ℕ) → length xs ≤ i → All P (take i xs) → AllByRecursion P xs
all_of_them P xs i end each = recursion_from_All P xs (subst (All P) (take_all i xs end) each)

-- what a writer of each thing wrote of one thing more
flat_map_more : {X : Type 0} (write : X → List ℕ) (xs : List X) (i : ℕ) (x : X) → i < length xs → x ≡ get_or xs i x
    → flat_map write (take (i + 1) xs) ≡ flat_map write (take i xs) ++ write x
flat_map_more write xs i x within is =
    ap (flat_map write) (take_more xs i x within) ∙ flat_map-append write (take i xs) (get_or xs i x ∷ [])
    ∙ ap (λ l. flat_map write (take i xs) ++ l) (append-nil (write (get_or xs i x)) ∙ ap write (sym is))

-- the same of a loop that writes each thing besides
pub one_more_written : {X : Type 0} (P : X → Type 0) (write : X → List ℕ) (xs : List X) (i : ℕ) (x : X) (front before after : List ℕ)
    → i < length xs → x ≡ get_or xs i x → (before ≡ front ++ flat_map write (take i xs)) × All P (take i xs) → after ≡ before ++ write x → P x
    → (after ≡ front ++ flat_map write (take (i + 1) xs)) × All P (take (i + 1) xs)
one_more_written P write xs i x front before after within is so_far written here = (
  written ∙ ap (λ (l : List ℕ). l ++ write x) so_far.0 ∙ append_assoc front (flat_map write (take i xs)) (write x)
      ∙ ap (λ (l : List ℕ). front ++ l) (sym (flat_map_more write xs i x within is)),
  one_more P xs i x within is so_far.1 here,
)
