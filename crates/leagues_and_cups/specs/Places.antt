-- Who stands in which slots of a cup.
use Rattle.std.specs.Prelude.{◌≡◌, ◌≤◌, ◌==◌, ℕ, List, length}
use Rattle.std.specs.List.{AllPairs, filter, range_with_len, zip}

-- who stands in each slot, with its place, counted from 0
abbrev pub numbered : List ℕ → List (ℕ × ℕ)
numbered slots = zip slots (range_with_len 0 (length slots))

-- those of one entry
abbrev pub of_entry : ℕ → List (ℕ × ℕ) → List (ℕ × ℕ)
of_entry e rows = filter (λ row. row.0 == e) rows

-- the slots of an entry, by their places
abbrev pub places_of : List ℕ → ℕ → List (ℕ × ℕ)
places_of slots e = of_entry e (numbered slots)

-- rows by ascending entry
abbrev pub Ascend : List (ℕ × ℕ) → Type 0
Ascend rows = AllPairs (λ a b. a.0 ≤ b.0) rows

-- they are the slots by ascending entry, those of one entry by their places
pub record IsIndex (slots : List ℕ) (rows : List (ℕ × ℕ)) : Type 0 where
  pub ascend : Ascend rows
  pub same : (e : ℕ) → of_entry e rows ≡ places_of slots e
