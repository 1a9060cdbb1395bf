-- Entries by their numbers, and leagues and cups by theirs.
use Rattle.std.specs.Prelude.{ℕ, zero, suc, ◌-◌, ◌==◌, List, [], ◌∷◌, Option, None, if◌then◌else◌, slice_get}

-- the entry of a number: entry 1 is the first, and there is no entry 0
abbrev pub entry_in : {X : Type 0} → List X → ℕ → Option X
entry_in entries e = if e == 0 then None else slice_get entries (e - 1)

-- the entries where the one of a number was changed so
abbrev pub changed_in : {X : Type 0} → (X → X) → List X → ℕ → List X
changed_in change [] e = []
changed_in change (entry ∷ entries) zero = entry ∷ entries
changed_in change (entry ∷ entries) (suc zero) = change entry ∷ entries
changed_in change (entry ∷ entries) (suc (suc e)) = entry ∷ changed_in change entries (suc e)

-- so many entries are in a season at most
abbrev pub most_entries : ℕ
most_entries = 2048
