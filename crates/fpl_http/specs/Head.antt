-- the head of a message, as the parser's grammar has it, with room for 64 fields
use Rattle.std.specs.Prelude.{ℕ, ◌≤◌, List, length, map, Option, Some, None}
use Rattle.httparse.specs.Grammar.{RequestHead, ReadsRequest, field_value}

-- the bytes begin with this head
abbrev pub ReadsHead : List ℕ → RequestHead → Type 0
ReadsHead bytes h = ((rest : List ℕ) × ReadsRequest bytes h rest) × (length h.fields ≤ 64)

-- the bytes begin with no head
abbrev pub IsNoHead : List ℕ → Type 0
IsNoHead bytes = (h : RequestHead) → ReadsHead bytes h → ⊥

-- the head with which the bytes begin, if they begin with one
abbrev pub IsHeadOf : List ℕ → Option RequestHead → Type 0
IsHeadOf bytes (Some h) = ReadsHead bytes h
IsHeadOf bytes None = IsNoHead bytes

-- the names of the fields, and their values without the spaces and tabs at both ends
abbrev pub fields_of : RequestHead → List (List ℕ × List ℕ)
fields_of h = map (λ f. (f.name, field_value f)) h.fields
