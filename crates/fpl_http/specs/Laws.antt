-- what is so of each stream, whoever reads it
use Rattle.std.specs.Prelude.{ℕ, ◌≡◌, List, ◌++◌}
use Rattle.fpl_http.specs.Stream.{Request, Wanting, Refusal, Whole, IsFront, End, Reads}

-- two readings of a stream are one
abbrev pub TwoReadingsAreOne : Type 0
TwoReadingsAreOne = (s : List ℕ) (ms ns : List Request) (e f : End) → Reads s ms e → Reads s ns f → (ms ≡ ns) × (e ≡ f)

-- a message at the front stays there, whatever follows
abbrev pub MessagesStay : Type 0
MessagesStay = (s x rest : List ℕ) (m : Request) → IsFront s (Whole m rest) → IsFront (s ++ x) (Whole m (rest ++ x))

-- and so does a refusal
abbrev pub RefusalsStay : Type 0
RefusalsStay = (s x : List ℕ) (k : ℕ) → IsFront s (Refusal k) → IsFront (s ++ x) (Refusal k)

-- no front of a stream that wants more has a message or a refusal
abbrev pub WantingIsOpen : Type 0
WantingIsOpen = (s x : List ℕ) → IsFront (s ++ x) Wanting → ((m : Request) (rest : List ℕ) → IsFront s (Whole m rest) → ⊥) × ((k : ℕ) → IsFront s (Refusal k) → ⊥)
