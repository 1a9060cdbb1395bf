-- Reading from left to right: a value that the bytes begin with, and the bytes behind it.
use Rattle.std.specs.Prelude.{ℕ, zero, suc, Bool, ◌==◌, nat_lt, if◌then◌else◌, List, [], ◌∷◌, length, take, drop, Option, Some, None, find}
use Rattle.std.specs.Int.{Width, byte_len, from_be_bytes}
use Rattle.record_fields.specs.Ranges.{is_between}

abbrev pub Reader : Type 0 → Type 0
Reader A = List ℕ → Option (A × List ℕ)

infixl 10 ◌>>=◌
abbrev pub ◌>>=◌ : {A B : Type 0} → Option A → (A → Option B) → Option B
None >>= f = None
(Some x) >>= f = f x

-- a byte, a number of a width, so many bytes
abbrev pub byte_at : List ℕ → Option (ℕ × List ℕ)
byte_at [] = None
byte_at (b ∷ rest) = Some (b, rest)

unfoldable pub number_at : Width → List ℕ → Option (ℕ × List ℕ)
number_at w bytes = if nat_lt (length bytes) (byte_len w) then None else Some (from_be_bytes w (take (byte_len w) bytes), drop (byte_len w) bytes)

unfoldable pub front_at : ℕ → List ℕ → Option (List ℕ × List ℕ)
front_at n bytes = if nat_lt (length bytes) n then None else Some (take n bytes, drop n bytes)

-- nothing
abbrev pub nothing_at : List ℕ → Option (Unit {0} × List ℕ)
nothing_at bytes = Some (tt, bytes)

-- what is meant by what is read, if anything is
abbrev pub meant : {A B : Type 0} → (A → Option B) → Reader A → List ℕ → Option (B × List ℕ)
meant f r bytes = r bytes >>= λ a. f a.0 >>= λ b. Some (b, a.1)

-- a value, and behind it another, which may hang on the first
abbrev pub both_at : {A B : Type 0} → Reader A → (A → Reader B) → List ℕ → Option ((A × B) × List ℕ)
both_at r s bytes = r bytes >>= λ a. s a.0 a.1 >>= λ b. Some ((a.0, b.0), b.1)

infixr 20 ◌then◌
abbrev pub ◌then◌ : {A B : Type 0} → Reader A → Reader B → Reader (A × B)
r then s = both_at r (λ a. s)

-- so many values
unfoldable pub many_at : {A : Type 0} → Reader A → ℕ → List ℕ → Option (List A × List ℕ)
many_at each zero bytes = Some ([], bytes)
many_at each (suc n) bytes = do
  first ← each bytes
  others ← many_at each n first.1
  Some (first.0 ∷ others.0, others.1)

-- values behind their count, and a text behind its length
abbrev pub counted : {A : Type 0} → Reader ℕ → Reader A → List ℕ → Option (List A × List ℕ)
counted count each bytes = count bytes >>= λ n. many_at each n.0 n.1

-- what passes a test
abbrev pub kept : {A : Type 0} → (A → Bool) → A → Option A
kept test a = if test a then Some a else None

abbrev pub within : ℕ → ℕ → Reader ℕ → Reader ℕ
within least most r = meant (kept (is_between least most)) r

abbrev pub text_at : Reader ℕ → (List ℕ → Bool) → List ℕ → Option (List ℕ × List ℕ)
text_at count test bytes = count bytes >>= λ n. meant (kept test) (front_at n.0) n.1

-- the one of these that has a number
abbrev pub numbered : {B : Type 0} → (B → ℕ) → List B → ℕ → Option B
numbered number all n = find (λ b. number b == n) all

-- a gameweek, or none
abbrev pub gameweek_of : ℕ → Option (Option ℕ)
gameweek_of n = if n == 0 then Some None else if is_between 1 38 n then Some (Some n) else None

-- all of the bytes
abbrev pub whole_of : {A : Type 0} → Reader A → List ℕ → Option A
whole_of r bytes = r bytes >>= λ a. if length a.1 == 0 then Some a.0 else None
