-- What the code gives of bytes: what the readers give, but where memory ran out.
use Rattle.std.specs.Prelude.{◌≡◌, ℕ, List, Option, Some, None, Result, Ok, Err, ⊤}
use Rattle.record_fields.specs.declared.unread.Unread.{Unread}
use Rattle.record_fields.specs.declared.unread.Unread.TheVariants as unread

-- nothing is read where a reader reads nothing; want of memory tells nothing
abbrev pub Fails : {A : Type 0} → Unread → Option A → Type 0
Fails unread.Memory read = ⊤
Fails unread.Nothing read = read ≡ None

-- what is given, seen so, is what a reader reads
abbrev pub Gives : {A B : Type 0} → (A → B) → Result A Unread → Option B → Type 0
Gives seen (Ok a) read = read ≡ Some (seen a)
Gives seen (Err e) read = Fails e read

-- what is given is what a reader reads
abbrev pub IsGiven : {A : Type 0} → Result A Unread → Option A → Type 0
IsGiven result read = Gives (λ a. a) result read

-- what is given, and the bytes that are then left, are what a reader reads
abbrev pub IsRead : {A : Type 0} → Result A Unread → List ℕ → Option (A × List ℕ) → Type 0
IsRead result left read = Gives (λ a. (a, left)) result read
