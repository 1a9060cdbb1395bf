-- Rows of a list that are written, or left out, or several at once.
use Rattle.std.proofs.Common.{◌≡◌, ◌∙◌, sym, ap, refl, ℕ, ◌+◌, ◌<◌, List, [], ◌∷◌, ◌++◌, Ok, length, get_or, drop, append_assoc, append-nil, sum_by, subst, Err, IsErr, Result}
use Rattle.std.specs.List.{flat_map}
use Rattle.std.proofs.lemmas.List.{at_drop_more}
use Rattle.std.proofs.lemmas.List.Sums.{sum_by-append, sum_by-drop_more}
use Rattle.std.specs.declared.alloc.AllocError.{AllocError}
use Rattle.json.specs.Token.{Token}
use Rattle.json.specs.Written.{Written}
use Rattle.serde_json.specs.Data.{Data}
use Rattle.json_members.specs.Tokens.{Appends, tokens_of}
use Rattle.json_members.proofs.ListLemmas.{rest_of}
use Rattle.fixture_windows.specs.RowParts.{row_tokens}

-- the rows of one more are written
module _ {X Y : Type 0} (f : Y → Data) (each : X → List Y) where
  behind : (ys zs : List Y) → rest_of f (ys ++ zs) ≡ row_tokens f ys ++ rest_of f zs
  behind [] zs = refl
  behind (y ∷ ys) zs = ap (λ ts. tokens_of (f y) ++ ts) (behind ys zs) ∙ sym (append_assoc (tokens_of (f y)) (row_tokens f ys) (rest_of f zs))

  pub flat_more : {u : Unit {0}} {a b : Written} {whole : List Token} (xs : List X) (i : ℕ) (x : X) → i < length xs → x ≡ get_or xs i x → Appends (Ok u) a b (row_tokens f (each x))
      → a.tokens ++ rest_of f (flat_map each (drop i xs)) ≡ whole → b.tokens ++ rest_of f (flat_map each (drop (i + 1) xs)) ≡ whole
  flat_more {a = a} xs i x below is wrote so =
      let left = flat_map each (drop (i + 1) xs) in
      ap (λ l. l ++ rest_of f left) wrote.tokens
      ∙ append_assoc a.tokens (row_tokens f (each x)) (rest_of f left)
      ∙ ap (λ l. a.tokens ++ l) (sym (behind (each x) left))
      ∙ ap (λ y. a.tokens ++ rest_of f (flat_map each (y ∷ drop (i + 1) xs))) is
      ∙ ap (λ l. a.tokens ++ l) (sym (at_drop_more (λ l. rest_of f (flat_map each l)) xs i x below))
      ∙ so

-- what is left to be read of a list is what is read of the next, and what is left behind it
pub reads_left : {X : Type 0} (reads : X → ℕ) (xs : List X) (i : ℕ) (x : X) → i < length xs → x ≡ get_or xs i x → sum_by reads (drop i xs) ≡ reads x + sum_by reads (drop (i + 1) xs)
reads_left reads xs i x below is =
    sum_by-drop_more reads xs i x below ∙ ap (λ y. reads y + sum_by reads (drop (i + 1) xs)) (sym is)

-- so it is with the rows of each
pub reads_beside : {X Y : Type 0} (each : X → List Y) (reads : Y → ℕ) (xs : List X) (i : ℕ) (x : X) → i < length xs → x ≡ get_or xs i x
    → sum_by reads (flat_map each (drop i xs)) ≡ sum_by reads (each x) + sum_by reads (flat_map each (drop (i + 1) xs))
reads_beside each reads xs i x below is =
    at_drop_more (λ l. sum_by reads (flat_map each l)) xs i x below
    ∙ ap (λ y. sum_by reads (flat_map each (y ∷ drop (i + 1) xs))) (sym is)
    ∙ sum_by-append reads (each x) (flat_map each (drop (i + 1) xs))

-- the last of members, behind which there are none
pub ending : {r : Result (Unit {0}) AllocError} {a b : Written} {ts : List Token} → Appends r a b ts → Appends r a b (ts ++ [])
ending {r = r} {a = a} {b = b} {ts = ts} wrote = subst (Appends r a b) (sym (append-nil ts)) wrote

-- where memory is wanting, what the buffer held at the start stays
pub failed : {a b : Written} {ts : List Token} (r : Result (Unit {0}) AllocError) → IsErr r → b.before ≡ a.before → Appends r a b ts
failed (Ok x) is before = absurd (cc is)
failed (Err e) is before = record { tokens = tt; before = before }
