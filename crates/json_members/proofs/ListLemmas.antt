-- Lists that are written item by item, and codes as text.
use Rattle.std.proofs.Common.{◌≡◌, ◌∙◌, sym, ap, subst, refl, ℕ, zero, suc, List, [], ◌∷◌, ◌++◌, ◌+◌, ◌<◌, length, drop, get_or, map, Bool, true, false, cond, arith, append_assoc, append-nil, Some, Ok, if◌then◌else◌}
use Rattle.std.proofs.lemmas.Bool.Decides.{nat_tests}
use Rattle.std.proofs.lemmas.List.{at_drop_more}
use Rattle.std.proofs.lemmas.List.FromFn.{get_or-enumerate_from, length-enumerate_from}
use Rattle.std.proofs.lemmas.Option.{same_Some}
use Rattle.std.specs.Prelude.{IsAscii, filter, nat_le, ◌&&◌, ◌||◌}
use Rattle.std.specs.List.{enumerate_from, list_all, slice_get, zip}
use Rattle.json.specs.Token.{Token}
use Rattle.json.specs.Tree.{items_tokens}
use Rattle.json.specs.Written.{Written}
use Rattle.serde_json.specs.Data.{Data}
use Rattle.serde_json.specs.View.{items_of}
use Rattle.serde_json.specs.Written.{items_outline}
use Rattle.fpl_base.specs.Texts.{has_length, is_code, is_letter_or_digit}
use Rattle.json_members.specs.Tokens.{Appends, tokens_of}
use Rattle.json_members.proofs.AppendLemmas.{one_more}

both : (a b : Bool) → (a && b) ≡ true → (a ≡ true) × (b ≡ true)
both true b h = (refl, h)
both false b h = absurd (cc h)

low : (b : ℕ) → is_letter_or_digit b ≡ true → b < 128
low b h = by_parts (nat_le 97 b) (nat_le b 122) (nat_le 48 b) (nat_le b 57) refl refl refl refl h
  where
    by_parts : (v w x y : Bool) → nat_le 97 b ≡ v → nat_le b 122 ≡ w → nat_le 48 b ≡ x → nat_le b 57 ≡ y → ((v && w) || (x && y)) ≡ true → b < 128
    by_parts true true x y e f g k h = grind (arith, nat_tests, f)
    by_parts true false x true e f g k h = grind (arith, nat_tests, k)
    by_parts true false true false e f g k h = absurd (cc h)
    by_parts true false false false e f g k h = absurd (cc h)
    by_parts false w x true e f g k h = grind (arith, nat_tests, k)
    by_parts false w true false e f g k h = absurd (cc h)
    by_parts false w false false e f g k h = absurd (cc h)

all_low : (bytes : List ℕ) → list_all is_letter_or_digit bytes ≡ true → IsAscii bytes
all_low [] h i = omega arith
all_low (b ∷ bytes) h zero = low b (both (is_letter_or_digit b) (list_all is_letter_or_digit bytes) h).0
all_low (b ∷ bytes) h (suc i) = all_low bytes (both (is_letter_or_digit b) (list_all is_letter_or_digit bytes) h).1 i

-- the bytes of a code are ASCII
pub code_is_ascii : (bytes : List ℕ) → is_code bytes ≡ true → IsAscii bytes
code_is_ascii bytes h = all_low bytes (both (has_length 4 16 bytes) (list_all is_letter_or_digit bytes) h).1

-- ---- lists that are written item by item

-- the tokens of the values of these, with the closing bracket
abbrev pub rest_of : {X : Type 0} → (X → Data) → List X → List Token
rest_of f xs = items_tokens (items_outline (items_of (map f xs)))

-- what stands at a place stands there
pub got : {X : Type 0} (xs : List X) (i : ℕ) (x : X) → slice_get xs i ≡ Some x → (i < length xs) × (get_or xs i x ≡ x)
got [] zero x at = absurd (cc at)
got [] (suc i) x at = absurd (cc at)
got (y ∷ xs) zero x at = (omega arith, same_Some y x at)
got (y ∷ xs) (suc i) x at = let r = got xs i x at in (omega (arith, r.0), r.1)

module _ {X : Type 0} (f : ℕ × X → Data) where
  -- one more of a list whose things are numbered from 1 is written
  pub numbered_more : {u : Unit {0}} {a b : Written} {whole : List Token} (xs : List X) (i n : ℕ) (x : X) → slice_get xs i ≡ Some x → 1 + i ≡ n → Appends (Ok u) a b (tokens_of (f (n, x)))
      → a.tokens ++ rest_of f (drop i (enumerate_from 1 xs)) ≡ whole → b.tokens ++ rest_of f (drop (i + 1) (enumerate_from 1 xs)) ≡ whole
  numbered_more xs i n x at number wrote so =
      let there = got xs i x at in
      one_more f (enumerate_from 1 xs) i (n, x) (subst (λ m. i < m) (sym (length-enumerate_from 1 xs)) there.0)
      (sym (get_or-enumerate_from 1 xs i (n, x) there.0 ∙ (λ j. (number j, there.1 j)))) wrote so

module _ {X : Type 0} (f : X → Data) (test : X → Bool) where
  -- one that is kept of a list is written
  pub kept_more : {u : Unit {0}} {a b : Written} {whole : List Token} (xs : List X) (i : ℕ) (x : X) → i < length xs → x ≡ get_or xs i x → test x ≡ true → Appends (Ok u) a b (tokens_of (f x))
      → a.tokens ++ rest_of f (filter test (drop i xs)) ≡ whole → b.tokens ++ rest_of f (filter test (drop (i + 1) xs)) ≡ whole
  kept_more {a = a} xs i x below is passes wrote so =
      let left = filter test (drop (i + 1) xs) in
      ap (λ l. l ++ rest_of f left) wrote.tokens
      ∙ append_assoc a.tokens (tokens_of (f x)) (rest_of f left)
      ∙ ap (λ v. a.tokens ++ rest_of f (cond v (x ∷ left) left)) (sym passes)
      ∙ ap (λ y. a.tokens ++ rest_of f (filter test (y ∷ drop (i + 1) xs))) is
      ∙ ap (λ l. a.tokens ++ l) (sym (at_drop_more (λ l. rest_of f (filter test l)) xs i x below))
      ∙ so

  -- one that is not is passed over
  pub kept_less : {whole : List Token} (before : List Token) (xs : List X) (i : ℕ) (x : X) → i < length xs → x ≡ get_or xs i x → test x ≡ false
      → before ++ rest_of f (filter test (drop i xs)) ≡ whole → before ++ rest_of f (filter test (drop (i + 1) xs)) ≡ whole
  kept_less before xs i x below is fails so =
      let left = filter test (drop (i + 1) xs) in
      ap (λ v. before ++ rest_of f (cond v (x ∷ left) left)) (sym fails)
      ∙ ap (λ y. before ++ rest_of f (filter test (y ∷ drop (i + 1) xs))) is
      ∙ ap (λ l. before ++ l) (sym (at_drop_more (λ l. rest_of f (filter test l)) xs i x below))
      ∙ so

  -- so is one that may be either
  pub kept_if : {u : Unit {0}} {a b : Written} {whole : List Token} (xs : List X) (i : ℕ) (x : X) → i < length xs → x ≡ get_or xs i x → Appends (Ok u) a b (if test x then tokens_of (f x) else [])
      → a.tokens ++ rest_of f (filter test (drop i xs)) ≡ whole → b.tokens ++ rest_of f (filter test (drop (i + 1) xs)) ≡ whole
  kept_if {u = u} {a = a} {b = b} {whole = whole} xs i x below is wrote so = by_test (test x) refl wrote
    where
      by_test : (v : Bool) → test x ≡ v → Appends (Ok u) a b (if v then tokens_of (f x) else []) → b.tokens ++ rest_of f (filter test (drop (i + 1) xs)) ≡ whole
      by_test true passes wrote = kept_more xs i x below is passes wrote so
      by_test false fails wrote =
          ap (λ t. t ++ rest_of f (filter test (drop (i + 1) xs))) (wrote.tokens ∙ append-nil a.tokens) ∙ kept_less a.tokens xs i x below is fails so

-- pairs of two lists
pub length-zip : {K V : Type 0} (ks : List K) (vs : List V) → length vs ≡ length ks → length (zip ks vs) ≡ length ks
length-zip [] vs same = refl
length-zip (k ∷ ks) [] same = absurd (omega (arith, same))
length-zip (k ∷ ks) (v ∷ vs) same = ap suc (length-zip ks vs (omega (arith, same)))

pub get_or-zip : {K V : Type 0} (ks : List K) (vs : List V) (i : ℕ) (k : K) (v : V) → length vs ≡ length ks → i < length ks → get_or (zip ks vs) i (k, v) ≡ (get_or ks i k, get_or vs i v)
get_or-zip [] vs i k v same below = absurd (omega arith)
get_or-zip (x ∷ ks) [] i k v same below = absurd (omega (arith, same))
get_or-zip (x ∷ ks) (y ∷ vs) zero k v same below = refl
get_or-zip (x ∷ ks) (y ∷ vs) (suc i) k v same below = get_or-zip ks vs i k v (omega (arith, same)) (omega arith)

-- one more of those that are kept of a list whose things are numbered from 1 is written, or passed over
module _ {X : Type 0} (f : ℕ × X → Data) (test : ℕ × X → Bool) where
  pub numbered_if : {u : Unit {0}} {a b : Written} {whole : List Token} (xs : List X) (i n : ℕ) (x : X) → slice_get xs i ≡ Some x → 1 + i ≡ n
      → Appends (Ok u) a b (if test (n, x) then tokens_of (f (n, x)) else [])
      → a.tokens ++ rest_of f (filter test (drop i (enumerate_from 1 xs))) ≡ whole → b.tokens ++ rest_of f (filter test (drop (i + 1) (enumerate_from 1 xs))) ≡ whole
  numbered_if xs i n x at number wrote so =
      let there = got xs i x at in
      kept_if f test (enumerate_from 1 xs) i (n, x) (subst (λ m. i < m) (sym (length-enumerate_from 1 xs)) there.0)
      (sym (get_or-enumerate_from 1 xs i (n, x) there.0 ∙ (λ j. (number j, there.1 j)))) wrote so
