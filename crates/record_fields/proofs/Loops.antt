-- Values read one after another, as a loop does.
use Rattle.std.proofs.Common.{◌≡◌, ℕ, zero, suc, ◌-◌, ◌+◌, ◌≤◌, ◌<◌, Bool, false, cond, ◌==◌, List, [], ◌∷◌, ◌++◌, length, take, set, Option, Some, None, refl, sym, ap, subst, ◌∙◌, append_assoc, append-nil, arith}
use Rattle.std.specs.Prelude.{◌≢◌}
use Rattle.std.proofs.lemmas.Bool.Decides.{nat_tests}
use Rattle.std.proofs.lemmas.List.{length-set, take_all, take_more_set}
use Rattle.std.proofs.lemmas.Option.{same_Some}
use Rattle.record_fields.specs.Given.{Fails}
use Rattle.record_fields.specs.Reading.{Reader, ◌>>=◌, many_at}
use Rattle.record_fields.specs.declared.unread.Unread.{Unread}
use Rattle.record_fields.specs.declared.unread.Unread.TheVariants as unread
use Rattle.record_fields.proofs.FieldLaws.{got}

-- what was read before, and what is still read
abbrev pub with_front : {A : Type 0} → List A → Option (List A × List ℕ) → Option (List A × List ℕ)
with_front front read = read >>= λ x. Some (front ++ x.0, x.1)

regroup : {A : Type 0} (front : List A) (a : A) (read : Option (List A × List ℕ))
    → with_front front (read >>= λ x. Some (a ∷ x.0, x.1)) ≡ with_front (front ++ a ∷ []) read
regroup {A} front a None = refl
regroup {A} front a (Some x) = ap (λ (l : List A). Some (l, x.1)) (sym (append_assoc front (a ∷ []) x.0))

pub goes_on : {A : Type 0} (r : Reader A) (front : List A) (count i : ℕ) (bytes : List ℕ) (a : A) (after : List ℕ) (total : Option (List A × List ℕ))
    → i < count → r bytes ≡ Some (a, after) → with_front front (many_at r (count - i) bytes) ≡ total
    → with_front (front ++ a ∷ []) (many_at r (count - (i + 1)) after) ≡ total
unfolding many_at
goes_on r front count i bytes a after total lt is so_far =
    let k : count - i ≡ suc (count - (i + 1)) = omega arith in
    let one : with_front front (many_at r (count - i) bytes) ≡ with_front (front ++ a ∷ []) (many_at r (count - (i + 1)) after) = rw (k, is) (regroup front a (many_at r (count - (i + 1)) after)) in
    sym one ∙ so_far

pub ends : {A : Type 0} (r : Reader A) (e : Unread) (front : List A) (count i : ℕ) (bytes : List ℕ) (total : Option (List A × List ℕ))
    → i < count → Fails e (r bytes) → with_front front (many_at r (count - i) bytes) ≡ total → Fails e total
unfolding many_at
ends r unread.Memory front count i bytes total lt fails so_far = tt
ends r unread.Nothing front count i bytes total lt fails so_far =
    let k : count - i ≡ suc (count - (i + 1)) = omega arith in
    let one : with_front front (many_at r (count - i) bytes) ≡ None = rw (k, fails) refl in
    sym so_far ∙ one

pub is_done : {A : Type 0} (r : Reader A) (front : List A) (count i : ℕ) (bytes : List ℕ) (total : Option (List A × List ℕ))
    → count ≤ i → with_front front (many_at r (count - i) bytes) ≡ total → total ≡ Some (front, bytes)
unfolding many_at
is_done {A} r front count i bytes total le so_far =
    let k : count - i ≡ 0 = omega arith in
    let one : with_front front (many_at r (count - i) bytes) ≡ Some (front, bytes) = rw k (ap (λ (l : List A). Some (l, bytes)) (append-nil front)) in
    sym so_far ∙ one

-- the same of an array that is filled from its first place on
abbrev pub Fills : {A : Type 0} → Reader A → List A → ℕ → ℕ → List ℕ → Option (List A × List ℕ) → Type 0
Fills r xs count i bytes total = (length xs ≡ count) × (with_front (take i xs) (many_at r (count - i) bytes) ≡ total)

pub fills_on : {A : Type 0} (r : Reader A) (xs : List A) (count i : ℕ) (bytes : List ℕ) (a : A) (after : List ℕ) (total : Option (List A × List ℕ))
    → i < count → r bytes ≡ Some (a, after) → Fills r xs count i bytes total → Fills r (set xs i a) count (i + 1) after total
fills_on {A} r xs count i bytes a after total lt is fills =
    let here : i < length xs = omega (arith, fills.0) in (
      length-set xs i a ∙ fills.0,
      subst (λ (front : List A). with_front front (many_at r (count - (i + 1)) after) ≡ total) (sym (take_more_set xs i a here)) (goes_on r (take i xs) count i bytes a after total lt is fills.1),
    )

pub fills_ends : {A : Type 0} (r : Reader A) (e : Unread) (xs : List A) (count i : ℕ) (bytes : List ℕ) (total : Option (List A × List ℕ))
    → i < count → Fails e (r bytes) → Fills r xs count i bytes total → Fails e total
fills_ends r e xs count i bytes total lt fails fills = ends r e (take i xs) count i bytes total lt fails fills.1

pub is_filled : {A : Type 0} (r : Reader A) (xs : List A) (count i : ℕ) (bytes : List ℕ) (total : Option (List A × List ℕ))
    → count ≤ i → Fills r xs count i bytes total → total ≡ Some (xs, bytes)
is_filled {A} r xs count i bytes total le fills =
    is_done r (take i xs) count i bytes total le fills.1 ∙ ap (λ (l : List A). Some (l, bytes)) (take_all i xs (omega (arith, fills.0)))

-- So many are read as were asked for, so a list of another length is not read as one of this length.

many_long : {A : Type 0} (r : Reader A) (n : ℕ) (bytes : List ℕ) (x : List A × List ℕ) → many_at r n bytes ≡ Some x → length x.0 ≡ n
unfolding many_at
many_long {A} r zero bytes x e = ap (λ (y : List A × List ℕ). length y.0) (sym (same_Some {A = List A × List ℕ} ([], bytes) x e))
many_long {A} r (suc n) bytes x e =
    let a = got (r bytes) (λ first. many_at r n first.1 >>= λ others. Some (first.0 ∷ others.0, others.1)) x e in
    let b = got (many_at r n a.0.1) (λ others. Some (a.0.0 ∷ others.0, others.1)) x a.2 in
    ap (λ (y : List A × List ℕ). length y.0) (sym (same_Some {A = List A × List ℕ} (a.0.0 ∷ b.0.0, b.0.1) x b.2)) ∙ ap suc (many_long r n a.0.1 b.0 b.1)

-- what is made of a list of one length alone, and of no other
abbrev pub of_length : {A B : Type 0} → (List A → B) → ℕ → List A × List ℕ → Option (B × List ℕ)
of_length {A} {B} of long x = cond (length x.0 == long) (Some (of x.0)) None >>= λ (b : B). Some (b, x.1)

not_same : (m n : ℕ) → m ≢ n → (m == n) ≡ false
not_same m n other = grind (arith, nat_tests, other)

pub of_other_length : {A B : Type 0} (r : Reader A) (of : List A → B) (long n : ℕ) (bytes : List ℕ)
    → n ≢ long → (many_at r n bytes >>= of_length of long) ≡ None
of_other_length {A} {B} r of long n bytes other = at (many_at r n bytes) refl
  where
    at : (read : Option (List A × List ℕ)) → many_at r n bytes ≡ read → (read >>= of_length of long) ≡ None
    at None is = refl
    at (Some x) is =
        ap (λ (t : Bool). cond t (Some (of x.0)) None >>= λ (b : B). Some (b, x.1))
        (ap (λ m. m == long) (many_long r n bytes x is) ∙ not_same n long other)
