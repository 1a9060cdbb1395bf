-- Lists of patterns, each with what stands there.
use Rattle.std.proofs.Common.{◌≡◌, ◌∙◌, refl, sym, ap, ℕ, List, [], ◌∷◌, map, Bool, true, false, inl, inr, cond}
use Rattle.std.proofs.lemmas.Slice.Eq.{bytes_eq-Decides}
use Rattle.std.specs.Prelude.{Option, Some, None}
use Rattle.std.specs.Str.{bytes_eq}
use Rattle.matchit.specs.Router.{RouteOf}
use Rattle.fpl_requests.specs.declared.routes.Place.{Place}
use Rattle.fpl_requests.specs.Tables.{Table}
use Rattle.fpl_requests.specs.Targets.{Has}

abbrev first_of : {A : Type 0} → A → List A → A
first_of d [] = d
first_of d (x ∷ xs) = x

abbrev rest_of : {A : Type 0} → List A → List A
rest_of [] = []
rest_of (x ∷ xs) = xs

module _ {K : Type 0} where
  -- what stands at a pattern
  abbrev pub look : List ℕ → List (List ℕ × K) → Option K
  look p [] = None
  look p (x ∷ xs) = cond (bytes_eq x.0 p) (Some x.1) (look p xs)

  -- what stands at each pattern of one list stands at it in another
  abbrev pub IsWithin : List (List ℕ × K) → List (List ℕ × K) → Type 0
  IsWithin xs ys = map (λ x. look x.0 ys) xs ≡ map (λ x. Some x.1) xs

  look_at : (p : List ℕ) (x : List ℕ × K) (xs : List (List ℕ × K)) (k : K) (v : Bool) → bytes_eq x.0 p ≡ v → cond (bytes_eq x.0 p) (Some x.1) (look p xs) ≡ Some k
      → (look p xs ≡ Some k → Has p k xs) → Has p k (x ∷ xs)
  look_at p x xs k true e h ih = inl ((bytes_eq-Decides x.0 p).0 e, some_is (rw e at h))
    where
      some_is : Some x.1 ≡ Some k → x.1 ≡ k
      some_is h = cc h
  look_at p x xs k false e h ih = inr (ih (rw e at h))

  pub look_has : (p : List ℕ) (xs : List (List ℕ × K)) (k : K) → look p xs ≡ Some k → Has p k xs
  look_has p [] k h = absurd (cc h)
  look_has p (x ∷ xs) k h = look_at p x xs k (bytes_eq x.0 p) refl h (look_has p xs k)

  pub has_within : (xs ys : List (List ℕ × K)) (p : List ℕ) (k : K) → IsWithin xs ys → Has p k xs → Has p k ys
  has_within [] ys p k h has = absurd has
  has_within (x ∷ xs) ys p k h (inl is) =
      look_has p ys k (ap (λ q. look q ys) (sym is.0) ∙ ap (first_of None) h ∙ ap Some is.1)
  has_within (x ∷ xs) ys p k h (inr has) = has_within xs ys p k (ap rest_of h) has

-- a table without what `matchit` keeps beside
abbrev pub values : Table → List (List ℕ × Place)
values rows = map (λ r. (r.0, r.1.value)) rows

pub has_value : (rows : Table) (p : List ℕ) (r : RouteOf Place) → Has p r rows → Has p r.value (values rows)
has_value [] p r has = absurd has
has_value (x ∷ rows) p r (inl is) = inl (is.0, ap (λ (k : RouteOf Place). k.value) is.1)
has_value (x ∷ rows) p r (inr has) = inr (has_value rows p r has)

pub value_has : (rows : Table) (p : List ℕ) (place : Place) → Has p place (values rows) → (r : RouteOf Place) × Has p r rows
value_has [] p place has = absurd has
value_has (x ∷ rows) p place (inl is) = (x.1, inl (is.0, refl))
value_has (x ∷ rows) p place (inr has) = let there = value_has rows p place has in (there.0, inr there.1)
