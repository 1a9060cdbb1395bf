-- The rows of entries as the members of a league are entered one by one.
use Rattle.std.proofs.Common.{◌≡◌, ◌≢◌, ◌∙◌, sym, ap, refl, subst, ℕ, ◌+◌, ◌<◌, Bool, true, false, List, [], ◌∷◌, ◌++◌, length, get_or, take, arith, inl, inr, ◌||◌, if◌then◌else◌}
use Rattle.std.specs.Prelude.{◌==◌}
use Rattle.std.specs.List.{list_any}
use Rattle.std.proofs.lemmas.Bool.{cases_eq}
use Rattle.std.proofs.lemmas.Bool.Decides.{nat_tests}
use Rattle.std.proofs.lemmas.List.{get_or_default, take_more}
use Rattle.std.proofs.lemmas.List.Folds.{list_any-append, list_any_none}
use Rattle.fpl_base.proofs.Around.{All-take_from}
use Rattle.rule_book.specs.Ranks.{AllDiffer}
use Rattle.leagues_and_cups.specs.Books.{row_entered, row_of, with_number}

module _ (ms : List ℕ) (i x l : ℕ) (differ : AllDiffer ms) (lt : i < length ms) (here : x ≡ get_or ms i x) where
  -- he does not stand among those before him
  first_time : list_any (λ m. m == x) (take i ms) ≡ false
  first_time = list_any_none (λ m. m == x) (take i ms) (All-take_from (λ m. (m == x) ≡ false) ms i (omega (arith, lt)) (λ k d less.
      let apart : get_or ms k d ≢ x = subst (λ n. get_or ms k d ≢ n) (get_or_default ms i d x lt ∙ sym here) (differ k i d less lt) in
      grind (arith, nat_tests, apart)))

  among : (e : ℕ) → list_any (λ m. m == e) (take (i + 1) ms) ≡ (list_any (λ m. m == e) (take i ms) || (x == e))
  among e = ap (list_any (λ m. m == e)) (take_more ms i x lt ∙ ap (λ n. take i ms ++ n ∷ []) (sym here)) ∙ (list_any-append (λ m. m == e) (take i ms) (x ∷ []) ∙ by (x == e) (list_any (λ m. m == e) (take i ms)))
    where
      by : (b c : Bool) → (c || (b || false)) ≡ (c || b)
      by true c = refl
      by false c = refl

  module _ (old now new : List (List ℕ)) (so_far : (e : ℕ) → row_of now e ≡ row_entered (take i ms) l old e) where
    -- his row is as it was before
    pub not_yet : row_of now x ≡ row_of old x
    not_yet = so_far x ∙ ap (λ (b : Bool). if b then with_number l (row_of old x) else row_of old x) first_time

    pub entered_more : row_of new x ≡ with_number l (row_of now x) → ((d : ℕ) → d ≢ x → row_of new d ≡ row_of now d) → (e : ℕ) → row_of new e ≡ row_entered (take (i + 1) ms) l old e
    entered_more put others e = elim (cases_eq e x) [
      | inl same ↦
          let is : list_any (λ m. m == x) (take (i + 1) ms) ≡ true = among x ∙ grind (arith, nat_tests, first_time) in
          let his : row_of new x ≡ row_entered (take (i + 1) ms) l old x = put ∙ (ap (with_number l) not_yet ∙ sym (ap (λ (b : Bool). if b then with_number l (row_of old x) else row_of old x) is)) in
          subst (λ n. row_of new n ≡ row_entered (take (i + 1) ms) l old n) (sym same) his
      | inr other ↦
          let is : list_any (λ m. m == e) (take (i + 1) ms) ≡ list_any (λ m. m == e) (take i ms) = among e ∙ grind (arith, nat_tests, other) in
          others e other ∙ (so_far e ∙ sym (ap (λ (b : Bool). if b then with_number l (row_of old e) else row_of old e) is))
    ]
