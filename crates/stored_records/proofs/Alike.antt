-- Holdings that the test finds the same are the same, and so are picks that the test of equality finds so.
use Rattle.std.proofs.Common.{◌≡◌, ℕ, Bool, true, false, ◌&&◌, eqb, List, [], ◌∷◌, map, arith, refl, subst, sym, ap, ◌∙◌, ◌⊎◌, inl, inr}
use Rattle.std.specs.List.{list_all}
use Rattle.std.proofs.lemmas.Bool.{and_parts, eqb-true}
use Rattle.std.proofs.lemmas.Bool.Decides.{nat_tests}
use Rattle.std.specs.Cmp.Lexicographic.{pointwise}
use Rattle.std.specs.Prelude.{Decides}
use Rattle.std.proofs.lemmas.Slice.Eq.{slice_eq-Decides}
use Rattle.rule_book.specs.EntryRecords.{SameHoldings, price_among}
use Rattle.rule_book.specs.History.{Holding}
use Rattle.rule_book.specs.HistoryRules.{times}
use Rattle.stored_records.specs.Sequels.{are_alike, are_same_holdings, is_alike}

abbrev players : List Holding → List ℕ
players squad = map (λ k. k.player) squad

-- a player passes a test that all of a squad pass, or he is not among them
abbrev PassesOrAbsent : (ℕ → Bool) → ℕ → List Holding → Type 0
PassesOrAbsent T p squad = (T p ≡ true) ⊎ ((times p (players squad) ≡ 0) × (price_among p squad ≡ 0))

at_one : (T : ℕ → Bool) (k : Holding) (squad : List Holding) (p : ℕ) (b : Bool) → eqb k.player p ≡ b
    → T k.player ≡ true → PassesOrAbsent T p squad → PassesOrAbsent T p (k ∷ squad)
at_one T k squad p true e here rest = inl (sym (ap T (eqb-true k.player p e)) ∙ here)
at_one T k squad p false e here rest =
    elim rest [ inl holds ↦ inl holds | inr absent ↦ inr (rw e (omega (arith, absent.0)), rw e absent.1) ]

passes_or_absent : (T : ℕ → Bool) (squad : List Holding) (p : ℕ) → list_all (λ k. T k.player) squad ≡ true → PassesOrAbsent T p squad
passes_or_absent T [] p all = inr (refl, refl)
passes_or_absent T (k ∷ squad) p all =
    let parts = and_parts (T k.player) (list_all (λ k. T k.player) squad) all in
    at_one T k squad p (eqb k.player p) refl parts.0 (passes_or_absent T squad p parts.1)

abbrev IsAlike : List Holding → List Holding → ℕ → Type 0
IsAlike a b p = (times p (players a) ≡ times p (players b)) × (price_among p a ≡ price_among p b)

alike_from : (a b : List Holding) (p : ℕ) → is_alike a b p ≡ true → IsAlike a b p
alike_from a b p e =
    let parts = and_parts (eqb (times p (players a)) (times p (players b))) (eqb (price_among p a) (price_among p b)) e in
    (eqb-true _ _ parts.0, eqb-true _ _ parts.1)

alike_either : (a b : List Holding) (p : ℕ) → PassesOrAbsent (is_alike a b) p a → PassesOrAbsent (is_alike a b) p b → IsAlike a b p
alike_either a b p (inl holds) other = alike_from a b p holds
alike_either a b p (inr none) (inl holds) = alike_from a b p holds
alike_either a b p (inr none) (inr neither) = (none.0 ∙ sym neither.0, none.1 ∙ sym neither.1)

-- the test of the same holdings tells that they are
pub same_from : (a b : List Holding) → are_same_holdings a b ≡ true → SameHoldings a b
same_from a b e =
    let parts = and_parts (list_all (λ k. is_alike a b k.player) a) (list_all (λ k. is_alike a b k.player) b) e in
    let each : (p : ℕ) → IsAlike a b p
    = λ p. alike_either a b p (passes_or_absent (is_alike a b) a p parts.0) (passes_or_absent (is_alike a b) b p parts.1) in
    record { players = λ p. (each p).0; prices = λ p. (each p).1 }

eqb_itself : (n : ℕ) → eqb n n ≡ true
eqb_itself n = grind (arith, nat_tests)

alike_itself : (a squad : List Holding) → are_alike a a squad ≡ true
alike_itself a [] = refl
alike_itself a (k ∷ squad) = rw (eqb_itself (times k.player (players a)), eqb_itself (price_among k.player a)) (alike_itself a squad)

-- holdings are the same as themselves
pub same_itself : (a : List Holding) → are_same_holdings a a ≡ true
same_itself a = rw (alike_itself a a) refl

abbrev is_same : ℕ × ℕ → ℕ × ℕ → Bool
is_same a b = eqb a.0 b.0 && eqb a.1 b.1

same_decides : (a b : ℕ × ℕ) → Decides (is_same a b) (a ≡ b)
same_decides a b = (
  λ e. let parts = and_parts (eqb a.0 b.0) (eqb a.1 b.1) e in (λ i. (eqb-true a.0 b.0 parts.0 i, eqb-true a.1 b.1 parts.1 i)),
  λ same. subst (λ c. is_same a c ≡ true) same (rw (eqb_itself a.0, eqb_itself a.1) refl),
)

-- picks that the test of equality finds the same are
pub same_picks : (xs ys : List (ℕ × ℕ)) (r : Bool) → r ≡ pointwise is_same xs ys → r ≡ true → xs ≡ ys
same_picks xs ys r e = (slice_eq-Decides same_decides xs ys r e).0
