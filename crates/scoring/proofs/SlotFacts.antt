-- The final eleven of the definition is the one of the rules.
use Rattle.std.proofs.Common.{◌≡◌, ℕ, zero, suc, ◌+◌, ◌-◌, ◌<◌, ◌≤◌, Bool, ⊎_elim, List, [], ◌∷◌, length, take, get_or, refl, sym, ◌∙◌, ap, subst, arith, find, if◌then◌else◌}
use Rattle.std.specs.Prelude.{unwrap_or}
use Rattle.std.proofs.lemmas.Bool.Decides.{leb_tells}
use Rattle.std.proofs.lemmas.List.{length-append, take-append-le, take_all, get_or_append_left}
use Rattle.std.proofs.Math.Seq.{get_or-append_seam}
use Rattle.rule_book.specs.declared.team.Team.{Team}
use Rattle.rule_book.specs.declared.team_score.Figures.{Figures}
use Rattle.rule_book.specs.Elevens.{IsFinal, IsSubstituted, Settles, can_stand, keeper_for}
use Rattle.rule_book.specs.Teams.{bench, starters}
use Rattle.rule_book.specs.FinalSlots.{stand_for, slots_through, final_slots}

module _ (team : Team) (figures : List Figures) where
  abbrev upto : ℕ → List ℕ
  upto k = slots_through team figures k

  pub long : (k : ℕ) → length (upto k) ≡ k + 1
  long zero = omega arith
  long (suc k) = length-append (upto k) (stand_for team figures (upto k) (k + 2) ∷ []) ∙ omega (arith, long k)

  -- the first of them are those of fewer starters
  front : (k j : ℕ) → j ≤ k → take (j + 1) (upto k) ≡ upto j
  front zero j le = let z : j ≡ 0 = omega arith in subst (λ i. take (i + 1) (upto 0) ≡ upto i) (sym z) refl
  front (suc k) j le = ⊎_elim
      (λ p. take-append-le (j + 1) (upto k) (stand_for team figures (upto k) (k + 2) ∷ []) (let h : j ≤ k = p.1 in omega (arith, long k)) ∙ front k j p.1)
      (λ p. let h : k < j = p.1 in let z : j ≡ suc k = omega arith in
      subst (λ i. take (i + 1) (upto (suc k)) ≡ upto i) (sym z) (take_all (suc k + 1) (upto (suc k)) (omega (arith, long (suc k)))))
      (leb_tells j k)

  -- each slot is that of his turn
  turn : (k j : ℕ) → j < k → get_or (upto k) (j + 1) 0 ≡ stand_for team figures (upto j) (j + 2)
  turn zero j lt = absurd (omega arith)
  turn (suc k) j lt = ⊎_elim
      (λ p. let h : suc j ≤ k = p.1 in get_or_append_left (upto k) (stand_for team figures (upto k) (k + 2) ∷ []) 0 (j + 1) (omega (arith, long k)) ∙ turn k j (omega arith))
      (λ p. let h : k < suc j = p.1 in let z : j ≡ k = omega arith in
      subst (λ i. get_or (upto (suc k)) (i + 1) 0 ≡ stand_for team figures (upto i) (i + 2)) (sym z)
      (ap (λ i. get_or (upto (suc k)) i 0) (sym (long k)) ∙ get_or-append_seam (upto k) (stand_for team figures (upto k) (k + 2)) [] 0))
      (leb_tells (suc j) k)

  first : (k : ℕ) → get_or (upto k) 0 0 ≡ keeper_for figures
  first zero = refl
  first (suc k) = get_or_append_left (upto k) (stand_for team figures (upto k) (k + 2) ∷ []) 0 0 (omega (arith, long k)) ∙ first k

  settles : (n : ℕ) → 2 ≤ n → n ≤ 11 → Settles team figures (upto 10) n
  settles n low high =
      let j = n - 2 in
      let e : j + 2 ≡ n = omega arith in
      let f : j + 1 ≡ n - 1 = omega arith in
      let t : get_or (upto 10) (n - 1) 0 ≡ stand_for team figures (take (n - 1) (upto 10)) n =
      ap (λ i. get_or (upto 10) i 0) (sym f) ∙ turn 10 j (omega arith) ∙ ap (λ xs. stand_for team figures xs (j + 2)) (sym (front 10 j (omega arith)))
      ∙ ap (λ i. stand_for team figures (take i (upto 10)) (j + 2)) f ∙ ap (stand_for team figures (take (n - 1) (upto 10))) e in
      record {
        present = λ p. t ∙ ap (λ b. if b then n else unwrap_or (find (can_stand team figures (take (n - 1) (upto 10)) n) bench) n) p;
        absent = λ p. t ∙ ap (λ b. if b then n else unwrap_or (find (can_stand team figures (take (n - 1) (upto 10)) n) bench) n) p;
      }

  substituted : IsSubstituted team figures (upto 10)
  substituted = record { all = long 10; keeper = first 10; outfield = settles }

  pub is_final : (ended : Bool) → IsFinal team figures ended (final_slots team figures ended)
  is_final ended = record {
    kept = λ p. ap (λ b. if b then starters else upto 10) p;
    substituted = λ p. subst (IsSubstituted team figures) (sym (ap (λ b. if b then starters else upto 10) p)) substituted;
  }
