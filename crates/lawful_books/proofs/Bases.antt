-- The last team before a gameweek without a free hit is that of what counts of the earlier gameweeks.
use Rattle.std.proofs.Common.{◌≡◌, ◌≢◌, ℕ, zero, suc, Bool, true, false, cond, not, ◌&&◌, List, [], Option, Some, None, nat_eq, nat_lt, arith, refl, sym, ap, ◌∙◌, subst, ⊎_elim}
use Rattle.std.specs.Option.{option_or}
use Rattle.std.proofs.lemmas.Bool.{cases_eq}
use Rattle.std.proofs.lemmas.Bool.Decides.{nat_tests}
use Rattle.std.proofs.lemmas.List.Elements.{filter_agree}
use Rattle.rule_book.specs.History.{Event, chip_at, counts_in, is_free_hit, is_touched, kept}
use Rattle.season_ledger.proofs.Carry.{touched_each}
use Rattle.season_ledger.proofs.Legality.{earlier}
use Rattle.season_ledger.proofs.Lists.{each_every, each_weaker, filter_agree_on, filter_none}
use Rattle.stored_records.specs.Sequels.{lasting, last_before}
use Rattle.lawful_books.specs.TeamsTold.{RecordedTeam}
use Rattle.lawful_books.proofs.Told.{recorded, recorded_in}

-- what is before a gameweek: nothing that counts, or the team of an earlier one with all that counts of those before
abbrev pub IsBase : List Event → ℕ → Option RecordedTeam → Type 0
IsBase h g None = earlier h g ≡ []
IsBase h g (Some t) = (w : ℕ) × (is_touched h w ≡ true) × (t ≡ recorded h w) × (earlier h g ≡ kept h w)

-- a gameweek without a free hit counts in the next
earlier_next : (h : List Event) (g : ℕ) → is_free_hit (chip_at h g) ≡ false → earlier h (suc g) ≡ kept h g
earlier_next h g free = filter_agree (λ e. nat_lt e.gw (suc g) && not (is_free_hit (chip_at h e.gw))) (λ e. counts_in h g e.gw) (λ e. agree e.gw) h
  where
    agree : (v : ℕ) → (nat_lt v (suc g) && not (is_free_hit (chip_at h v))) ≡ counts_in h g v
    agree v = ⊎_elim
        (λ (e : v ≡ g).
        let a : nat_lt v (suc g) ≡ true = grind (arith, nat_tests) in let b : nat_eq v g ≡ true = grind (arith, nat_tests) in
        let f : is_free_hit (chip_at h v) ≡ false = ap (λ w. is_free_hit (chip_at h w)) e ∙ free in rw (a, b, f) refl)
        (λ (n : v ≢ g).
        let a : nat_lt v (suc g) ≡ nat_lt v g = grind (arith, nat_tests) in let b : nat_eq v g ≡ false = grind (arith, nat_tests) in rw (a, b) refl)
        (cases_eq v g)

-- one with a free hit, or without a deed, does not
earlier_same : (h : List Event) (g : ℕ) → (is_touched h g ≡ true → is_free_hit (chip_at h g) ≡ true) → earlier h (suc g) ≡ earlier h g
earlier_same h g free =
    filter_agree_on (λ e. nat_lt e.gw (suc g) && not (is_free_hit (chip_at h e.gw))) (λ e. nat_lt e.gw g && not (is_free_hit (chip_at h e.gw))) h
    (each_weaker (λ (e : Event). is_touched h e.gw ≡ true)
    (λ (e : Event). (nat_lt e.gw (suc g) && not (is_free_hit (chip_at h e.gw))) ≡ (nat_lt e.gw g && not (is_free_hit (chip_at h e.gw)))) (λ e t. agree e.gw t) h (touched_each h))
  where
    agree : (v : ℕ) → is_touched h v ≡ true → (nat_lt v (suc g) && not (is_free_hit (chip_at h v))) ≡ (nat_lt v g && not (is_free_hit (chip_at h v)))
    agree v t = ⊎_elim
        (λ (e : v ≡ g).
        let a : nat_lt v (suc g) ≡ true = grind (arith, nat_tests) in let b : nat_lt v g ≡ false = grind (arith, nat_tests) in
        let f : is_free_hit (chip_at h v) ≡ true = ap (λ w. is_free_hit (chip_at h w)) e ∙ free (ap (is_touched h) (sym e) ∙ t) in rw (a, b, f) refl)
        (λ (n : v ≢ g). let a : nat_lt v (suc g) ≡ nat_lt v g = grind (arith, nat_tests) in rw a refl)
        (cases_eq v g)

module _ (h : List Event) (teams : ℕ → Option RecordedTeam) (are : (w : ℕ) → teams w ≡ recorded_in h w) where
  base_moves : (g v : ℕ) (o : Option RecordedTeam) → earlier h v ≡ earlier h g → IsBase h g o → IsBase h v o
  base_moves g v None same base = same ∙ base
  base_moves g v (Some t) same base = (base.0, base.1, base.2, same ∙ base.3)

  pub base_is : (g : ℕ) → IsBase h g (last_before teams g)
  base_is zero = filter_none (λ e. nat_lt e.gw 0 && not (is_free_hit (chip_at h e.gw))) h
      (each_every (λ (e : Event). (nat_lt e.gw 0 && not (is_free_hit (chip_at h e.gw))) ≡ false) (λ e. (let a : nat_lt e.gw 0 ≡ false = grind (arith, nat_tests) in rw a refl)) h)
  base_is (suc g) = subst (λ o. IsBase h (suc g) (option_or (lasting o) (last_before teams g))) (sym (are g)) (by (base_is g) (is_touched h g) (is_free_hit (chip_at h g)) refl refl)
    where
      by : IsBase h g (last_before teams g) → (b f : Bool) → is_touched h g ≡ b → is_free_hit (chip_at h g) ≡ f
          → IsBase h (suc g) (option_or (lasting (cond b (Some (recorded h g)) None)) (last_before teams g))
      by base true true t f = rw f (base_moves g (suc g) (last_before teams g) (earlier_same h g (λ t. f)) base)
      by base true false t f = rw f (g, t, refl, earlier_next h g f)
      by base false f t free = base_moves g (suc g) (last_before teams g) (earlier_same h g (λ touched. (let bad : false ≡ true = sym t ∙ touched in cc))) base
