-- Deadlines that rise, and still do with one of them in another place.
use Rattle.std.proofs.Common.{◌≡◌, ◌≤◌, ◌<◌, ◌+◌, ◌-◌, ℕ, zero, suc, true, List, None, get_or, set, length, arith, sym, ap, ◌∙◌, inl, inr}
use Rattle.std.proofs.lemmas.Bool.{cases_eq, cases_lt}
use Rattle.std.proofs.lemmas.Bool.Decides.{nat_tests}
use Rattle.std.proofs.lemmas.List.{length-set, get_or-set_same, get_or-set_other}
use Rattle.std.proofs.lemmas.Option.{none-some}
use Rattle.rule_book.specs.Calendar.{first_out_of_order, is_after_previous, is_before_next}
use Rattle.rule_book.proofs.Deadlines.{first_late, none_late}

-- each of the first few is before the next
pub rises_to : (ds : List ℕ) → first_out_of_order ds ≡ None → (i : ℕ) → i ≤ length ds → (k : ℕ) → k + 1 < i → get_or ds k 0 < get_or ds (k + 1) 0
rises_to ds none zero le k lt = absurd (omega (arith, lt))
rises_to ds none (suc i) le k lt = elim (cases_eq (k + 1) i) [
  | inl last ↦ elim (cases_lt (get_or ds k 0) (get_or ds (k + 1) 0)) [
    | inl up ↦ up
    | inr down ↦
        let before : i - 1 ≡ k = omega (arith, last) in
        let late : get_or ds i 0 ≤ get_or ds (i - 1) 0 = omega (arith, down, ap (λ n. get_or ds n 0) last, ap (λ n. get_or ds n 0) before) in
        absurd (none-some (i + 1) (sym none ∙ first_late ds i (omega (arith, last)) (omega (arith, le)) (λ k lt. rises_to ds none i (omega (arith, le)) k lt) late))
  ]
  | inr other ↦ rises_to ds none i (omega (arith, le)) k (omega (arith, lt, other))
]

module _ (ds : List ℕ) (g t : ℕ) (none : first_out_of_order ds ≡ None) (from : 1 ≤ g) (to : g ≤ length ds)
    (after : is_after_previous ds g t ≡ true) (before : is_before_next ds g t ≡ true) where
  new_rises : (k : ℕ) → k + 1 < length (set ds (g - 1) t) → get_or (set ds (g - 1) t) k 0 < get_or (set ds (g - 1) t) (k + 1) 0
  new_rises k lt =
      let long : length (set ds (g - 1) t) ≡ length ds = length-set ds (g - 1) t in
      let same : get_or (set ds (g - 1) t) (g - 1) 0 ≡ t = get_or-set_same ds (g - 1) t 0 (omega arith) in
      elim (cases_eq k (g - 1)) [
        | inl here ↦
            let next : k + 1 ≡ g = omega (arith, here) in
            let up : t < get_or ds g 0 = grind (arith, nat_tests, before, next, lt, long) in
            let apart : k + 1 ≡ g - 1 → ⊥ = λ e. omega (arith, e, here) in
            omega (arith, up, same, ap (λ n. get_or (set ds (g - 1) t) n 0) here, get_or-set_other ds (g - 1) (k + 1) t 0 apart, ap (λ n. get_or ds n 0) next)
        | inr other ↦ elim (cases_eq (k + 1) (g - 1)) [
          | inl here ↦
              let last : g - 2 ≡ k = omega (arith, here) in
              let up : get_or ds (g - 2) 0 < t = grind (arith, nat_tests, after, here) in
              omega (arith, up, same, ap (λ n. get_or (set ds (g - 1) t) n 0) here, get_or-set_other ds (g - 1) k t 0 other, ap (λ n. get_or ds n 0) last)
          | inr also ↦
              omega (arith, rises_to ds none (length ds) (omega arith) k (omega (arith, lt, long)), get_or-set_other ds (g - 1) k t 0 other, get_or-set_other ds (g - 1) (k + 1) t 0 also)
        ]
      ]

  pub still_rise : first_out_of_order (set ds (g - 1) t) ≡ None
  still_rise = none_late (set ds (g - 1) t) new_rises
