-- Rows tell what each gameweek used, its chip and the first gameweek.
use Rattle.std.proofs.Common.{◌≡◌, ◌<◌, ◌≤◌, ◌+◌, ◌-◌, ◌≢◌, ◌∷◌, [], ℕ, zero, suc, Bool, true, false, cond, List, Option, Some, None, arith, refl, sym, ap, ⊎_elim, nat_eq, nat_lt}
use Rattle.std.proofs.lemmas.Bool.Decides.{nat_tests}
use Rattle.std.proofs.lemmas.Bool.{cases_eq}
use Rattle.fpl_base.specs.declared.kinds.Chip.{Chip}
use Rattle.fpl_base.specs.declared.kinds.Profile.{Profile}
use Rattle.rule_book.specs.History.{Event, chip_at, is_touched}
use Rattle.rule_book.specs.HistoryRules.{first_gw, IsHistory}
use Rattle.rule_book.specs.HistoryTransfers.{swaps_in, free_from, free_at, cost_at, counted_from, counted_through, is_past_first, FreeTold}
use Rattle.season_ledger.specs.declared.row.Standing.{Standing}
use Rattle.season_ledger.specs.declared.row.Row.{Row}
use Rattle.season_ledger.specs.Rows.{Rise, AllAbove, row_at, chip_in, made_in, first_row, used_by, chip_by, is_past, free_by, free_in, cost_by, counted_by}
use Rattle.season_ledger.proofs.Held.{RowsHold, Holds, Stands}
use Rattle.season_ledger.proofs.Counts.{swaps_untouched}
use Rattle.season_ledger.proofs.Steps.{nothing_done}
use Rattle.season_ledger.proofs.Legality.{headed}
use Rattle.season_ledger.proofs.Carry.{chip_untouched, row_there}

pub chip_is : (rows : List Row) (h : List Event) (g : ℕ) → RowsHold rows h → chip_by rows g ≡ chip_at h g
chip_is rows h g s = by_row (row_at rows g) (s.told g)
  where
    by_row : (o : Option Standing) → Holds h g o → chip_in o ≡ chip_at h g
    by_row None n = sym (chip_untouched h g n)
    by_row (Some t) i = i.1.chip

pub used_is : (rows : List Row) (h : List Event) (g : ℕ) → RowsHold rows h → used_by rows g ≡ swaps_in h g
used_is rows h g s = by_row (row_at rows g) (s.told g)
  where
    by_row : (o : Option Standing) → Holds h g o → made_in o ≡ swaps_in h g
    by_row None n = sym (swaps_untouched h g n)
    by_row (Some t) i = i.1.made

-- a row that is there is not before the first
not_before : (rows : List Row) (v : ℕ) (t : Standing) → Rise rows → row_at rows v ≡ Some t → first_row rows ≤ v
not_before [] v t rise e = cc
not_before (r ∷ rows) v t rise e = ⊎_elim
    (λ (q : r.gw ≡ v). omega arith)
    (λ (n : r.gw ≢ v). let f : nat_eq r.gw v ≡ false = grind (arith, nat_tests) in let l : r.gw < v = above rows r.gw v rise.0 (rw f at e) in omega arith)
    (cases_eq r.gw v)
  where
    above : (rows : List Row) (g v : ℕ) → AllAbove g rows → row_at rows v ≡ Some t → g < v
    above [] g v a e = cc
    above (x ∷ xs) g v a e = ⊎_elim
        (λ (q : x.gw ≡ v). omega (arith, a.0))
        (λ (n : x.gw ≢ v). let f : nat_eq x.gw v ≡ false = grind (arith, nat_tests) in above xs g v a.1 (rw f at e))
        (cases_eq x.gw v)

pub first_is : (rows : List Row) (h : List Event) → Rise rows → IsHistory h → RowsHold rows h → first_row rows ≡ first_gw h
first_is rows [] rise k s = empty rows s
  where
    empty : (rows : List Row) → RowsHold rows [] → first_row rows ≡ 0
    empty [] s = refl
    empty (r ∷ rows) s = let u : nat_eq r.gw r.gw ≡ true = grind (arith, nat_tests) in let p : Holds [] r.gw (cond (nat_eq r.gw r.gw) (Some r.standing) (row_at rows r.gw)) = s.told r.gw in
        let q : Holds [] r.gw (Some r.standing) = rw u at p in let bad : false ≡ true = q.0 in cc
first_is rows (e ∷ h) rise k s =
    let here : is_touched (e ∷ h) e.gw ≡ true = (let u : nat_eq e.gw e.gw ≡ true = grind (arith, nat_tests) in rw u refl) in
    let r = row_there (e ∷ h) e.gw (row_at rows e.gw) (s.told e.gw) here in
    let a : first_row rows ≤ e.gw = not_before rows e.gw r.0 rise r.1 in
    let b : e.gw ≤ first_row rows = least rows s r.0 r.1 in omega arith
  where
    least : (rows : List Row) → RowsHold rows (e ∷ h) → (t : Standing) → row_at rows e.gw ≡ Some t → e.gw ≤ first_row rows
    least [] s t q = cc
    least (x ∷ xs) s t q = let u : nat_eq x.gw x.gw ≡ true = grind (arith, nat_tests) in let p : Holds (e ∷ h) x.gw (cond (nat_eq x.gw x.gw) (Some x.standing) (row_at xs x.gw)) = s.told x.gw in
        let p2 : Holds (e ∷ h) x.gw (Some x.standing) = rw u at p in (headed (e ∷ h) k).least x.gw p2.0

free_agree : (p : Profile) (u v : ℕ → ℕ) (c d : ℕ → Chip) (s k : ℕ) → ((g : ℕ) → u g ≡ v g) → ((g : ℕ) → c g ≡ d g) → free_from p u c s k ≡ free_from p v d s k
free_agree p u v c d s zero e f = refl
free_agree p u v c d s (suc k) e f = let i : free_from p u c s k ≡ free_from p v d s k = free_agree p u v c d s k e f in rw (i, e ((s + 1) + k), f ((s + 1) + k)) refl

counted_agree : (u v : ℕ → ℕ) (c d : ℕ → Chip) (s k : ℕ) → ((g : ℕ) → u g ≡ v g) → ((g : ℕ) → c g ≡ d g) → counted_from u c s k ≡ counted_from v d s k
counted_agree u v c d s zero e f = refl
counted_agree u v c d s (suc k) e f = let i : counted_from u c s k ≡ counted_from v d s k = counted_agree u v c d s k e f in rw (i, e (suc k), f (suc k)) refl

pub past_told : (rows : List Row) (h : List Event) (g : ℕ) → Rise rows → Stands rows h → is_past rows g ≡ is_past_first h g
past_told [] h g rise st = ap (λ l. is_past_first l g) (sym (nothing_done h st.held))
past_told (r ∷ rows) [] g rise st =
    let u : nat_eq r.gw r.gw ≡ true = grind (arith, nat_tests) in
    let p : Holds [] r.gw (cond (nat_eq r.gw r.gw) (Some r.standing) (row_at rows r.gw)) = st.held.told r.gw in
    let q : Holds [] r.gw (Some r.standing) = rw u at p in let bad : false ≡ true = q.0 in cc
past_told (r ∷ rows) (e ∷ h) g rise st = ap (λ n. nat_lt n g) (first_is (r ∷ rows) (e ∷ h) rise st.history st.held)

pub free_told : (p : Profile) (rows : List Row) (h : List Event) (g : ℕ) → Rise rows → Stands rows h → free_by p rows g ≡ free_at p h g
free_told p rows h g rise st = rw (first_is rows h rise st.history st.held)
    (free_agree p (used_by rows) (swaps_in h) (chip_by rows) (chip_at h) (first_gw h) (g - (first_gw h + 1)) (λ w. used_is rows h w st.held) (λ w. chip_is rows h w st.held))

pub free_in_told : (p : Profile) (rows : List Row) (h : List Event) (g : ℕ) → Rise rows → Stands rows h → FreeTold p h g (free_in p rows g)
free_in_told p rows h g rise st = by_case (is_past rows g) (past_told rows h g rise st)
  where
    by_case : (b : Bool) → b ≡ is_past_first h g → FreeTold p h g (cond b (Some (free_by p rows g)) None)
    by_case true e = (sym e, free_told p rows h g rise st)
    by_case false e = sym e

pub cost_told : (p : Profile) (rows : List Row) (h : List Event) (g : ℕ) → Rise rows → Stands rows h → cost_by p rows g ≡ cost_at p h g
cost_told p rows h g rise st = rw (past_told rows h g rise st, free_told p rows h g rise st, used_is rows h g st.held, chip_is rows h g st.held) refl

pub counted_told : (rows : List Row) (h : List Event) (g : ℕ) → Rise rows → Stands rows h → counted_by rows g ≡ counted_through h g
counted_told rows h g rise st = rw (first_is rows h rise st.history st.held)
    (counted_agree (used_by rows) (swaps_in h) (chip_by rows) (chip_at h) (first_gw h) g (λ w. used_is rows h w st.held) (λ w. chip_is rows h w st.held))
