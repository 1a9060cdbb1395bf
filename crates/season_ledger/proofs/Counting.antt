-- The transfers that a table counts, by one pass over the rows.
use Rattle.std.proofs.Common.{◌≡◌, ◌<◌, ◌≤◌, ◌≢◌, ◌+◌, ◌∷◌, [], ℕ, zero, suc, Bool, true, false, cond, not, ◌&&◌, ◌||◌, List, Some, ⊎_elim, refl, sym, ap, ◌∙◌, subst, arith, nat_eq, nat_le}
use Rattle.std.specs.List.{sum_by}
use Rattle.std.proofs.lemmas.Bool.Decides.{nat_tests}
use Rattle.std.proofs.lemmas.Bool.{cases_eq, cases_lt}
use Rattle.std.proofs.lemmas.List.Sums.{sum_by-cons}
use Rattle.rule_book.specs.HistoryTransfers.{makes_free, counted_from}
use Rattle.season_ledger.specs.declared.row.Row.{Row}
use Rattle.season_ledger.specs.Rows.{AllAbove, Rise, chip_by, chip_in, made_in, row_at, used_by}

-- whether the transfers of a row are among those of gameweeks 1 to g
abbrev pub is_counted : ℕ → ℕ → Row → Bool
is_counted first g r = nat_le r.gw g && (nat_le 1 r.gw && not (nat_eq r.gw first || makes_free r.standing.team.chip))

-- what a row adds
abbrev pub counted_row : ℕ → ℕ → Row → ℕ
counted_row first g r = cond (is_counted first g r) r.standing.made 0

-- what a gameweek adds
abbrev term : List Row → ℕ → ℕ → ℕ
term rows first w = cond (nat_eq w first || makes_free (chip_by rows w)) 0 (used_by rows w)

-- a row behind g adds nothing, and one of gameweek 0 neither
row_behind : (r : Row) (first g : ℕ) → nat_le r.gw g ≡ false → counted_row first g r ≡ 0
row_behind r first g t = ap (λ b. cond (b && (nat_le 1 r.gw && not (nat_eq r.gw first || makes_free r.standing.team.chip))) r.standing.made 0) t

none_of : (rows : List Row) (first g h : ℕ) → AllAbove h rows → g ≤ h → sum_by (counted_row first g) rows ≡ 0
none_of [] first g h above le = refl
none_of (r ∷ rows) first g h above le =
    let lt : h < r.gw = above.0 in
    let t : nat_le r.gw g ≡ false = grind (arith, nat_tests) in
    let e : counted_row first g r ≡ 0 = row_behind r first g t in
    let ih : sum_by (counted_row first g) rows ≡ 0 = none_of rows first g h above.1 le in
    let k : counted_row first g r + sum_by (counted_row first g) rows ≡ 0 = omega arith in
    sum_by-cons (counted_row first g) r rows ∙ k

none_by_zero : (first : ℕ) (rows : List Row) → sum_by (counted_row first 0) rows ≡ 0
none_by_zero first [] = refl
none_by_zero first (r ∷ rows) =
    let ih : sum_by (counted_row first 0) rows ≡ 0 = none_by_zero first rows in
    let e : counted_row first 0 r ≡ 0 = ⊎_elim
    (λ (z : r.gw ≡ 0). ap (λ w. cond (nat_le w 0 && (nat_le 1 w && not (nat_eq w first || makes_free r.standing.team.chip))) r.standing.made 0) z)
    (λ (n : r.gw ≢ 0). row_behind r first 0 (grind (arith, nat_tests))) (cases_eq r.gw 0) in
    let k : counted_row first 0 r + sum_by (counted_row first 0) rows ≡ 0 = omega arith in
    sum_by-cons (counted_row first 0) r rows ∙ k

both : (b : Bool) → cond {A = ℕ} b 0 0 ≡ 0
both true = refl
both false = refl

turned : (b : Bool) (x : ℕ) → cond (not b) x 0 ≡ cond b 0 x
turned true x = refl
turned false x = refl

step : (rows : List Row) → Rise rows → (first g : ℕ) → sum_by (counted_row first (suc g)) rows ≡ sum_by (counted_row first g) rows + term rows first (suc g)
step [] rise first g = let z : term [] first (suc g) ≡ 0 = both (nat_eq (suc g) first || false) in let k : 0 ≡ 0 + term [] first (suc g) = omega arith in k
step (r ∷ rows) rise first g = ⊎_elim (same (step rows rise.1 first g)) (other (step rows rise.1 first g)) (cases_eq r.gw (suc g))
  where
    Rest : Type 0
    Rest = sum_by (counted_row first (suc g)) rows ≡ sum_by (counted_row first g) rows + term rows first (suc g)

    free : Bool
    free = makes_free r.standing.team.chip

    same : Rest → r.gw ≡ suc g → sum_by (counted_row first (suc g)) (r ∷ rows) ≡ sum_by (counted_row first g) (r ∷ rows) + term (r ∷ rows) first (suc g)
    same ih e =
        let above : AllAbove (suc g) rows = subst (λ h. AllAbove h rows) e rise.0 in
        let t : nat_eq r.gw (suc g) ≡ true = grind (arith, nat_tests) in
        let u : nat_le r.gw (suc g) ≡ true = grind (arith, nat_tests) in
        let v : nat_le 1 r.gw ≡ true = grind (arith, nat_tests) in
        let w : nat_le r.gw g ≡ false = grind (arith, nat_tests) in
        let here : counted_row first (suc g) r ≡ cond (nat_eq r.gw first || free) 0 r.standing.made
        = ap (λ b. cond (b && (nat_le 1 r.gw && not (nat_eq r.gw first || free))) r.standing.made 0) u
        ∙ ap (λ b. cond (b && not (nat_eq r.gw first || free)) r.standing.made 0) v
        ∙ turned (nat_eq r.gw first || free) r.standing.made in
        let told : term (r ∷ rows) first (suc g) ≡ cond (nat_eq r.gw first || free) 0 r.standing.made
        = ap (λ b. cond (nat_eq (suc g) first || makes_free (chip_in (cond b (Some r.standing) (row_at rows (suc g))))) 0 (made_in (cond b (Some r.standing) (row_at rows (suc g))))) t
        ∙ ap (λ x. cond (nat_eq x first || free) 0 r.standing.made) (sym e) in
        let before : counted_row first g r ≡ 0 = row_behind r first g w in
        let rest : sum_by (counted_row first (suc g)) rows ≡ 0 = none_of rows first (suc g) (suc g) above (omega arith) in
        let rest_before : sum_by (counted_row first g) rows ≡ 0 = none_of rows first g (suc g) above (omega arith) in
        let now : sum_by (counted_row first (suc g)) (r ∷ rows) ≡ counted_row first (suc g) r + sum_by (counted_row first (suc g)) rows = sum_by-cons (counted_row first (suc g)) r rows in
        let then : sum_by (counted_row first g) (r ∷ rows) ≡ counted_row first g r + sum_by (counted_row first g) rows = sum_by-cons (counted_row first g) r rows in
        omega arith

    other : Rest → r.gw ≢ suc g → sum_by (counted_row first (suc g)) (r ∷ rows) ≡ sum_by (counted_row first g) (r ∷ rows) + term (r ∷ rows) first (suc g)
    other ih n =
        let t : nat_eq r.gw (suc g) ≡ false = grind (arith, nat_tests) in
        let u : nat_le r.gw (suc g) ≡ nat_le r.gw g = ⊎_elim
        (λ (h : r.gw < suc g). let a : nat_le r.gw (suc g) ≡ true = grind (arith, nat_tests) in let b : nat_le r.gw g ≡ true = grind (arith, nat_tests) in a ∙ sym b)
        (λ (h : suc g ≤ r.gw). let a : nat_le r.gw (suc g) ≡ false = grind (arith, nat_tests) in let b : nat_le r.gw g ≡ false = grind (arith, nat_tests) in a ∙ sym b)
        (cases_lt r.gw (suc g)) in
        let here : counted_row first (suc g) r ≡ counted_row first g r
        = ap (λ b. cond (b && (nat_le 1 r.gw && not (nat_eq r.gw first || free))) r.standing.made 0) u in
        let told : term (r ∷ rows) first (suc g) ≡ term rows first (suc g)
        = ap (λ b. cond (nat_eq (suc g) first || makes_free (chip_in (cond b (Some r.standing) (row_at rows (suc g))))) 0 (made_in (cond b (Some r.standing) (row_at rows (suc g))))) t in
        let now : sum_by (counted_row first (suc g)) (r ∷ rows) ≡ counted_row first (suc g) r + sum_by (counted_row first (suc g)) rows = sum_by-cons (counted_row first (suc g)) r rows in
        let then : sum_by (counted_row first g) (r ∷ rows) ≡ counted_row first g r + sum_by (counted_row first g) rows = sum_by-cons (counted_row first g) r rows in
        omega arith

pub one_pass : (rows : List Row) → Rise rows → (first g : ℕ) → sum_by (counted_row first g) rows ≡ counted_from (used_by rows) (chip_by rows) first g
one_pass rows rise first zero = none_by_zero first rows
one_pass rows rise first (suc g) = step rows rise first g ∙ ap (λ n. n + term rows first (suc g)) (one_pass rows rise first g)

-- the gameweek of a row is above that of the one before it
pub rises : (last w : ℕ) → (0 < last → last < w) → 1 ≤ w → last < w
rises last w h one = ⊎_elim (λ (e : last ≡ 0). omega arith) (λ (n : last ≢ 0). h (omega arith)) (cases_eq last 0)
