-- A gameweek without a row has the team of the last row before it without a free hit.
use Rattle.std.proofs.Common.{◌≡◌, ◌<◌, ◌≤◌, ◌≢◌, ◌∷◌, [], ℕ, Bool, true, false, cond, not, ◌&&◌, ◌||◌, List, Option, Some, None, arith, refl, sym, ap, ◌∙◌, subst, ⊎_elim, nat_eq, nat_lt}
use Rattle.std.specs.List.{flat_map, AllByRecursion as Each}
use Rattle.std.proofs.lemmas.Bool.Decides.{nat_tests}
use Rattle.std.proofs.lemmas.Bool.{cases_eq, cases_lt}
use Rattle.rule_book.specs.History.{Event, last_of, chip_said_in, chip_at, is_free_hit, counts_in, kept, is_touched}
use Rattle.rule_book.specs.HistorySquad.{holdings_of, armbands_of}
use Rattle.rule_book.specs.HistoryTeam.{is_begun}
use Rattle.season_ledger.specs.Rows.{row_at, or_else, is_base, base_at, AllAbove, Rise, carried, standing_at}
use Rattle.season_ledger.proofs.Held.{IsHeld, Holds, RowsHold, StandingHeld}
use Rattle.rule_book.specs.HistoryRules.{IsHistory}
use Rattle.fpl_base.specs.declared.kinds.Chip.TheVariants.{None as NoChip}
use Rattle.season_ledger.specs.declared.row.Standing.{Standing}
use Rattle.season_ledger.specs.declared.row.Row.{Row}
use Rattle.rule_book.specs.HistoryTransfers.{swaps_in}
use Rattle.season_ledger.proofs.Counts.{swaps_untouched}
use Rattle.season_ledger.proofs.Legality.{Headed, headed}
use Rattle.season_ledger.proofs.Lists.{filter_agree_on, each_weaker}

-- a row that is there stands above what all rows stand above
pub above : (rows : List Row) (g v : ℕ) (t : Standing) → AllAbove g rows → row_at rows v ≡ Some t → g < v
above [] g v t a e = cc
above (r ∷ rows) g v t a e = ⊎_elim
    (λ (q : r.gw ≡ v). omega (arith, a.0))
    (λ (n : r.gw ≢ v). let f : nat_eq r.gw v ≡ false = grind (arith, nat_tests) in above rows g v t a.1 (rw f at e))
    (cases_eq r.gw v)

base_none : (rows : List Row) (g v : ℕ) (t : Standing) → base_at rows g ≡ None → v < g → row_at rows v ≡ Some t → is_free_hit t.team.chip ≡ true
base_none [] g v t b lt e = cc
base_none (r ∷ rows) g v t b lt e = ⊎_elim
    (λ (q : r.gw ≡ v). let f : nat_eq r.gw v ≡ true = grind (arith, nat_tests) in let s : r.standing ≡ t = some_same (rw f at e) in
    let k : nat_lt r.gw g ≡ true = grind (arith, nat_tests) in let no : (nat_lt r.gw g && not (is_free_hit r.standing.team.chip)) ≡ false = not_base (base_at rows g) (is_base g r) r b in
    subst (λ (u : Standing). is_free_hit u.team.chip ≡ true) s (is_true (is_free_hit r.standing.team.chip) (rw k at no)))
    (λ (n : r.gw ≢ v). let f : nat_eq r.gw v ≡ false = grind (arith, nat_tests) in base_none rows g v t (no_rest (base_at rows g) _ b) lt (rw f at e))
    (cases_eq r.gw v)
  where
    some_same : {a b : Standing} → Some a ≡ Some b → a ≡ b
    some_same e = cc

    is_true : (b : Bool) → not b ≡ false → b ≡ true
    is_true true e = refl
    is_true false e = cc

    no_rest : (x y : Option Row) → or_else x y ≡ None → x ≡ None
    no_rest None y e = refl
    no_rest (Some r) y e = cc

    not_base : (x : Option Row) (b : Bool) (r : Row) → or_else x (cond b (Some r) None) ≡ None → b ≡ false
    not_base None true r e = cc
    not_base None false r e = refl
    not_base (Some s) b r e = cc

-- the last row before g without a free hit
pub record IsLastBase (rows : List Row) (g : ℕ) (r : Row) : Type 0 where
  pub before : r.gw < g
  pub stays : is_free_hit r.standing.team.chip ≡ false
  pub there : row_at rows r.gw ≡ Some r.standing
  pub rest : (v : ℕ) (t : Standing) → r.gw < v → v < g → row_at rows v ≡ Some t → is_free_hit t.team.chip ≡ true

pub base_some : (rows : List Row) (g : ℕ) (r : Row) → Rise rows → base_at rows g ≡ Some r → IsLastBase rows g r
base_some [] g r rise b = cc
base_some (x ∷ rows) g r rise b = elim (base_at rows g) as (λ o. base_at rows g ≡ o → or_else o (cond (is_base g x) (Some x) None) ≡ Some r → IsLastBase (x ∷ rows) g r)
    [ None ↦ (λ n c. this n c) | Some y ↦ (λ n c. other (base_some rows g r rise.1 (n ∙ c))) ] refl b
  where
    other : IsLastBase rows g r → IsLastBase (x ∷ rows) g r
    other i = let up : x.gw < r.gw = above rows x.gw r.gw r.standing rise.0 i.there in record {
      before = i.before;
      stays = i.stays;
      there = (let f : nat_eq x.gw r.gw ≡ false = grind (arith, nat_tests) in rw f i.there);
      rest = λ v t lt lt2 e. (let f : nat_eq x.gw v ≡ false = grind (arith, nat_tests) in i.rest v t lt lt2 (rw f at e));
    }

    passes : (a b : Bool) → cond (a && not b) (Some x) None ≡ Some r → (a ≡ true) × ((b ≡ false) × (x ≡ r))
    passes true true e = cc
    passes true false e = (refl, (refl, cc))
    passes false b e = cc

    this : base_at rows g ≡ None → cond (is_base g x) (Some x) None ≡ Some r → IsLastBase (x ∷ rows) g r
    this n c = let p = passes (nat_lt x.gw g) (is_free_hit x.standing.team.chip) c in subst (IsLastBase (x ∷ rows) g) p.1.1 (record {
      before = (let k : nat_lt x.gw g ≡ true = p.0 in grind (arith, nat_tests));
      stays = p.1.0;
      there = (let f : nat_eq x.gw x.gw ≡ true = grind (arith, nat_tests) in rw f);
      rest = λ v t lt lt2 e. (let f : nat_eq x.gw v ≡ false = grind (arith, nat_tests) in base_none rows g v t n lt2 (rw f at e));
    })

-- each event's gameweek is touched
pub touched_each : (h : List Event) → Each (λ e. is_touched h e.gw ≡ true) h
touched_each [] = tt
touched_each (x ∷ h) = ((let f : nat_eq x.gw x.gw ≡ true = grind (arith, nat_tests) in rw f), each_weaker (λ e. is_touched h e.gw ≡ true) (λ e. is_touched (x ∷ h) e.gw ≡ true) (λ e t. or_right (nat_eq x.gw e.gw) (is_touched h e.gw) t) h (touched_each h))
  where
    or_right : (a b : Bool) → b ≡ true → (a || b) ≡ true
    or_right true b e = refl
    or_right false b e = e

-- no chip in a gameweek in which nothing was done
pub chip_untouched : (h : List Event) (g : ℕ) → is_touched h g ≡ false → chip_at h g ≡ NoChip
chip_untouched h g n = ap (last_of NoChip) (none h n)
  where
    parts : (a b : Bool) → (a || b) ≡ false → (a ≡ false) × (b ≡ false)
    parts true b e = cc
    parts false b e = (refl, e)

    none : (k : List Event) → is_touched k g ≡ false → flat_map (chip_said_in g) k ≡ []
    none [] t = refl
    none (e ∷ k) t = let p = parts (nat_eq e.gw g) (is_touched k g) t in let f : nat_eq e.gw g ≡ false = p.0 in let r : flat_map (chip_said_in g) k ≡ [] = none k p.1 in rw (f, r)

agree : (v w g : ℕ) (f : Bool) → w < g → v ≢ g → (v ≡ w → f ≡ false) → (w < v → v < g → f ≡ true)
    → (nat_eq v g || (nat_lt v g && not f)) ≡ (nat_eq v w || (nat_lt v w && not f))
agree v w g f lt ne same later = ⊎_elim
    (λ (a : v < w). let e1 : nat_eq v g ≡ false = grind (arith, nat_tests) in let e2 : nat_eq v w ≡ false = grind (arith, nat_tests) in let e3 : nat_lt v g ≡ true = grind (arith, nat_tests) in let e4 : nat_lt v w ≡ true = grind (arith, nat_tests) in rw (e1, e2, e3, e4))
    (λ (a : w ≤ v). ⊎_elim
    (λ (q : v ≡ w). let e0 : f ≡ false = same q in let e1 : nat_eq v g ≡ false = grind (arith, nat_tests) in let e2 : nat_eq v w ≡ true = grind (arith, nat_tests) in let e3 : nat_lt v g ≡ true = grind (arith, nat_tests) in rw (e0, e1, e2, e3))
    (λ (n : v ≢ w). ⊎_elim
    (λ (b : v < g). let e0 : f ≡ true = later (omega arith) b in let e1 : nat_eq v g ≡ false = grind (arith, nat_tests) in let e2 : nat_eq v w ≡ false = grind (arith, nat_tests) in let e3 : nat_lt v g ≡ true = grind (arith, nat_tests) in let e4 : nat_lt v w ≡ false = grind (arith, nat_tests) in rw (e0, e1, e2, e3, e4))
    (λ (b : g ≤ v). let e1 : nat_eq v g ≡ false = grind (arith, nat_tests) in let e2 : nat_eq v w ≡ false = grind (arith, nat_tests) in let e3 : nat_lt v g ≡ false = grind (arith, nat_tests) in let e4 : nat_lt v w ≡ false = grind (arith, nat_tests) in rw (e1, e2, e3, e4))
    (cases_lt v g))
    (cases_eq v w))
    (cases_lt v w)

-- a touched gameweek has a row
pub row_there : (h : List Event) (v : ℕ) (o : Option Standing) → Holds h v o → is_touched h v ≡ true → (t : Standing) × (o ≡ Some t) × IsHeld h v t
row_there h v None n y = absurd (true_false (sym y ∙ n))
  where
    true_false : true ≡ false → ⊥
    true_false e = cc
row_there h v (Some t) p y = (t, refl, p.1)

same_counts : (rows : List Row) (h : List Event) (g : ℕ) (r : Row) → RowsHold rows h → is_touched h g ≡ false → IsLastBase rows g r
    → (v : ℕ) → is_touched h v ≡ true → counts_in h g v ≡ counts_in h r.gw v
same_counts rows h g r s n i v y =
    let p = row_there h v (row_at rows v) (s.told v) y in
    let ne : v ≢ g = λ q. (let bad : is_touched h g ≡ true = subst (λ w. is_touched h w ≡ true) q y in cc) in
    let same : v ≡ r.gw → is_free_hit (chip_at h v) ≡ false = λ q. (let o : row_at rows v ≡ Some r.standing = subst (λ w. row_at rows w ≡ Some r.standing) (sym q) i.there in
    let u : r.standing ≡ p.0 = cc in subst (λ c. is_free_hit c ≡ false) p.2.chip (subst (λ (t : Standing). is_free_hit t.team.chip ≡ false) u i.stays)) in
    let later : r.gw < v → v < g → is_free_hit (chip_at h v) ≡ true = λ a b. subst (λ c. is_free_hit c ≡ true) p.2.chip (i.rest v p.0 a b p.1) in
    agree v r.gw g (is_free_hit (chip_at h v)) i.before ne same later

kept_carried : (rows : List Row) (h : List Event) (g : ℕ) (r : Row) → RowsHold rows h → is_touched h g ≡ false → IsLastBase rows g r → kept h g ≡ kept h r.gw
kept_carried rows h g r s n i = filter_agree_on (λ e. counts_in h g e.gw) (λ e. counts_in h r.gw e.gw) h
    (each_weaker (λ e. is_touched h e.gw ≡ true) (λ e. counts_in h g e.gw ≡ counts_in h r.gw e.gw) (λ e y. same_counts rows h g r s n i e.gw y) h (touched_each h))

along : (h : List Event) (g w : ℕ) (t : Standing) → kept h g ≡ kept h w → chip_at h g ≡ NoChip → swaps_in h g ≡ 0 → IsHeld h w t → IsHeld h g (record { made = 0; team = record t.team { chip = NoChip } })
along h g w t e c n i = record {
  squad = i.squad ∙ ap holdings_of (sym e);
  captain = i.captain ∙ ap (λ es. (armbands_of es).0) (sym e);
  vice = i.vice ∙ ap (λ es. (armbands_of es).1) (sym e);
  bank = rw e i.bank;
  chip = sym c;
  made = sym n;
}

-- the head is in the first gameweek, and nothing is before it
begun_from : (h : List Event) (g w : ℕ) → Headed h → is_touched h w ≡ true → w ≤ g → is_begun h g ≡ true
begun_from [] g w k t le = cc
begun_from (e ∷ h) g w k t le = let l : e.gw ≤ w = k.least w t in grind (arith, nat_tests)

-- the team that stands in g by the rows is that of every history that they stand for
pub standing_told : (rows : List Row) (h : List Event) (g : ℕ) → Rise rows → IsHistory h → RowsHold rows h → StandingHeld h g (standing_at rows g)
standing_told rows h g rise k s = elim (row_at rows g) as (λ o. row_at rows g ≡ o → Holds h g o → StandingHeld h g (or_else o (carried (base_at rows g))))
    [ Some t ↦ (λ _ i. (begun_from h g g (headed h k) i.0 (omega arith), i.1)) | None ↦ (λ _ n. bases (base_at rows g) refl n) ] refl (s.told g)
  where
    not_begun : (l : List Event) → Headed l → RowsHold rows l → base_at rows g ≡ None → is_touched l g ≡ false → is_begun l g ≡ false
    not_begun [] hd st e n = refl
    not_begun (v ∷ l) hd st e n = ⊎_elim
        (λ (lt : g < v.gw). grind (arith, nat_tests))
        (λ (le : v.gw ≤ g). ⊎_elim
        (λ (q : v.gw ≡ g). let u : nat_eq v.gw g ≡ true = grind (arith, nat_tests) in let bad : true ≡ false = rw u at n in cc)
        (λ (ne : v.gw ≢ g). let here : is_touched (v ∷ l) v.gw ≡ true = (let u : nat_eq v.gw v.gw ≡ true = grind (arith, nat_tests) in rw u refl) in
        let r = row_there (v ∷ l) v.gw (row_at rows v.gw) (st.told v.gw) here in
        let free : is_free_hit r.0.team.chip ≡ true = base_none rows g v.gw r.0 e (omega arith) r.1 in
        let none : is_free_hit (chip_at (v ∷ l) v.gw) ≡ false = hd.bare in
        let c : r.0.team.chip ≡ chip_at (v ∷ l) v.gw = r.2.chip in
        let both : true ≡ false = sym free ∙ ap is_free_hit c ∙ none in cc)
        (cases_eq v.gw g))
        (cases_lt g v.gw)

    bases : (o : Option Row) → base_at rows g ≡ o → is_touched h g ≡ false → StandingHeld h g (carried o)
    bases None e n = not_begun h (headed h k) s e n
    bases (Some r) e n = let i = base_some rows g r rise e in
        let p : Holds h r.gw (Some r.standing) = subst (Holds h r.gw) i.there (s.told r.gw) in
        let m : r.gw < g = i.before in
        (begun_from h g r.gw (headed h k) p.0 (omega arith), along h g r.gw r.standing (kept_carried rows h g r s n i) (chip_untouched h g n) (swaps_untouched h g n) p.1)
