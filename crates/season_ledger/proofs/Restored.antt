-- Rows made of records: they are in order, fit, and stand for every history whose records these are.
use Rattle.std.proofs.Common.{◌≡◌, ◌<◌, ◌≤◌, ◌+◌, ◌*◌, ◌≢◌, ◌∷◌, [], ◌++◌, ℕ, zero, suc, Bool, true, false, cond, not, ◌&&◌, List, Option, Some, None, length, arith, refl, sym, ap, ◌∙◌, subst, ⊎_elim, nat_eq, nat_lt}
use Rattle.std.specs.List.{AllByRecursion as Each}
use Rattle.std.proofs.lemmas.Bool.Decides.{nat_tests}
use Rattle.std.proofs.lemmas.Bool.{cases_eq, cases_lt}
use Rattle.fpl_base.specs.declared.kinds.Position.{Position}
use Rattle.rule_book.specs.declared.team.Pick.{Pick}
use Rattle.rule_book.specs.declared.team.Team.{Team}
use Rattle.rule_book.specs.declared.transfers.Sale.{Sale}
use Rattle.rule_book.specs.History.{Deed, Event, is_free_hit}
use Rattle.rule_book.specs.History.Deed.{First, Swap, Lineup, Play, Cancel}
use Rattle.rule_book.specs.HistoryRules.{IsHistory}
use Rattle.rule_book.specs.HistoryTransfers.{is_swap, swaps_in}
use Rattle.rule_book.specs.HistoryTeam.{holdings}
use Rattle.rule_book.specs.EntryRecords.{team_recorded, sales_in, sold_by, sold_in, TeamRecorded, HasRecords, AllLater, TeamsRise, IsPriced, IsPricedSale, IsFifteen, earned_for, paid_for, team_before, later_of, FollowsOn, RecordFollows, FirstIsBare, AreEntryRecords}
use Rattle.season_ledger.specs.declared.row.Standing.{Standing}
use Rattle.season_ledger.specs.Rows.{row_at, AllAbove, Rise, IsBare, IsFit, IsFitTeam, IsKept, rows_of_records}
use Rattle.season_ledger.specs.Stands.{Tells, StandsFor}

-- what a row has by the records
standing_recorded : ℕ → Option Team → Option Standing
standing_recorded made None = None
standing_recorded made (Some t) = Some (record { made = made; team = t })

row_recorded : (teams : List (ℕ × Team)) (sales : List (ℕ × Sale)) (g : ℕ) → row_at (rows_of_records teams sales) g ≡ standing_recorded (length (sales_in sales g)) (team_recorded teams g)
unfolding standing_recorded
row_recorded [] sales g = refl
row_recorded (t ∷ teams) sales g = ⊎_elim
    (λ (q : t.0 ≡ g). let u : nat_eq t.0 g ≡ true = grind (arith, nat_tests) in rw u (ap {B = Option Standing} (λ w. Some (record { made = length (sales_in sales w); team = t.1 })) q))
    (λ (n : t.0 ≢ g). let u : nat_eq t.0 g ≡ false = grind (arith, nat_tests) in rw u (row_recorded teams sales g))
    (cases_eq t.0 g)

above_rows : (g : ℕ) (teams : List (ℕ × Team)) (sales : List (ℕ × Sale)) → AllLater g teams → AllAbove g (rows_of_records teams sales)
above_rows g [] sales a = tt
above_rows g (t ∷ teams) sales a = (a.0, above_rows g teams sales a.1)

rise_rows : (teams : List (ℕ × Team)) (sales : List (ℕ × Sale)) → TeamsRise teams → Rise (rows_of_records teams sales)
rise_rows [] sales r = tt
rise_rows (t ∷ teams) sales r = (above_rows t.0 teams sales r.0, rise_rows teams sales r.1)

bare_rows : (teams : List (ℕ × Team)) (sales : List (ℕ × Sale)) → FirstIsBare teams → IsBare (rows_of_records teams sales)
bare_rows [] sales b = tt
bare_rows (t ∷ teams) sales b = b

-- a record that is there is later than what all are later than
later_there : (g : ℕ) (teams : List (ℕ × Team)) (v : ℕ) (t : Team) → AllLater g teams → team_recorded teams v ≡ Some t → g < v
later_there g [] v t a e = cc
later_there g (x ∷ teams) v t a e = ⊎_elim
    (λ (q : x.0 ≡ v). omega (arith, a.0))
    (λ (n : x.0 ≢ v). let f : nat_eq x.0 v ≡ false = grind (arith, nat_tests) in later_there g teams v t a.1 (rw f at e))
    (cases_eq x.0 v)

-- the team before stands in an earlier gameweek
before_there : (teams : List (ℕ × Team)) (g : ℕ) (t : Team) → TeamsRise teams → team_before teams g ≡ Some t → (v : ℕ) × (v < g) × (team_recorded teams v ≡ Some t)
before_there [] g t r e = cc
before_there (x ∷ teams) g t r e = by_rest (λ n. before_there teams g t r.1 n) (team_before teams g) refl e
  where
    own : (b : Bool) → cond (nat_lt x.0 g && b) (Some x.1) None ≡ Some t → (x.0 < g) × (x.1 ≡ t)
    own b q = ⊎_elim
        (λ (l : x.0 < g). (l, taken b (let f : nat_lt x.0 g ≡ true = grind (arith, nat_tests) in rw f at q)))
        (λ (l : g ≤ x.0). let f : nat_lt x.0 g ≡ false = grind (arith, nat_tests) in let bad : None ≡ Some t = rw f at q in cc)
        (cases_lt x.0 g)
      where
        taken : (b : Bool) → cond b (Some x.1) None ≡ Some t → x.1 ≡ t
        taken true q = cc
        taken false q = cc

    by_rest : (team_before teams g ≡ Some t → (v : ℕ) × (v < g) × (team_recorded teams v ≡ Some t)) → (o : Option Team) → team_before teams g ≡ o → later_of o (cond (nat_lt x.0 g && not (is_free_hit x.1.chip)) (Some x.1) None) ≡ Some t → (v : ℕ) × (v < g) × (team_recorded (x ∷ teams) v ≡ Some t)
    by_rest ih None n q = let p = own (not (is_free_hit x.1.chip)) q in (x.0, p.0, (let u : nat_eq x.0 x.0 ≡ true = grind (arith, nat_tests) in rw u (ap Some p.1)))
    by_rest ih (Some y) n q = let p = ih (n ∙ q) in let l : x.0 < p.0 = later_there x.0 teams p.0 t r.0 p.2 in (p.0, p.1, (let u : nat_eq x.0 p.0 ≡ false = grind (arith, nat_tests) in rw u p.2))

earned_most : (sales : List (ℕ × Sale)) (g : ℕ) → Each (λ s. IsPricedSale s.1) sales → earned_for (sales_in sales g) ≤ 200 * length (sales_in sales g)
earned_most [] g h = omega arith
earned_most (s ∷ sales) g h = let i : earned_for (sales_in sales g) ≤ 200 * length (sales_in sales g) = earned_most sales g h.1 in let a : s.1.sold ≤ 200 = h.0.1 in
    elim (nat_eq s.0 g) as (λ b. earned_for (cond b (s.1 ∷ sales_in sales g) (sales_in sales g)) ≤ 200 * length (cond b (s.1 ∷ sales_in sales g) (sales_in sales g))) [ true ↦ (omega arith) | false ↦ i ]

-- by strong induction on the gameweek
bank_below : (first : Option ℕ) (teams : List (ℕ × Team)) (sales : List (ℕ × Sale)) → AreEntryRecords first teams sales → (n w : ℕ) (t : Team) → w < n → team_recorded teams w ≡ Some t → t.bank + 200000 ≤ (1000 + 200000 * w) + 200 * length (sales_in sales w)
bank_below first teams sales r zero w t lt e = absurd (omega arith)
bank_below first teams sales r (suc n) w t lt e = by_base (λ v u k q. bank_below first teams sales r n v u k q) (team_before teams w) refl (subst (RecordFollows (team_before teams w) (sales_in sales w)) e (r.follow w)).0
  where
    from_one : 0 < w
    from_one = later_there 0 teams w t r.from_one e

    by_base : ((v : ℕ) (u : Team) → v < n → team_recorded teams v ≡ Some u → u.bank + 200000 ≤ (1000 + 200000 * v) + 200 * length (sales_in sales v)) → (o : Option Team) → team_before teams w ≡ o → FollowsOn o (sales_in sales w) t → t.bank + 200000 ≤ (1000 + 200000 * w) + 200 * length (sales_in sales w)
    by_base ih None q f = let x : t.bank + (f.0 + paid_for (sales_in sales w)) ≡ 1000 + earned_for (sales_in sales w) = f.3 in let y = earned_most sales w r.priced in let z = from_one in omega (arith, x, y, z)
    by_base ih (Some u) q f =
        let p = before_there teams w u r.rise q in
        let before : p.0 < w = p.1 in
        let h : u.bank + 200000 ≤ (1000 + 200000 * p.0) + 200 * length (sales_in sales p.0) = ih p.0 u (omega arith) p.2 in
        let few : length (sales_in sales p.0) ≤ 1000 = r.few p.0 in
        let x : t.bank + paid_for (sales_in sales w) ≡ u.bank + earned_for (sales_in sales w) = f.1 in let y = earned_most sales w r.priced in omega (arith, x, y, h, few, before)

fifteen_fit : (t : Team) → IsFifteen t → IsFitTeam t
fifteen_fit t f = record { different = f.different; priced = prices t.picks f.priced }
  where
    prices : (ks : List Pick) → Each IsPriced (holdings ks) → Each (λ k. k.bought ≤ 200) ks
    prices [] h = tt
    prices (k ∷ ks) h = (h.0.1, prices ks h.1)

fit_rows : (first : Option ℕ) (teams : List (ℕ × Team)) (sales : List (ℕ × Sale)) → AreEntryRecords first teams sales → (l : List (ℕ × Team)) → ((g : ℕ) (t : Team) → team_recorded l g ≡ Some t → team_recorded teams g ≡ Some t) → TeamsRise l → Each (λ r. IsFit r.gw r.standing) (rows_of_records l sales)
fit_rows first teams sales r [] same rise = tt
fit_rows first teams sales r (x ∷ l) same rise = (own (same x.0 x.1 (let u : nat_eq x.0 x.0 ≡ true = grind (arith, nat_tests) in rw u refl)), fit_rows first teams sales r l rest rise.1)
  where
    own : team_recorded teams x.0 ≡ Some x.1 → IsFit x.0 (record { made = length (sales_in sales x.0); team = x.1 })
    own e = record {
      few = r.few x.0;
      bank = bank_below first teams sales r (x.0 + 1) x.0 x.1 (omega arith) e;
      team = fifteen_fit x.1 (subst (RecordFollows (team_before teams x.0) (sales_in sales x.0)) e (r.follow x.0)).1;
    }

    rest : (g : ℕ) (t : Team) → team_recorded l g ≡ Some t → team_recorded teams g ≡ Some t
    rest g t e = let lt : x.0 < g = later_there x.0 l g t rise.0 e in same g t (let u : nat_eq x.0 g ≡ false = grind (arith, nat_tests) in rw u e)

pub kept_rows : (teams : List (ℕ × Team)) (sales : List (ℕ × Sale)) → (first : Option ℕ) × AreEntryRecords first teams sales → IsKept (rows_of_records teams sales)
kept_rows teams sales p = record { rise = rise_rows teams sales p.1.rise; bare = bare_rows teams sales p.1.bare; fit = fit_rows p.0 teams sales p.1 teams (λ g t e. e) p.1.rise }

-- a history has as many transfers as swaps
pub sold_count : (h : List Event) (g : ℕ) → length (sold_in h g) ≡ swaps_in h g
sold_count [] g = refl
sold_count (e ∷ h) g = by_deed e.deed (nat_eq e.gw g) (sold_count h g)
  where
    by_deed : (d : Deed) (b : Bool) → length (sold_in h g) ≡ swaps_in h g → length (cond b (sold_by d ++ sold_in h g) (sold_in h g)) ≡ cond (b && is_swap d) (suc (swaps_in h g)) (swaps_in h g)
    by_deed (First squad captain vice) true i = i
    by_deed (First squad captain vice) false i = i
    by_deed (Swap sale) true i = ap suc i
    by_deed (Swap sale) false i = i
    by_deed (Lineup players captain vice) true i = i
    by_deed (Lineup players captain vice) false i = i
    by_deed (Play chip) true i = i
    by_deed (Play chip) false i = i
    by_deed Cancel true i = i
    by_deed Cancel false i = i

pub rows_stand : (teams : List (ℕ × Team)) (sales : List (ℕ × Sale)) (position : ℕ → Position) (h : List Event) → Rise (rows_of_records teams sales) → IsHistory h → HasRecords position h teams sales → StandsFor position (rows_of_records teams sales) h
unfolding standing_recorded
rows_stand teams sales position h rise k r = record { rise = rise; history = k; told = λ g. subst (Tells position h g) (sym (row_recorded teams sales g)) (one g (team_recorded teams g) (r.teams_told g)) }
  where
    one : (g : ℕ) (o : Option Team) → TeamRecorded position h g o → Tells position h g (standing_recorded (length (sales_in sales g)) o)
    one g None t = t
    one g (Some u) t = (t.0, t.1, ap length (r.sales_told g) ∙ sold_count h g)
