-- The calls on an entry's rows: they stay in order, and stand for the history that goes on.
use Rattle.std.proofs.Common.{◌≡◌, ◌<◌, ◌≤◌, ◌+◌, ◌-◌, ◌*◌, ◌≢◌, ◌∷◌, [], ◌++◌, ℕ, Bool, true, false, cond, ◌&&◌, List, Option, Some, None, Result, Ok, Err, OnOk, length, map, arith, refl, sym, ap, ◌∙◌, subst, ⊎_elim, nat_eq, nat_lt, nat_le}
use Rattle.std.specs.List.{AllByRecursion as Each}
use Rattle.std.proofs.lemmas.Bool.Decides.{nat_tests}
use Rattle.std.proofs.lemmas.Bool.{cases_eq, cases_lt}
use Rattle.fpl_base.specs.declared.kinds.Chip.{Chip}
use Rattle.fpl_base.specs.declared.kinds.Chip.TheVariants.{None as NoChip}
use Rattle.fpl_base.specs.declared.kinds.Position.{Position}
use Rattle.rule_book.specs.declared.team.Team.{Team}
use Rattle.rule_book.specs.declared.transfers.Sale.{Sale}
use Rattle.rule_book.specs.EntryRecords.{paid_for, earned_for}
use Rattle.rule_book.specs.HistorySquad.{sum_bought}
use Rattle.rule_book.specs.History.{Event, chip_at, is_free_hit, is_touched, in_gameweek}
use Rattle.rule_book.specs.History.Deed.{First, Swap, Lineup, Play, Cancel}
use Rattle.rule_book.specs.HistoryRules.{first_gw, is_started, FirstTold, NoneAfter}
use Rattle.fpl_base.specs.declared.kinds.Profile.{Profile}
use Rattle.rule_book.specs.HistoryTransfers.{is_past_first, half_of, FreeTold, cost_at, counted_through}
use Rattle.rule_book.specs.HistoryTeam.{TeamTold, TeamBalances, holdings}
use Rattle.season_ledger.specs.declared.row.Standing.{Standing}
use Rattle.season_ledger.specs.declared.row.Row.{Row}
use Rattle.season_ledger.specs.Rows.{is_up_to, row_at, or_else, base_at, AllAbove, Rise, AllUpTo, put_row, carried, standing_at, team_in, made_in, used_by, chip_by, first_in, is_past, IsBare, IsKept, IsFit, IsFitTeam, FitsIn, is_begun_by, chipped, put_chip_on, put_chip, begun, place_at, free_in, cost_by, counted_by}
use Rattle.season_ledger.specs.Batches.{IsFirstTeam, BatchOn, LineupOn, CanPlay, CanCancel, players_of}
use Rattle.season_ledger.specs.Stands.{IsPlaced, StandsFor, RowsAlwaysTell}
use Rattle.season_ledger.proofs.Held.{Holds, RowsHold, Stands}
use Rattle.season_ledger.proofs.Carry.{above, base_some, standing_told}
use Rattle.season_ledger.proofs.Frees.{chip_is, used_is, past_told, first_is, free_in_told, cost_told, counted_told}
use Rattle.squad_rules.proofs.ChipsPlayed.{among_agree}
use Rattle.season_ledger.proofs.Places.{place_there}
use Rattle.season_ledger.proofs.Steps.{rise-put, transferred, lined_up, played, cancelled, registered, nothing_done, team_balances}
use Rattle.season_ledger.proofs.Placed.{stands, stands_for, rows_placed, placed_put, standing_placed, told_up}

-- the rows stay in order
pub kept_put : (rows : List Row) (g : ℕ) (s : Standing) → IsKept rows → AllUpTo g rows → (is_free_hit s.team.chip ≡ true → is_past rows g ≡ true) → IsFit g s → IsKept (put_row rows g s)
kept_put rows g s k later early fit = record { rise = rise-put rows g s k.rise later; bare = bare rows k.bare early; fit = fits rows k.fit }
  where
    fits : (rs : List Row) → Each (λ r. IsFit r.gw r.standing) rs → Each (λ r. IsFit r.gw r.standing) (put_row rs g s)
    fits [] f = (fit, tt)
    fits (r ∷ rs) f = elim (nat_eq r.gw g) as (λ b. Each (λ r. IsFit r.gw r.standing) (cond b (record { gw = g; standing = s } ∷ rs) (r ∷ put_row rs g s)))
        [ true ↦ (fit, f.1) | false ↦ (f.0, fits rs f.1) ]

    is_false : (b : Bool) → (b ≡ true → ⊥) → b ≡ false
    is_false true n = absurd (n refl)
    is_false false n = refl

    bare : (rs : List Row) → IsBare rs → (is_free_hit s.team.chip ≡ true → is_past rs g ≡ true) → IsBare (put_row rs g s)
    bare [] b e = is_false (is_free_hit s.team.chip) (λ t. (let bad : false ≡ true = e t in cc))
    bare (r ∷ rs) b e = ⊎_elim
        (λ (q : r.gw ≡ g). let t : nat_eq r.gw g ≡ true = grind (arith, nat_tests) in let u : nat_lt r.gw g ≡ false = grind (arith, nat_tests) in rw t (is_false (is_free_hit s.team.chip) (λ x. (let bad : false ≡ true = sym u ∙ e x in cc))))
        (λ (n : r.gw ≢ g). let t : nat_eq r.gw g ≡ false = grind (arith, nat_tests) in rw t b)
        (cases_eq r.gw g)

-- a free hit that stands is not in the first gameweek
pub standing_early : (rows : List Row) (g : ℕ) (s : Standing) → IsKept rows → standing_at rows g ≡ Some s → is_free_hit s.team.chip ≡ true → is_past rows g ≡ true
standing_early rows g s k e free = by_row (row_at rows g) (base_at rows g) refl e
  where
    clash : false ≡ true → ⊥
    clash x = cc

    own : (rs : List Row) → IsKept rs → row_at rs g ≡ Some s → is_past rs g ≡ true
    own [] k e = cc
    own (r ∷ rs) k e = ⊎_elim
        (λ (q : r.gw ≡ g). let t : nat_eq r.gw g ≡ true = grind (arith, nat_tests) in let x : Some r.standing ≡ Some s = rw t at e in let y : r.standing ≡ s = cc in
        absurd (clash (sym k.bare ∙ ap (λ (v : Standing). is_free_hit v.team.chip) y ∙ free)))
        (λ (n : r.gw ≢ g). let t : nat_eq r.gw g ≡ false = grind (arith, nat_tests) in let l : r.gw < g = above rs r.gw g s k.rise.0 (rw t at e) in grind (arith, nat_tests))
        (cases_eq r.gw g)

    by_row : (o : Option Standing) (b : Option Row) → row_at rows g ≡ o → or_else o (carried b) ≡ Some s → is_past rows g ≡ true
    by_row (Some t) b q e = own rows k (q ∙ e)
    by_row None None q e = cc
    by_row None (Some r) q e = let x : record { made = 0; team = record r.standing.team { chip = NoChip } } ≡ s = cc in absurd (clash (ap (λ (v : Standing). is_free_hit v.team.chip) x ∙ free))

-- what stands has the transfers of the gameweek's row
pub standing_made : (rows : List Row) (g : ℕ) (s : Standing) → standing_at rows g ≡ Some s → s.made ≡ used_by rows g
standing_made rows g s e = by_row (row_at rows g) (base_at rows g) e
  where
    by_row : (o : Option Standing) (b : Option Row) → or_else o (carried b) ≡ Some s → s.made ≡ made_in o
    by_row (Some t) b e = let x : t ≡ s = cc in ap (λ (v : Standing). v.made) (sym x)
    by_row None None e = cc
    by_row None (Some r) e = let x : record { made = 0; team = record r.standing.team { chip = NoChip } } ≡ s = cc in ap (λ (v : Standing). v.made) (sym x)

-- a team stands exactly from the first gameweek on
pub standing_begun : (rows : List Row) (g : ℕ) → IsKept rows → (o : Option Standing) → standing_at rows g ≡ o → begun o ≡ is_begun_by rows g
standing_begun rows g k o e = ap begun (sym e) ∙ by_rows rows k
  where
    some_base : (x : Option Row) (r : Row) → begun (carried (or_else x (Some r))) ≡ true
    some_base None r = refl
    some_base (Some y) r = refl

    left : (o : Option Standing) (b : Option Row) → begun (carried b) ≡ true → begun (or_else o (carried b)) ≡ true
    left None b h = h
    left (Some t) b h = refl

    none_row : (rs : List Row) → AllAbove g rs → row_at rs g ≡ None
    none_row [] a = refl
    none_row (r ∷ rs) a = let t : nat_eq r.gw g ≡ false = grind (arith, nat_tests, a.0) in rw t (none_row rs a.1)

    none_base : (rs : List Row) → AllAbove g rs → base_at rs g ≡ None
    none_base [] a = refl
    none_base (r ∷ rs) a = let t : nat_lt r.gw g ≡ false = grind (arith, nat_tests, a.0) in let i : base_at rs g ≡ None = none_base rs a.1 in rw (i, t) refl

    all_above : (rs : List Row) (v : ℕ) → g < v → AllAbove v rs → AllAbove g rs
    all_above [] v l a = tt
    all_above (r ∷ rs) v l a = ((omega (arith, a.0)), all_above rs v l a.1)

    by_rows : (rs : List Row) → IsKept rs → begun (standing_at rs g) ≡ is_begun_by rs g
    by_rows [] k = refl
    by_rows (r ∷ rs) k = ⊎_elim
        (λ (lt : g < r.gw). let t : nat_le r.gw g ≡ false = grind (arith, nat_tests) in let a : AllAbove g (r ∷ rs) = (lt, all_above rs r.gw lt k.rise.0) in
        rw (none_row (r ∷ rs) a, none_base (r ∷ rs) a) (sym t))
        (λ (le : r.gw ≤ g). let t : nat_le r.gw g ≡ true = grind (arith, nat_tests) in ⊎_elim
        (λ (q : r.gw ≡ g). let u : nat_eq r.gw g ≡ true = grind (arith, nat_tests) in rw (u, t) refl)
        (λ (n : r.gw ≢ g). let u : nat_lt r.gw g ≡ true = grind (arith, nat_tests) in let f : is_free_hit r.standing.team.chip ≡ false = k.bare in
        let w : begun (carried (base_at (r ∷ rs) g)) ≡ true = (rw (u, f) (some_base (base_at rs g) r)) in left (row_at (r ∷ rs) g) (base_at (r ∷ rs) g) w ∙ sym t)
        (cases_eq r.gw g))
        (cases_lt g r.gw)

-- the calls
pub transferred_for : (rows : List Row) (g : ℕ) (sales : List Sale) (u : Standing) → IsKept rows → AllUpTo g rows → 0 < length sales → BatchOn sales (standing_at rows g) u.team → u.made ≡ used_by rows g + length sales
    → (position : ℕ → Position) (h : List Event) → IsPlaced position u.team.picks → StandsFor position rows h → StandsFor position (put_row rows g u) (h ++ in_gameweek g (map Swap sales))
transferred_for rows g sales u k up some b n position h p st = by_case (standing_at rows g) refl b
  where
    by_case : (o : Option Standing) → standing_at rows g ≡ o → BatchOn sales o u.team → StandsFor position (put_row rows g u) (h ++ in_gameweek g (map Swap sales))
    by_case None e b = absurd b
    by_case (Some t) e b = stands_for position (put_row rows g u) (h ++ in_gameweek g (map Swap sales)) (rise-put rows g u k.rise up)
        (transferred rows g sales t u k.rise up some e b (n ∙ ap (λ x. x + length sales) (sym (standing_made rows g t e))) h (stands position rows h st))
        (placed_put position rows g u (rows_placed position rows h st) p)

pub lined_up_for : (rows : List Row) (g : ℕ) (u : Standing) → IsKept rows → AllUpTo g rows → LineupOn (standing_at rows g) u.team → u.made ≡ used_by rows g
    → (position : ℕ → Position) (h : List Event) → IsPlaced position u.team.picks → StandsFor position rows h → StandsFor position (put_row rows g u) (h ++ in_gameweek g (Lineup (players_of u.team) u.team.captain u.team.vice ∷ []))
lined_up_for rows g u k up b n position h p st = by_case (standing_at rows g) refl b
  where
    by_case : (o : Option Standing) → standing_at rows g ≡ o → LineupOn o u.team → StandsFor position (put_row rows g u) (h ++ in_gameweek g (Lineup (players_of u.team) u.team.captain u.team.vice ∷ []))
    by_case None e b = absurd b
    by_case (Some t) e b = stands_for position (put_row rows g u) (h ++ in_gameweek g (Lineup (players_of u.team) u.team.captain u.team.vice ∷ [])) (rise-put rows g u k.rise up)
        (lined_up rows g (players_of u.team) u.team.captain u.team.vice t u k.rise up e b (n ∙ sym (standing_made rows g t e)) h (stands position rows h st))
        (placed_put position rows g u (rows_placed position rows h st) p)

pub registered_for : (rows : List Row) (g : ℕ) (u : Standing) → rows ≡ [] → IsFirstTeam u.team → u.made ≡ 0
    → (position : ℕ → Position) (h : List Event) → IsPlaced position u.team.picks → StandsFor position rows h → StandsFor position (put_row rows g u) (h ++ in_gameweek g (First (holdings u.team.picks) u.team.captain u.team.vice ∷ []))
registered_for rows g u none a n position h p st = stands_for position (put_row rows g u) (h ++ in_gameweek g (First (holdings u.team.picks) u.team.captain u.team.vice ∷ []))
    (subst (λ (r : List Row). Rise (put_row r g u)) (sym none) (tt, tt))
    (registered rows g u none a n h (stands position rows h st))
    (placed_put position rows g u (rows_placed position rows h st) p)

past_means : (rows : List Row) (h : List Event) (g : ℕ) → Rise rows → Stands rows h → is_past rows g ≡ true → first_gw h < g
past_means rows h g rise st e = late h (sym (past_told rows h g rise st) ∙ e)
  where
    late : (l : List Event) → is_past_first l g ≡ true → first_gw l < g
    late [] q = cc
    late (v ∷ l) q = grind (arith, nat_tests)

pub played_for : (rows : List Row) (g : ℕ) (chip : Chip) → IsKept rows → AllUpTo g rows → CanPlay (standing_at rows g) → (is_free_hit chip ≡ true → is_past rows g ≡ true)
    → (position : ℕ → Position) (h : List Event) → StandsFor position rows h → StandsFor position (put_chip rows g chip) (h ++ in_gameweek g (Play chip ∷ []))
played_for rows g chip k up can early position h st = by_case (standing_at rows g) refl can
  where
    by_case : (o : Option Standing) → standing_at rows g ≡ o → CanPlay o → StandsFor position (put_chip_on rows g chip o) (h ++ in_gameweek g (Play chip ∷ []))
    by_case None e b = absurd b
    by_case (Some t) e b = stands_for position (put_row rows g (chipped chip t)) (h ++ in_gameweek g (Play chip ∷ [])) (rise-put rows g (chipped chip t) k.rise up)
        (played rows g chip t (chipped chip t) k.rise up e b (λ l s x. past_means rows l g k.rise s (early x)) refl h (stands position rows h st))
        (placed_put position rows g (chipped chip t) (rows_placed position rows h st) (standing_placed position rows g t k.rise (rows_placed position rows h st) e))

pub cancelled_for : (rows : List Row) (g : ℕ) → IsKept rows → AllUpTo g rows → CanCancel (standing_at rows g)
    → (position : ℕ → Position) (h : List Event) → StandsFor position rows h → StandsFor position (put_chip rows g NoChip) (h ++ in_gameweek g (Cancel ∷ []))
cancelled_for rows g k up can position h st = by_case (standing_at rows g) refl can
  where
    by_case : (o : Option Standing) → standing_at rows g ≡ o → CanCancel o → StandsFor position (put_chip_on rows g NoChip o) (h ++ in_gameweek g (Cancel ∷ []))
    by_case None e b = absurd b
    by_case (Some t) e b = stands_for position (put_row rows g (chipped NoChip t)) (h ++ in_gameweek g (Cancel ∷ [])) (rise-put rows g (chipped NoChip t) k.rise up)
        (cancelled rows g t (chipped NoChip t) k.rise up e b refl h (stands position rows h st))
        (placed_put position rows g (chipped NoChip t) (rows_placed position rows h st) (standing_placed position rows g t k.rise (rows_placed position rows h st) e))

fit_row : (rows : List Row) (g : ℕ) (s : Standing) → Each (λ r. IsFit r.gw r.standing) rows → row_at rows g ≡ Some s → IsFit g s
fit_row [] g s f e = cc
fit_row (r ∷ rows) g s f e = ⊎_elim
    (λ (q : r.gw ≡ g). let t : nat_eq r.gw g ≡ true = grind (arith, nat_tests) in let x : Some r.standing ≡ Some s = rw t at e in let y : r.standing ≡ s = cc in
    subst (λ (v : Standing). IsFit g v) y (subst (λ w. IsFit w r.standing) q f.0))
    (λ (n : r.gw ≢ g). let t : nat_eq r.gw g ≡ false = grind (arith, nat_tests) in fit_row rows g s f.1 (rw t at e))
    (cases_eq r.gw g)

-- what stands fits
pub standing_fit : (rows : List Row) (g : ℕ) → IsKept rows → (o : Option Standing) → standing_at rows g ≡ o → FitsIn g o
standing_fit rows g k None e = tt
standing_fit rows g k (Some s) e = by_row (row_at rows g) (base_at rows g) refl refl e
  where
    by_row : (o : Option Standing) (b : Option Row) → row_at rows g ≡ o → base_at rows g ≡ b → or_else o (carried b) ≡ Some s → IsFit g s
    by_row (Some t) b p q e = let x : t ≡ s = cc in subst (λ (v : Standing). IsFit g v) x (fit_row rows g t k.fit p)
    by_row None None p q e = cc
    by_row None (Some r) p q e =
        let x : record { made = 0; team = record r.standing.team { chip = NoChip } } ≡ s = cc in
        let i = base_some rows g r k.rise q in
        let f : IsFit r.gw r.standing = fit_row rows r.gw r.standing k.fit i.there in
        let few : r.standing.made ≤ 1000 = f.few in
        let bank : r.standing.team.bank + 200000 ≤ (1000 + 200000 * r.gw) + 200 * r.standing.made = f.bank in
        let before : r.gw < g = i.before in
        subst (λ (v : Standing). IsFit g v) x (record { few = omega arith; bank = omega arith; team = record { different = f.team.different; priced = f.team.priced } })

-- a chip leaves what stands fit
pub fit_chip : (g : ℕ) (chip : Chip) (s : Standing) → IsFit g s → IsFit g (chipped chip s)
fit_chip g chip s f = record { few = f.few; bank = f.bank; team = record { different = f.team.different; priced = f.team.priced } }

pub used_few : (rows : List Row) (g : ℕ) → IsKept rows → used_by rows g ≤ 1000
used_few rows g k = by_row (row_at rows g) refl
  where
    by_row : (o : Option Standing) → row_at rows g ≡ o → made_in o ≤ 1000
    by_row None e = omega arith
    by_row (Some s) e = let f : IsFit g s = fit_row rows g s k.fit e in f.few

-- what stands is told
pub standing_for : (position : ℕ → Position) (rows : List Row) (h : List Event) (g : ℕ) → StandsFor position rows h → TeamTold position h g (team_in (standing_at rows g))
standing_for position rows h g st = told_up position rows h g st (let s = stands position rows h st in standing_told rows h g st.rise s.history s.held)

pub balances_for : (position : ℕ → Position) (rows : List Row) (h : List Event) (g : ℕ) → StandsFor position rows h → TeamBalances h g (team_in (standing_at rows g))
balances_for position rows h g st = team_balances rows h g st.rise (stands position rows h st)

pub first_for : (position : ℕ → Position) (rows : List Row) (h : List Event) → StandsFor position rows h → FirstTold h (first_in rows)
first_for position [] h st = ap is_started (nothing_done h (stands position [] h st).held)
first_for position (r ∷ rows) [] st =
    let u : nat_eq r.gw r.gw ≡ true = grind (arith, nat_tests) in
    let p : Holds [] r.gw (cond (nat_eq r.gw r.gw) (Some r.standing) (row_at rows r.gw)) = (stands position (r ∷ rows) [] st).held.told r.gw in
    let q : Holds [] r.gw (Some r.standing) = rw u at p in let bad : false ≡ true = q.0 in cc
first_for position (r ∷ rows) (e ∷ h) st = let s = stands position (r ∷ rows) (e ∷ h) st in (refl, first_is (r ∷ rows) (e ∷ h) st.rise s.history s.held)

-- what a call that writes promises of histories
pub on_ok_to : {A E : Type 0} (r : Result A E) (P Q : Type 0) → (P → Q) → OnOk r P → OnOk r Q
on_ok_to (Ok a) P Q f p = f p
on_ok_to (Err e) P Q f p = p

pub free_for : (p : Profile) (position : ℕ → Position) (rows : List Row) (h : List Event) (g : ℕ) → StandsFor position rows h → FreeTold p h g (free_in p rows g)
free_for p position rows h g st = free_in_told p rows h g st.rise (stands position rows h st)

pub cost_for : (p : Profile) (position : ℕ → Position) (rows : List Row) (h : List Event) (g : ℕ) → StandsFor position rows h → cost_by p rows g ≡ cost_at p h g
cost_for p position rows h g st = cost_told p rows h g st.rise (stands position rows h st)

pub counted_for : (position : ℕ → Position) (rows : List Row) (h : List Event) (g : ℕ) → StandsFor position rows h → counted_by rows g ≡ counted_through h g
counted_for position rows h g st = counted_told rows h g st.rise (stands position rows h st)

-- a chip that can be cancelled stands in a row of its own
pub cancel_there : (rows : List Row) (g : ℕ) → CanCancel (standing_at rows g) → place_at rows g < length rows
cancel_there rows g c = by_row (row_at rows g) (base_at rows g) refl c
  where
    clash : false ≡ true → ⊥
    clash e = cc

    by_row : (o : Option Standing) (k : Option Row) → row_at rows g ≡ o → CanCancel (or_else o (carried k)) → place_at rows g < length rows
    by_row (Some t) k e c = place_there rows g t e
    by_row None (Some r) e c = absurd (clash c)
    by_row None None e c = absurd c

-- a free hit that stands stays where it was
pub batch_early : (rows : List Row) (g : ℕ) (sales : List Sale) (u : Team) → IsKept rows → BatchOn sales (standing_at rows g) u → is_free_hit u.chip ≡ true → is_past rows g ≡ true
batch_early rows g sales u k b free = by_case (standing_at rows g) refl b
  where
    by_case : (o : Option Standing) → standing_at rows g ≡ o → BatchOn sales o u → is_past rows g ≡ true
    by_case None e b = absurd b
    by_case (Some t) e b = standing_early rows g t k e (ap is_free_hit (sym b.chip) ∙ free)

pub lineup_early : (rows : List Row) (g : ℕ) (u : Team) → IsKept rows → LineupOn (standing_at rows g) u → is_free_hit u.chip ≡ true → is_past rows g ≡ true
lineup_early rows g u k b free = by_case (standing_at rows g) refl b
  where
    by_case : (o : Option Standing) → standing_at rows g ≡ o → LineupOn o u → is_past rows g ≡ true
    by_case None e b = absurd b
    by_case (Some t) e b = standing_early rows g t k e (ap is_free_hit (sym b.chip) ∙ free)

-- the rows that the calls write fit
earned_most : (sales : List Sale) → Each (λ s. s.sold ≤ 200) sales → earned_for sales ≤ 200 * length sales
earned_most [] h = omega arith
earned_most (s ∷ sales) h = let i : earned_for sales ≤ 200 * length sales = earned_most sales h.1 in let a : s.sold ≤ 200 = h.0 in omega arith

pub batch_fit : (rows : List Row) (g : ℕ) (sales : List Sale) (u : Team) → IsKept rows → BatchOn sales (standing_at rows g) u → used_by rows g + length sales ≤ 1000 → Each (λ s. s.sold ≤ 200) sales → IsFitTeam u
    → IsFit g (record { made = used_by rows g + length sales; team = u })
batch_fit rows g sales u k b few sold f = by_case (standing_at rows g) refl b
  where
    by_case : (o : Option Standing) → standing_at rows g ≡ o → BatchOn sales o u → IsFit g (record { made = used_by rows g + length sales; team = u })
    by_case None e b = absurd b
    by_case (Some t) e b =
        let i : IsFit g t = standing_fit rows g k (Some t) e in
        let m : t.made ≡ used_by rows g = standing_made rows g t e in
        let x : t.team.bank + 200000 ≤ (1000 + 200000 * g) + 200 * t.made = i.bank in
        let y : u.bank + paid_for sales ≡ t.team.bank + earned_for sales = b.bank in
        let z : earned_for sales ≤ 200 * length sales = earned_most sales sold in
        record { few = few; bank = omega arith; team = f }

pub lineup_fit : (rows : List Row) (g : ℕ) (u : Team) → IsKept rows → LineupOn (standing_at rows g) u → IsFitTeam u → IsFit g (record { made = used_by rows g; team = u })
lineup_fit rows g u k b f = by_case (standing_at rows g) refl b
  where
    by_case : (o : Option Standing) → standing_at rows g ≡ o → LineupOn o u → IsFit g (record { made = used_by rows g; team = u })
    by_case None e b = absurd b
    by_case (Some t) e b =
        let i : IsFit g t = standing_fit rows g k (Some t) e in
        let m : t.made ≡ used_by rows g = standing_made rows g t e in
        let x : t.team.bank + 200000 ≤ (1000 + 200000 * g) + 200 * t.made = i.bank in
        let y : u.bank ≡ t.team.bank = b.bank in
        let w : t.made ≤ 1000 = i.few in
        record { few = omega arith; bank = omega arith; team = f }

pub first_fit : (g : ℕ) (u : Team) → 1 ≤ g → IsFirstTeam u → IsFitTeam u → IsFit g (record { made = 0; team = u })
first_fit g u le a f = let x : u.bank + sum_bought (holdings u.picks) ≡ 1000 = a.bank in record { few = omega arith; bank = omega arith; team = f }

pub first_early : (u : Team) (rows : List Row) (g : ℕ) → IsFirstTeam u → is_free_hit u.chip ≡ true → is_past rows g ≡ true
first_early u rows g a free = absurd (clash (ap is_free_hit (sym a.chip) ∙ free))
  where
    clash : false ≡ true → ⊥
    clash e = cc

-- rows up to a gameweek
pub up_to_true : (g : ℕ) (rows : List Row) → is_up_to g rows ≡ true → AllUpTo g rows
up_to_true g [] e = tt
up_to_true g (r ∷ rows) e = let p = both (nat_le r.gw g) (is_up_to g rows) e in ((let t : nat_le r.gw g ≡ true = p.0 in grind (arith, nat_tests)), up_to_true g rows p.1)
  where
    both : (a b : Bool) → (a && b) ≡ true → (a ≡ true) × (b ≡ true)
    both true b e = (refl, e)
    both false b e = cc

pub true_up_to : (g : ℕ) (rows : List Row) → AllUpTo g rows → is_up_to g rows ≡ true
true_up_to g [] u = refl
true_up_to g (r ∷ rows) u = let l : r.gw ≤ g = u.0 in let t : nat_le r.gw g ≡ true = grind (arith, nat_tests) in rw t (true_up_to g rows u.1)

-- no row is later than the events
touched_before : (g w : ℕ) (h : List Event) → NoneAfter g h → is_touched h w ≡ true → w ≤ g
touched_before g w [] n t = cc
touched_before g w (e ∷ h) n t = ⊎_elim
    (λ (q : e.gw ≡ w). omega (arith, n.0))
    (λ (d : e.gw ≢ w). let f : nat_eq e.gw w ≡ false = grind (arith, nat_tests) in touched_before g w h n.1 (rw f at t))
    (cases_eq e.gw w)

rows_before : (g : ℕ) (rows : List Row) (h : List Event) → NoneAfter g h → RowsHold rows h → AllUpTo g rows
rows_before g rows h n s = walk rows (λ w. s.told w) (λ w o. o)
  where
    touched : (w : ℕ) (o : Option Standing) → Holds h w o → begun o ≡ true → is_touched h w ≡ true
    touched w None x b = cc
    touched w (Some t) x b = x.0

    here : (r : Row) (rs : List Row) → begun (row_at (r ∷ rs) r.gw) ≡ true
    here r rs = let u : nat_eq r.gw r.gw ≡ true = grind (arith, nat_tests) in rw u refl

    more : (r : Row) (rs : List Row) (w : ℕ) → begun (row_at rs w) ≡ true → begun (row_at (r ∷ rs) w) ≡ true
    more r rs w b = elim (nat_eq r.gw w) as (λ c. begun (cond c (Some r.standing) (row_at rs w)) ≡ true) [ true ↦ refl | false ↦ b ]

    walk : (rs : List Row) → ((w : ℕ) → Holds h w (row_at rows w)) → ((w : ℕ) → begun (row_at rs w) ≡ true → begun (row_at rows w) ≡ true) → AllUpTo g rs
    walk [] told up = tt
    walk (r ∷ rs) told up = (touched_before g r.gw h n (touched r.gw (row_at rows r.gw) (told r.gw) (up r.gw (here r rs))), walk rs told (λ w b. up w (more r rs w b)))

pub rows_tell : RowsAlwaysTell
rows_tell position rows h st = let s = stands position rows h st in record {
  chips = λ g. chip_is rows h g s.held;
  chip_used = λ split chip g. among_agree (chip_by rows) (chip_at h) chip (half_of split chip g) (g - half_of split chip g) (λ w. chip_is rows h w s.held);
  used = λ g. used_is rows h g s.held;
  free = λ profile g. free_for profile position rows h g st;
  cost = λ profile g. cost_for profile position rows h g st;
  counted = λ g. counted_for position rows h g st;
  first = first_for position rows h st;
  team = λ g. standing_for position rows h g st;
  later = λ g n. rows_before g rows h n s.held;
}
