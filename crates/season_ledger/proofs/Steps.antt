-- A row written for a gameweek tells what was done there.
use Rattle.std.proofs.Common.{◌≡◌, ◌<◌, ◌≤◌, ◌+◌, ◌≢◌, ◌⊎◌, ◌∷◌, [], ◌++◌, ℕ, zero, suc, Bool, true, false, cond, not, List, Option, Some, None, length, map, arith, refl, sym, ap, ◌∙◌, subst, inl, inr, ⊎_elim, nat_eq}
use Rattle.std.specs.List.{flat_map, AllByRecursion as Each}
use Rattle.std.proofs.lemmas.List.{append-nil, append_assoc}
use Rattle.std.proofs.lemmas.Bool.Decides.{nat_tests}
use Rattle.std.proofs.lemmas.Bool.{cases_eq}
use Rattle.rule_book.specs.History.{Deed, Event, last_of, chip_said, chip_at, is_free_hit, kept, is_touched, in_gameweek}
use Rattle.rule_book.specs.HistorySquad.{ins, outs, bought_at, order_of, sum_bought, holdings_of, armbands_of, armbands_by, spent, earned, paid_by, earned_by, in_squad, given_up}
use Rattle.rule_book.specs.EntryRecords.{swapped, after_sales, paid_for, earned_for}
use Rattle.season_ledger.specs.Batches.{GoHeld, ComeFresh, rearranged, AfterBatch, IsFirstTeam, AfterLineup}
use Rattle.rule_book.specs.HistoryTeam.{holdings, is_held, is_begun, Balances, TeamBalances}
use Rattle.season_ledger.proofs.Held.{IsHeld, Holds, RowsHold, Stands, StandingHeld}
use Rattle.season_ledger.specs.Rows.{row_at, AllAbove, Rise, put_row, AllUpTo, standing_at, team_in}
use Rattle.rule_book.specs.HistoryRules.{IsHistory, FitsKept, ChipFits, NoneAfter, times, can_cancel, is_started, is_first, first_gw}
use Rattle.fpl_base.specs.declared.kinds.Chip.{Chip}
use Rattle.fpl_base.specs.declared.kinds.Chip.TheVariants.{None as NoChip}
use Rattle.rule_book.specs.declared.transfers.Sale.{Sale}
use Rattle.season_ledger.specs.declared.row.Standing.{Standing}
use Rattle.season_ledger.specs.declared.row.Row.{Row}
use Rattle.rule_book.specs.History.Deed.{First, Swap, Lineup, Play, Cancel}
use Rattle.rule_book.specs.HistoryTransfers.{is_swap, swaps_in}
use Rattle.season_ledger.proofs.Counts.{swaps_other, swaps_batch, swaps_deed}
use Rattle.season_ledger.proofs.Kept.{kept_more, kept_before, chip_other, chip_here, touched_other, touched_here}
use Rattle.season_ledger.proofs.Carry.{standing_told, touched_each, row_there}
use Rattle.season_ledger.proofs.Counted.{Sound}
use Rattle.season_ledger.proofs.Ledger.{priced, holdings-first, ledger_all}
use Rattle.season_ledger.proofs.Legality.{all_fit, sound_at, goes_on-push}
use Rattle.season_ledger.proofs.Swaps.{holdings-swap, push_more, holdings-batch, armbands-batch, spent-append, earned-append, batch_paid, batch_earned, holdings-rearranged, holdings-play, holdings-cancel, armbands-push}

pub row_at-put : (rows : List Row) (g w : ℕ) (t : Standing) → row_at (put_row rows g t) w ≡ cond (nat_eq g w) (Some t) (row_at rows w)
row_at-put [] g w t = refl
row_at-put (r ∷ rows) g w t = let ih : row_at (put_row rows g t) w ≡ cond (nat_eq g w) (Some t) (row_at rows w) = row_at-put rows g w t in ⊎_elim
    (λ (q : r.gw ≡ g). let e : nat_eq r.gw g ≡ true = grind (arith, nat_tests) in rw e (here (nat_eq g w) (nat_eq r.gw w) (ap (λ n. nat_eq n w) (sym q))))
    (λ (n : r.gw ≢ g). let e : nat_eq r.gw g ≡ false = grind (arith, nat_tests) in rw (e, ih) (there (nat_eq g w) (nat_eq r.gw w) (λ a b. n (grind (arith, nat_tests)))))
    (cases_eq r.gw g)
  where
    here : (a b : Bool) → a ≡ b → cond a (Some t) (row_at rows w) ≡ cond a (Some t) (cond b (Some r.standing) (row_at rows w))
    here true b e = refl
    here false true e = cc
    here false false e = refl

    there : (a b : Bool) → (a ≡ true → b ≡ true → ⊥) → cond b (Some r.standing) (cond a (Some t) (row_at rows w)) ≡ cond a (Some t) (cond b (Some r.standing) (row_at rows w))
    there true true never = absurd (never refl refl)
    there true false never = refl
    there false b never = refl

above-put : (rows : List Row) (g v : ℕ) (t : Standing) → AllAbove v rows → v < g → AllAbove v (put_row rows g t)
above-put [] g v t a lt = (lt, tt)
above-put (r ∷ rows) g v t a lt = elim (nat_eq r.gw g) as (λ b. AllAbove v (cond b (record { gw = g; standing = t } ∷ rows) (r ∷ put_row rows g t)))
    [ true ↦ (lt, a.1) | false ↦ (a.0, above-put rows g v t a.1 lt) ]

pub rise-put : (rows : List Row) (g : ℕ) (t : Standing) → Rise rows → AllUpTo g rows → Rise (put_row rows g t)
rise-put [] g t h u = (tt, tt)
rise-put (r ∷ rows) g t h u = ⊎_elim
    (λ (q : r.gw ≡ g). let e : nat_eq r.gw g ≡ true = grind (arith, nat_tests) in rw e (subst (λ n. AllAbove n rows) q h.0, h.1))
    (λ (n : r.gw ≢ g). let e : nat_eq r.gw g ≡ false = grind (arith, nat_tests) in let lt : r.gw < g = omega (arith, u.0) in rw e (above-put rows g r.gw t h.0 lt, rise-put rows g t h.1 u.1))
    (cases_eq r.gw g)

pub row_below : (rows : List Row) (g w : ℕ) (t : Standing) → AllUpTo g rows → row_at rows w ≡ Some t → w ≤ g
row_below [] g w t u e = cc
row_below (r ∷ rows) g w t u e = ⊎_elim
    (λ (q : r.gw ≡ w). omega (arith, u.0))
    (λ (n : r.gw ≢ w). let f : nat_eq r.gw w ≡ false = grind (arith, nat_tests) in row_below rows g w t u.1 (rw f at e))
    (cases_eq r.gw w)

-- what earlier gameweeks tell stays
tells_other : (h : List Event) (g w : ℕ) (ds : List Deed) (o : Option Standing) → w ≢ g → ((t : Standing) → o ≡ Some t → w ≤ g) → Holds h w o → Holds (h ++ in_gameweek g ds) w o
tells_other h g w ds None ne up s = touched_other h g w ds ne ∙ s
tells_other h g w ds (Some t) ne up s = let lt : w < g = omega (arith, up t refl) in
    let k : kept (h ++ in_gameweek g ds) w ≡ kept h w = kept_before h g w ds lt in let i = s.1 in (
      touched_other h g w ds ne ∙ s.0,
      record {
        squad = i.squad ∙ ap holdings_of (sym k);
        captain = i.captain ∙ ap (λ es. (armbands_of es).0) (sym k);
        vice = i.vice ∙ ap (λ es. (armbands_of es).1) (sym k);
        bank = rw k i.bank;
        chip = i.chip ∙ sym (chip_other h g w ds ne);
        made = i.made ∙ sym (swaps_other h g w ds ne);
      },
    )

pub tells_put : (rows : List Row) (h : List Event) (g : ℕ) (d : Deed) (ds : List Deed) (t : Standing) → RowsHold rows h → AllUpTo g rows
    → IsHeld (h ++ in_gameweek g (d ∷ ds)) g t → RowsHold (put_row rows g t) (h ++ in_gameweek g (d ∷ ds))
tells_put rows h g d ds t s u i = record { told = λ w. subst (Holds (h ++ in_gameweek g (d ∷ ds)) w) (sym (row_at-put rows g w t)) (each w (cases_eq g w)) }
  where
    each : (w : ℕ) → (g ≡ w) ⊎ (g ≢ w) → Holds (h ++ in_gameweek g (d ∷ ds)) w (cond (nat_eq g w) (Some t) (row_at rows w))
    each w (inl q) = let e : nat_eq g w ≡ true = grind (arith, nat_tests) in rw e (subst (λ v. Holds (h ++ in_gameweek g (d ∷ ds)) v (Some t)) q (touched_here h g d ds, i))
    each w (inr n) = let e : nat_eq g w ≡ false = grind (arith, nat_tests) in rw e (tells_other h g w (d ∷ ds) (row_at rows w) (λ q. n (sym q)) (λ x y. row_below rows g w x u y) (s.told w))

no_chip_said : (ss : List Sale) → flat_map chip_said (map Swap ss) ≡ []
no_chip_said [] = refl
no_chip_said (s ∷ ss) = no_chip_said ss

-- the team after a batch is that of the history with its swaps
pub team_after_batch : (h : List Event) (g : ℕ) (ss : List Sale) (t u : Standing) → IsHeld h g t → AfterBatch ss t.team u.team → u.made ≡ t.made + length ss → IsHeld (h ++ in_gameweek g (map Swap ss)) g u
team_after_batch h g ss t u i a n =
    let k : kept (h ++ in_gameweek g (map Swap ss)) g ≡ kept h g ++ in_gameweek g (map Swap ss) = kept_more h g (map Swap ss) in
    let m : armbands_of (kept h g ++ in_gameweek g (map Swap ss)) ≡ armbands_of (kept h g) = armbands-batch (kept h g) g ss in
    record {
      squad = a.squad ∙ ap (after_sales ss) i.squad ∙ sym (holdings-batch (kept h g) g ss (subst (ComeFresh ss) i.squad a.come)) ∙ ap holdings_of (sym k);
      captain = a.captain ∙ i.captain ∙ ap (λ x. x.0) (sym m) ∙ ap (λ es. (armbands_of es).0) (sym k);
      vice = a.vice ∙ i.vice ∙ ap (λ x. x.1) (sym m) ∙ ap (λ es. (armbands_of es).1) (sym k);
      bank = (let p : spent (kept h g ++ in_gameweek g (map Swap ss)) ≡ spent (kept h g) + paid_for ss = spent-append (kept h g) (in_gameweek g (map Swap ss)) ∙ ap (λ n. spent (kept h g) + n) (batch_paid g ss) in
          let q : earned (kept h g ++ in_gameweek g (map Swap ss)) ≡ earned (kept h g) + earned_for ss = earned-append (kept h g) (in_gameweek g (map Swap ss)) ∙ ap (λ n. earned (kept h g) + n) (batch_earned g ss) in
          let b : t.team.bank + spent (kept h g) ≡ 1000 + earned (kept h g) = i.bank in
          let c : u.team.bank + paid_for ss ≡ t.team.bank + earned_for ss = a.bank in
          rw k (rw (p, q) (omega arith)));
      chip = a.chip ∙ i.chip ∙ sym (chip_here h g (map Swap ss) ∙ ap (last_of (chip_at h g)) (no_chip_said ss));
      made = n ∙ ap (λ x. x + length ss) i.made ∙ sym (swaps_batch h g ss);
    }

-- held is counted in
pub held_times : (p : ℕ) (f : ℕ → ℕ) (ps : List ℕ) → is_held p (priced f ps) ≡ true → 0 < times p ps
held_times p f [] e = cc
held_times p f (q ∷ ps) e = ⊎_elim
    (λ (a : q ≡ p). let u : nat_eq q p ≡ true = grind (arith, nat_tests) in rw u (omega arith))
    (λ (n : q ≢ p). let u : nat_eq q p ≡ false = grind (arith, nat_tests) in let i : 0 < times p ps = held_times p f ps (rw u at e) in omega arith)
    (cases_eq q p)

pub held_in_squad : (es : List Event) (p : ℕ) → Sound es → is_held p (holdings_of es) ≡ in_squad es p
held_in_squad es p so = elim (is_held p (holdings_of es)) as (λ b. is_held p (holdings_of es) ≡ b → b ≡ in_squad es p) [
  | true ↦ (λ e. let t : 0 < times p (order_of es) = held_times p (bought_at es) (order_of es) e in let a : times p (order_of es) ≤ 1 = so.apart p in let c : ins p es ≡ outs p es + times p (order_of es) = so.counted p in
      let k : ins p es ≡ outs p es + 1 = omega arith in let u : nat_eq (ins p es) (outs p es + 1) ≡ true = grind (arith, nat_tests) in sym u)
  | false ↦ (λ e. not_held (times p (order_of es)) refl e)
] refl
  where
    not_held : (n : ℕ) → times p (order_of es) ≡ n → is_held p (holdings_of es) ≡ false → false ≡ in_squad es p
    not_held zero t e = let c : ins p es ≡ outs p es + times p (order_of es) = so.counted p in let k : ins p es ≢ outs p es + 1 = omega arith in let u : nat_eq (ins p es) (outs p es + 1) ≡ false = grind (arith, nat_tests) in sym u
    not_held (suc n) t e = absurd (clash (held_from (bought_at es) (order_of es) (omega arith)) e)
      where
        held_from : (f : ℕ → ℕ) (ps : List ℕ) → 0 < times p ps → is_held p (priced f ps) ≡ true
        held_from f [] l = absurd (omega arith)
        held_from f (q ∷ ps) l = ⊎_elim
            (λ (a : q ≡ p). let u : nat_eq q p ≡ true = grind (arith, nat_tests) in rw u refl)
            (λ (n : q ≢ p). let u : nat_eq q p ≡ false = grind (arith, nat_tests) in let k : 0 < 0 + times p ps = rw u at l in rw u (held_from f ps (omega arith)))
            (cases_eq q p)

        clash : is_held p (holdings_of es) ≡ true → is_held p (holdings_of es) ≡ false → ⊥
        clash a b = cc

none_push : (g : ℕ) (h : List Event) (d : Deed) → NoneAfter g h → NoneAfter g (h ++ in_gameweek g (d ∷ []))
none_push g [] d n = ((omega arith), tt)
none_push g (e ∷ h) d n = (n.0, none_push g h d n.1)

-- what rows tell is of no later gameweek than they are
pub none_after : (rows : List Row) (h : List Event) (g : ℕ) → RowsHold rows h → AllUpTo g rows → NoneAfter g h
none_after rows h g s up = all h (touched_each h)
  where
    all : (k : List Event) → Each (λ e. is_touched h e.gw ≡ true) k → NoneAfter g k
    all [] t = tt
    all (e ∷ k) t = (let r = row_there h e.gw (row_at rows e.gw) (s.told e.gw) t.0 in row_below rows g e.gw r.0 up r.1, all k t.1)

started_push : (h : List Event) (g : ℕ) (d : Deed) → is_started (h ++ in_gameweek g (d ∷ [])) ≡ true
started_push [] g d = refl
started_push (e ∷ h) g d = refl

-- a history has started where a team stands
pub started_from : (h : List Event) (g : ℕ) → is_begun h g ≡ true → is_started h ≡ true
started_from [] g e = e
started_from (v ∷ h) g e = refl

-- a batch fits
pub history_batch : (h : List Event) (g : ℕ) (ss : List Sale) → IsHistory h → is_started h ≡ true → NoneAfter g h → GoHeld ss (holdings_of (kept h g)) → ComeFresh ss (holdings_of (kept h g)) → IsHistory (h ++ in_gameweek g (map Swap ss))
history_batch h g [] k on up go come = subst IsHistory (sym (append-nil h)) k
history_batch h g (s ∷ ss) k on up go come =
    let so : Sound (kept h g) = sound_at h g k in
    let y : in_squad (kept h g) s.out ≡ true = sym (held_in_squad (kept h g) s.out so) ∙ go.0 in
    let n : in_squad (kept h g) s.into ≡ false = sym (held_in_squad (kept h g) s.into so) ∙ come.0 in
    let more : IsHistory (h ++ in_gameweek g (Swap s ∷ [])) = goes_on-push [] h g (Swap s) k (up, (y, n), tt, on) in
    let e : holdings_of (kept (h ++ in_gameweek g (Swap s ∷ [])) g) ≡ map (swapped s) (holdings_of (kept h g)) = ap holdings_of (kept_more h g (Swap s ∷ [])) ∙ holdings-swap (kept h g) g s come.0 in
    subst IsHistory (push_more h (record { gw = g; deed = Swap s }) (in_gameweek g (map Swap ss)))
    (history_batch (h ++ in_gameweek g (Swap s ∷ [])) g ss more (started_push h g (Swap s)) (none_push g h (Swap s) up) (subst (GoHeld ss) (sym e) go.1) (subst (ComeFresh ss) (sym e) come.1))

-- a batch
pub stands_batch : (rows : List Row) (h : List Event) (g : ℕ) (s : Sale) (ss : List Sale) (t u : Standing) → Stands rows h → is_started h ≡ true → AllUpTo g rows → IsHeld h g t
    → AfterBatch (s ∷ ss) t.team u.team → u.made ≡ t.made + length (s ∷ ss) → Stands (put_row rows g u) (h ++ in_gameweek g (map Swap (s ∷ ss)))
stands_batch rows h g s ss t u st on up i a n = record {
  history = history_batch h g (s ∷ ss) st.history on (none_after rows h g st.held up) (subst (GoHeld (s ∷ ss)) i.squad a.go) (subst (ComeFresh (s ∷ ss)) i.squad a.come);
  held = tells_put rows h g (Swap s) (map Swap ss) u st.held up (team_after_batch h g (s ∷ ss) t u i a n);
}

-- the team that stands is that of the history
pub told_some : (rows : List Row) (h : List Event) (g : ℕ) (t : Standing) → Rise rows → IsHistory h → RowsHold rows h → standing_at rows g ≡ Some t → IsHeld h g t
told_some rows h g t rise k s e = let p : StandingHeld h g (Some t) = subst (StandingHeld h g) e (standing_told rows h g rise k s) in p.1

pub started_by : (rows : List Row) (h : List Event) (g : ℕ) (t : Standing) → Rise rows → IsHistory h → RowsHold rows h → standing_at rows g ≡ Some t → is_started h ≡ true
started_by rows h g t rise k s e = let p : StandingHeld h g (Some t) = subst (StandingHeld h g) e (standing_told rows h g rise k s) in started_from h g p.0

pub transferred : (rows : List Row) (g : ℕ) (sales : List Sale) (t u : Standing) → Rise rows → AllUpTo g rows → 0 < length sales
    → standing_at rows g ≡ Some t → AfterBatch sales t.team u.team → u.made ≡ t.made + length sales
    → (h : List Event) → Stands rows h → Stands (put_row rows g u) (h ++ in_gameweek g (map Swap sales))
transferred rows g [] t u rise up some e a n h st = absurd (omega arith)
transferred rows g (s ∷ ss) t u rise up some e a n h st =
    stands_batch rows h g s ss t u st (started_by rows h g t rise st.history st.held e) up (told_some rows h g t rise st.history st.held e) a n

-- the laws of a team that stands
pub balances : (h : List Event) (g : ℕ) (t : Standing) → IsHistory h → IsHeld h g t → Balances h g t.team
balances h g t k i = record {
  squad = λ p. (ap (is_held p) i.squad ∙ held_in_squad (kept h g) p (sound_at h g k));
  ledger = (let a : sum_bought (holdings t.team.picks) ≡ sum_bought (holdings_of (kept h g)) = ap sum_bought i.squad in
      let b : sum_bought (holdings_of (kept h g)) + given_up [] (kept h g) ≡ spent (kept h g) = ledger_all (kept h g) ((all_fit h k).now g) in
      let c : t.team.bank + spent (kept h g) ≡ 1000 + earned (kept h g) = i.bank in omega arith);
}

pub team_balances : (rows : List Row) (h : List Event) (g : ℕ) → Rise rows → Stands rows h → TeamBalances h g (team_in (standing_at rows g))
team_balances rows h g rise st = by_case (standing_at rows g) (standing_told rows h g rise st.history st.held)
  where
    by_case : (o : Option Standing) → StandingHeld h g o → TeamBalances h g (team_in o)
    by_case None i = tt
    by_case (Some t) i = balances h g t st.history i.1

-- one deed of the gameweek: what the team becomes
pub record AfterDeed (h : List Event) (g : ℕ) (d : Deed) (u : Standing) : Type 0 where
  pub squad : holdings u.team.picks ≡ holdings_of (kept h g ++ record { gw = g; deed = d } ∷ [])
  pub captain : u.team.captain ≡ (last_of (armbands_of (kept h g)) (armbands_by d)).0
  pub vice : u.team.vice ≡ (last_of (armbands_of (kept h g)) (armbands_by d)).1
  pub bank : u.team.bank + (spent (kept h g) + paid_by d) ≡ 1000 + (earned (kept h g) + earned_by d)
  pub chip : u.team.chip ≡ last_of (chip_at h g) (chip_said d)
  pub made : u.made ≡ swaps_in h g

pub team_after_deed : (h : List Event) (g : ℕ) (d : Deed) (u : Standing) → is_swap d ≡ false → AfterDeed h g d u → IsHeld (h ++ in_gameweek g (d ∷ [])) g u
team_after_deed h g d u n a =
    let k : kept (h ++ in_gameweek g (d ∷ [])) g ≡ kept h g ++ in_gameweek g (d ∷ []) = kept_more h g (d ∷ []) in
    let m : armbands_of (kept (h ++ in_gameweek g (d ∷ [])) g) ≡ last_of (armbands_of (kept h g)) (armbands_by d) = ap armbands_of k ∙ armbands-push (kept h g) g d in
    record {
      squad = a.squad ∙ ap holdings_of (sym k);
      captain = a.captain ∙ ap (λ x. x.0) (sym m);
      vice = a.vice ∙ ap (λ x. x.1) (sym m);
      bank = (let p : spent (kept h g ++ in_gameweek g (d ∷ [])) ≡ spent (kept h g) + (paid_by d + 0) = spent-append (kept h g) (in_gameweek g (d ∷ [])) in
          let q : earned (kept h g ++ in_gameweek g (d ∷ [])) ≡ earned (kept h g) + (earned_by d + 0) = earned-append (kept h g) (in_gameweek g (d ∷ [])) in
          let b = a.bank in rw k (rw (p, q) (omega arith)));
      chip = a.chip ∙ sym (chip_here h g (d ∷ []) ∙ ap (last_of (chip_at h g)) (append-nil (chip_said d)));
      made = a.made ∙ sym (swaps_deed h g d n);
    }

pub stands_deed : (rows : List Row) (h : List Event) (g : ℕ) (d : Deed) (u : Standing) → Stands rows h → AllUpTo g rows → FitsKept (kept h g) d → ChipFits h g d → is_started h ≡ not (is_first d) → is_swap d ≡ false
    → AfterDeed h g d u → Stands (put_row rows g u) (h ++ in_gameweek g (d ∷ []))
stands_deed rows h g d u st up f c on n a = record {
  history = goes_on-push [] h g d st.history (none_after rows h g st.held up, f, c, on);
  held = tells_put rows h g d [] u st.held up (team_after_deed h g d u n a);
}

-- a lineup
pub lined_up : (rows : List Row) (g : ℕ) (ps : List ℕ) (captain vice : ℕ) (t u : Standing) → Rise rows → AllUpTo g rows → standing_at rows g ≡ Some t
    → AfterLineup ps captain vice t.team u.team → u.made ≡ t.made
    → (h : List Event) → Stands rows h → Stands (put_row rows g u) (h ++ in_gameweek g (Lineup ps captain vice ∷ []))
lined_up rows g ps captain vice t u rise up some a n h st =
    let i : IsHeld h g t = told_some rows h g t rise st.history st.held some in
    let so : Sound (kept h g) = sound_at h g st.history in
    let held : (p : ℕ) → is_held p (holdings t.team.picks) ≡ in_squad (kept h g) p = λ p. (ap (is_held p) i.squad ∙ held_in_squad (kept h g) p so) in
    let f : (p : ℕ) → times p ps ≡ cond (in_squad (kept h g) p) 1 0 = λ p. (a.same p ∙ ap (λ x. cond x 1 0) (held p)) in
    stands_deed rows h g (Lineup ps captain vice) u st up f tt (started_by rows h g t rise st.history st.held some) refl (record {
      squad = a.squad ∙ ap (rearranged ps) i.squad ∙ sym (holdings-rearranged (kept h g) g ps captain vice (all_held ps (λ p. (sym (ap (is_held p) i.squad))) a.same));
      captain = a.captain;
      vice = a.vice;
      bank = (let x : t.team.bank + spent (kept h g) ≡ 1000 + earned (kept h g) = i.bank in let y : u.team.bank ≡ t.team.bank = a.bank in omega arith);
      chip = a.chip ∙ i.chip;
      made = n ∙ i.made;
    })
  where
    times_here : (p : ℕ) (qs : List ℕ) → 0 < times p (p ∷ qs)
    times_here p qs = let e : nat_eq p p ≡ true = grind (arith, nat_tests) in rw e (omega arith)

    one_held : (p : ℕ) → 0 < cond (is_held p (holdings t.team.picks)) 1 0 → is_held p (holdings t.team.picks) ≡ true
    one_held p l = elim (is_held p (holdings t.team.picks)) as (λ x. 0 < cond x 1 0 → x ≡ true) [ true ↦ (λ _. refl) | false ↦ (λ (m : 0 < 0). absurd (omega arith)) ] l

    all_held : (qs : List ℕ) → ((p : ℕ) → is_held p (holdings_of (kept h g)) ≡ is_held p (holdings t.team.picks)) → ((p : ℕ) → times p ps ≡ cond (is_held p (holdings t.team.picks)) 1 0) → Each (λ p. is_held p (holdings_of (kept h g)) ≡ true) ps
    all_held qs e k = walk [] ps refl
      where
        walk : (pre post : List ℕ) → pre ++ post ≡ ps → Each (λ p. is_held p (holdings_of (kept h g)) ≡ true) post
        walk pre [] q = tt
        walk pre (p ∷ post) q = ((e p ∙ one_held p (let a : 0 < times p ps = subst (λ l. 0 < times p l) q (times_mid pre p post) in rw (k p) at a)), walk (pre ++ p ∷ []) post (append_assoc pre (p ∷ []) post ∙ q))
          where
            times_mid : (pre : List ℕ) (p : ℕ) (post : List ℕ) → 0 < times p (pre ++ p ∷ post)
            times_mid [] p post = times_here p post
            times_mid (x ∷ pre) p post = let i : 0 < times p (pre ++ p ∷ post) = times_mid pre p post in omega arith

-- a chip
pub played : (rows : List Row) (g : ℕ) (chip : Chip) (t u : Standing) → Rise rows → AllUpTo g rows → standing_at rows g ≡ Some t → t.team.chip ≡ NoChip → ((h : List Event) → Stands rows h → is_free_hit chip ≡ true → first_gw h < g)
    → u ≡ record { made = t.made; team = record t.team { chip = chip } }
    → (h : List Event) → Stands rows h → Stands (put_row rows g u) (h ++ in_gameweek g (Play chip ∷ []))
played rows g chip t u rise up some can early e h st =
    let i : IsHeld h g t = told_some rows h g t rise st.history st.held some in
    subst (λ (v : Standing). Stands (put_row rows g v) (h ++ in_gameweek g (Play chip ∷ []))) (sym e)
    (stands_deed rows h g (Play chip) (record { made = t.made; team = record t.team { chip = chip } }) st up tt ((sym i.chip ∙ can), early h st) (started_by rows h g t rise st.history st.held some) refl (record {
      squad = i.squad ∙ sym (holdings-play (kept h g) g chip);
      captain = i.captain;
      vice = i.vice;
      bank = (let x : t.team.bank + spent (kept h g) ≡ 1000 + earned (kept h g) = i.bank in omega arith);
      chip = refl;
      made = i.made;
    }))

pub cancelled : (rows : List Row) (g : ℕ) (t u : Standing) → Rise rows → AllUpTo g rows → standing_at rows g ≡ Some t → can_cancel t.team.chip ≡ true
    → u ≡ record { made = t.made; team = record t.team { chip = NoChip } }
    → (h : List Event) → Stands rows h → Stands (put_row rows g u) (h ++ in_gameweek g (Cancel ∷ []))
cancelled rows g t u rise up some can e h st =
    let i : IsHeld h g t = told_some rows h g t rise st.history st.held some in
    subst (λ (v : Standing). Stands (put_row rows g v) (h ++ in_gameweek g (Cancel ∷ []))) (sym e)
    (stands_deed rows h g Cancel (record { made = t.made; team = record t.team { chip = NoChip } }) st up tt (subst (λ x. can_cancel x ≡ true) i.chip can) (started_by rows h g t rise st.history st.held some) refl (record {
      squad = i.squad ∙ sym (holdings-cancel (kept h g) g);
      captain = i.captain;
      vice = i.vice;
      bank = (let x : t.team.bank + spent (kept h g) ≡ 1000 + earned (kept h g) = i.bank in omega arith);
      chip = refl;
      made = i.made;
    }))

-- no rows, nothing done
pub nothing_done : (h : List Event) → RowsHold [] h → h ≡ []
nothing_done [] s = refl
nothing_done (e ∷ h) s = let x : is_touched (e ∷ h) e.gw ≡ false = s.told e.gw in let u : nat_eq e.gw e.gw ≡ true = grind (arith, nat_tests) in let y : true ≡ false = rw u at x in cc

pub registered : (rows : List Row) (g : ℕ) (u : Standing) → rows ≡ [] → IsFirstTeam u.team → u.made ≡ 0
    → (h : List Event) → Stands rows h → Stands (put_row rows g u) (h ++ in_gameweek g (First (holdings u.team.picks) u.team.captain u.team.vice ∷ []))
registered rows g u none a n h st =
    let z : h ≡ [] = nothing_done h (subst (λ r. RowsHold r h) none st.held) in
    stands_deed rows h g (First (holdings u.team.picks) u.team.captain u.team.vice) u st (subst (AllUpTo g) (sym none) tt) (ap (λ l. kept l g) z, a.apart) tt (ap is_started z) refl (record {
      squad = sym (holdings-first g (holdings u.team.picks) u.team.captain u.team.vice a.apart) ∙ ap (λ l. holdings_of (kept l g ++ record { gw = g; deed = First (holdings u.team.picks) u.team.captain u.team.vice } ∷ [])) (sym z);
      captain = refl;
      vice = refl;
      bank = (let x : u.team.bank + sum_bought (holdings u.team.picks) ≡ 1000 = a.bank in let s : spent (kept h g) ≡ 0 = ap (λ l. spent (kept l g)) z in let t : earned (kept h g) ≡ 0 = ap (λ l. earned (kept l g)) z in omega arith);
      chip = a.chip ∙ ap (λ l. chip_at l g) (sym z);
      made = n ∙ ap (λ l. swaps_in l g) (sym z);
    })
