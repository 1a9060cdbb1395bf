-- Whom an entry has had: its history and what is kept of it say the same.
use Rattle.std.proofs.Common.{◌≡◌, ◌<◌, ◌≤◌, ◌+◌, ◌==◌, ◌∷◌, [], ◌++◌, ℕ, Bool, true, false, not, ◌||◌, ◌&&◌, cond, if◌then◌else◌, List, Option, Some, None, length, map, filter, nat_eq, nat_lt, arith, refl, sym, ap, subst, inl, inr, ◌∙◌}
use Rattle.std.specs.List.{flat_map, list_any}
use Rattle.std.proofs.lemmas.Bool.{false≢true}
use Rattle.std.proofs.lemmas.Bool.Decides.{nat_tests}
use Rattle.std.proofs.lemmas.Option.{same_Some, none-some}
use Rattle.fpl_base.specs.declared.kinds.Position.{Position}
use Rattle.rule_book.specs.declared.player.Player.{Player}
use Rattle.rule_book.specs.declared.team.Pick.{Pick}
use Rattle.rule_book.specs.declared.transfers.Sale.{Sale}
use Rattle.rule_book.specs.EntryRecords.{sales_in, sold_by, sold_in}
use Rattle.rule_book.specs.History.{Deed, Event, Holding, chip_at, counts_in, is_free_hit, is_touched, kept}
use Rattle.rule_book.specs.History.Deed.{First, Swap, Lineup, Play, Cancel}
use Rattle.rule_book.specs.HistoryRules.{FitsKept, GoesOn, is_first, is_started, times}
use Rattle.rule_book.specs.HistorySquad.{brought_by, in_squad, ins, outs, prices_among, taken_by}
use Rattle.rule_book.specs.HistoryTeam.{TeamBalances, holdings, is_held}
use Rattle.rule_book.specs.PlayerFigures.{position_in}
use Rattle.rule_book.specs.Players.{ArePlayers}
use Rattle.rule_book.specs.Uses.{has_had, names_player}
use Rattle.rule_book.proofs.HadFacts.{neither, none_brought, none_kept, none_taken, nor, not_in_squad}
use Rattle.season_ledger.specs.declared.row.Row.{Row}
use Rattle.season_ledger.specs.declared.row.Standing.{Standing}
use Rattle.season_ledger.specs.Rows.{AllAbove, Rise, base_at, carried, or_else, row_at, rows_had, team_in}
use Rattle.season_ledger.specs.Stands.{StandsFor, Tells}
use Rattle.season_ledger.proofs.Season.{balances_for}
use Rattle.manager_book.specs.declared.manager.Manager.{Manager}
use Rattle.manager_book.specs.Managers.{manager_had, managers_had, sales_name}
use Rattle.season_book.specs.Book.{EntryFacts}
use Rattle.season_book.specs.PlayerCommands.{have_had}
use Rattle.season_entries.specs.Entries.{AreEntries, AreSold, IsEntry}
use Rattle.season_entries.proofs.Placing.{have_positions}

module _ (p : ℕ) where
  abbrev sold : Sale → Bool
  sold sale = (sale.out == p) || (sale.into == p)

  -- The teams of rows, and those of a history.

  held_by_picks : (picks : List Pick) → is_held p (holdings picks) ≡ list_any (λ k. k.player == p) picks
  held_by_picks [] = refl
  held_by_picks (k ∷ picks) = ap (λ b. (k.player == p) || b) (held_by_picks picks)

  pub row_none : (rest : List Row) (g : ℕ) (s : Standing) → rows_had rest p ≡ false → row_at rest g ≡ Some s → list_any (λ k. k.player == p) s.team.picks ≡ false
  row_none [] g s none at = absurd (none-some s at)
  row_none (r ∷ rest) g s none at =
      let parts = neither (list_any (λ k. k.player == p) r.standing.team.picks) (rows_had rest p) none in
      elim (r.gw == g) as (λ b. cond b (Some r.standing) (row_at rest g) ≡ Some s → list_any (λ k. k.player == p) s.team.picks ≡ false) [
        | true ↦ λ found. subst (λ (t : Standing). list_any (λ k. k.player == p) t.team.picks ≡ false) (same_Some r.standing s found) parts.0
        | false ↦ λ found. row_none rest g s parts.1 found
      ] at

  module _ (position : ℕ → Position) (rows : List Row) (h : List Event) (st : StandsFor position rows h) where
    counted : (g : ℕ) (s : Standing) → row_at rows g ≡ Some s → list_any (λ k. k.player == p) s.team.picks ≡ in_squad (kept h g) p
    counted g s at =
        let told : TeamBalances h g (team_in (or_else (Some s) (carried (base_at rows g)))) =
        subst (λ o. TeamBalances h g (team_in (or_else o (carried (base_at rows g))))) at (balances_for position rows h g st) in
        sym (held_by_picks s.team.picks) ∙ told.squad p

    above : (n : ℕ) (rest : List Row) (g : ℕ) (s : Standing) → AllAbove n rest → row_at rest g ≡ Some s → n < g
    above n [] g s later at = absurd (none-some s at)
    above n (r ∷ rest) g s later at =
        elim (r.gw == g) as (λ b. (r.gw == g) ≡ b → cond b (Some r.standing) (row_at rest g) ≡ Some s → n < g) [
          | true ↦ λ same found. (let is : r.gw ≡ g = grind (arith, nat_tests, same) in omega (arith, later.0, is))
          | false ↦ λ other found. above n rest g s later.1 found
        ] refl at

    each_row : (rest : List Row) → Rise rest → ((g : ℕ) (s : Standing) → row_at rest g ≡ Some s → list_any (λ k. k.player == p) s.team.picks ≡ false) → rows_had rest p ≡ false
    each_row [] rise all = refl
    each_row (r ∷ rest) rise all =
        let own : (r.gw == r.gw) ≡ true = grind (arith, nat_tests) in
        nor (list_any (λ k. k.player == p) r.standing.team.picks) (rows_had rest p)
        (all r.gw r.standing (ap (λ b. cond b (Some r.standing) (row_at rest r.gw)) own))
        (each_row rest rise.1 (λ g s at.
        let later = above r.gw rest g s rise.0 at in
        let other : (r.gw == g) ≡ false = grind (arith, nat_tests, later) in
        all g s (ap (λ b. cond b (Some r.standing) (row_at rest g)) other ∙ at)))

    rows_none : has_had h p ≡ false → rows_had rows p ≡ false
    rows_none none = each_row rows st.rise (λ g s at. counted g s at ∙ not_in_squad p h g none)

  -- Transfers.

  not_sold : (d : Deed) → names_player p d ≡ false → list_any sold (sold_by d) ≡ false
  not_sold (First squad captain vice) none = refl
  not_sold (Swap sale) none = nor (sold sale) false none refl
  not_sold (Lineup players captain vice) none = refl
  not_sold (Play chip) none = refl
  not_sold Cancel none = refl

  sold_parts : (xs ys : List Sale) → list_any sold (xs ++ ys) ≡ (list_any sold xs || list_any sold ys)
  sold_parts [] ys = refl
  sold_parts (x ∷ xs) ys = elim (sold x) as (λ b. (b || list_any sold (xs ++ ys)) ≡ ((b || list_any sold xs) || list_any sold ys)) [ true ↦ refl | false ↦ sold_parts xs ys ]

  none_sold : (h : List Event) (g : ℕ) → has_had h p ≡ false → list_any sold (sold_in h g) ≡ false
  none_sold [] g none = refl
  none_sold (e ∷ h) g none =
      let parts = neither (names_player p e.deed) (has_had h p) none in
      let rest = none_sold h g parts.1 in
      elim (e.gw == g) as (λ b. list_any sold (cond b (sold_by e.deed ++ sold_in h g) (sold_in h g)) ≡ false) [
        | true ↦ sold_parts (sold_by e.deed) (sold_in h g) ∙ nor (list_any sold (sold_by e.deed)) (list_any sold (sold_in h g)) (not_sold e.deed parts.0) rest
        | false ↦ rest
      ]

  each_sale : (sales : List (ℕ × Sale)) → ((g : ℕ) → list_any sold (sales_in sales g) ≡ false) → sales_name sales p ≡ false
  each_sale [] all = refl
  each_sale (made ∷ sales) all =
      let own : (made.0 == made.0) ≡ true = grind (arith, nat_tests) in
      let here : list_any sold (made.1 ∷ sales_in sales made.0) ≡ false = subst (λ b. list_any sold (cond b (made.1 ∷ sales_in sales made.0) (sales_in sales made.0)) ≡ false) own (all made.0) in
      nor (sold made.1) (sales_name sales p) (neither (sold made.1) (list_any sold (sales_in sales made.0)) here).0
      (each_sale sales (λ g.
      elim (made.0 == g) as (λ b. list_any sold (cond b (made.1 ∷ sales_in sales g) (sales_in sales g)) ≡ false → list_any sold (sales_in sales g) ≡ false) [
        | true ↦ λ none. (neither (sold made.1) (list_any sold (sales_in sales g)) none).1
        | false ↦ λ none. none
      ] (all g)))

  sales_none : (sales : List (ℕ × Sale)) (g : ℕ) → sales_name sales p ≡ false → list_any sold (sales_in sales g) ≡ false
  sales_none [] g none = refl
  sales_none (made ∷ sales) g none =
      let parts = neither (sold made.1) (sales_name sales p) none in
      let rest = sales_none sales g parts.1 in
      elim (made.0 == g) as (λ b. list_any sold (cond b (made.1 ∷ sales_in sales g) (sales_in sales g)) ≡ false) [
        | true ↦ nor (sold made.1) (list_any sold (sales_in sales g)) parts.0 rest
        | false ↦ rest
      ]

  -- Whom what is kept does not have, the history has not had.

  later_deed : (d : Deed) → is_first d ≡ false → list_any sold (sold_by d) ≡ false → names_player p d ≡ false
  later_deed (First squad captain vice) first none = absurd (false≢true (sym first))
  later_deed (Swap sale) first none = (neither (sold sale) false none).0
  later_deed (Lineup players captain vice) first none = refl
  later_deed (Play chip) first none = refl
  later_deed Cancel first none = refl

  of_not : (a b : Bool) → a ≡ not b → a ≡ true → b ≡ false
  of_not a true same is = absurd (false≢true (sym same ∙ is))
  of_not a false same is = refl

  started : (h : List Event) (e : Event) → is_started (h ++ e ∷ []) ≡ true
  started [] e = refl
  started (x ∷ h) e = refl

  sold_behind : (e : Event) (rest : List Event) (g : ℕ) → list_any sold (sold_in (e ∷ rest) g) ≡ false → list_any sold (sold_in rest g) ≡ false
  sold_behind e rest g all = elim (e.gw == g) as (λ b. list_any sold (cond b (sold_by e.deed ++ sold_in rest g) (sold_in rest g)) ≡ false → list_any sold (sold_in rest g) ≡ false) [
    | true ↦ λ none. (neither (list_any sold (sold_by e.deed)) (list_any sold (sold_in rest g)) (sym (sold_parts (sold_by e.deed) (sold_in rest g)) ∙ none)).1
    | false ↦ λ none. none
  ] all

  -- behind the first squad each deed is another one
  tail_none : (h rest : List Event) → is_started h ≡ true → GoesOn h rest → ((g : ℕ) → list_any sold (sold_in rest g) ≡ false) → has_had rest p ≡ false
  tail_none h [] begun on none = refl
  tail_none h (e ∷ rest) begun on none =
      let later : is_first e.deed ≡ false = of_not (is_started h) (is_first e.deed) on.0.3 begun in
      let own : (e.gw == e.gw) ≡ true = grind (arith, nat_tests) in
      let here : list_any sold (sold_by e.deed ++ sold_in rest e.gw) ≡ false = subst (λ b. list_any sold (cond b (sold_by e.deed ++ sold_in rest e.gw) (sold_in rest e.gw)) ≡ false) own (none e.gw) in
      let parts = neither (list_any sold (sold_by e.deed)) (list_any sold (sold_in rest e.gw)) (sym (sold_parts (sold_by e.deed) (sold_in rest e.gw)) ∙ here) in
      nor (names_player p e.deed) (has_had rest p) (later_deed e.deed later parts.0)
      (tail_none (h ++ e ∷ []) rest (started h e) on.1 (λ g. sold_behind e rest g (none g)))

  -- of a first squad that has him the prices are one
  prices_are : (squad : List Holding) → length (prices_among p squad) ≡ times p (map (λ k. k.player) squad)
  prices_are [] = refl
  prices_are (k ∷ squad) = elim (k.player == p) as (λ b. length (cond b (k.bought ∷ []) [] ++ prices_among p squad) ≡ (if b then 1 else 0) + times p (map (λ k. k.player) squad)) [
    | true ↦ omega (arith, prices_are squad)
    | false ↦ omega (arith, prices_are squad)
  ]

  stands_once : (squad : List Holding) → list_any (λ k. k.player == p) squad ≡ true → 1 ≤ times p (map (λ k. k.player) squad)
  stands_once [] has = absurd (false≢true has)
  stands_once (k ∷ squad) has = elim (k.player == p) as (λ b. (b || list_any (λ k. k.player == p) squad) ≡ true → 1 ≤ (if b then 1 else 0) + times p (map (λ k. k.player) squad)) [
    | true ↦ λ found. omega arith
    | false ↦ λ found. omega (arith, stands_once squad found)
  ] has

  -- the first squad does not have him where no row of its gameweek has
  first_none : (e : Event) (rest : List Event) (b : Bool) → names_player p e.deed ≡ b → is_first e.deed ≡ true → GoesOn [] (e ∷ rest) → has_had rest p ≡ false
      → in_squad (kept (e ∷ rest) e.gw) p ≡ false → b ≡ false
  first_none e rest false named first on behind out = refl
  first_none e rest true named first on behind out = absurd (false≢true (sym out ∙ inside e.deed refl named first on.0.1))
    where
      own : counts_in (e ∷ rest) e.gw e.gw ≡ true
      own = let same : (e.gw == e.gw) ≡ true = grind (arith, nat_tests) in ap (λ b. b || (nat_lt e.gw e.gw && not (is_free_hit (chip_at (e ∷ rest) e.gw)))) same

      counts : Event → Bool
      counts x = counts_in (e ∷ rest) e.gw x.gw

      here : kept (e ∷ rest) e.gw ≡ e ∷ filter counts rest
      here = ap (λ b. cond b (e ∷ filter counts rest) (filter counts rest)) own

      none_behind : has_had (filter counts rest) p ≡ false
      none_behind = none_kept p counts rest behind

      length_one : (l : List ℕ) → length (l ++ []) ≡ length l
      length_one [] = refl
      length_one (x ∷ l) = omega (arith, length_one l)

      brought : ins p (kept (e ∷ rest) e.gw) ≡ length (brought_by p e.deed)
      brought = ap (ins p) here ∙ ap (λ l. length (brought_by p e.deed ++ l)) (none_brought p (filter counts rest) none_behind) ∙ length_one (brought_by p e.deed)

      taken : outs p (kept (e ∷ rest) e.gw) ≡ length (taken_by p e.deed)
      taken = ap (outs p) here ∙ ap (λ l. length (taken_by p e.deed ++ l)) (none_taken p (filter counts rest) none_behind) ∙ length_one (taken_by p e.deed)

      inside : (d : Deed) → e.deed ≡ d → names_player p d ≡ true → is_first d ≡ true → FitsKept [] d → in_squad (kept (e ∷ rest) e.gw) p ≡ true
      inside (First squad captain vice) this has is fits =
          let one : length (prices_among p squad) ≡ 1 = omega (arith, prices_are squad, stands_once squad has, fits.1 p) in
          let in_once : ins p (kept (e ∷ rest) e.gw) ≡ 1 = brought ∙ ap (λ d. length (brought_by p d)) this ∙ one in
          let out_never : outs p (kept (e ∷ rest) e.gw) ≡ 0 = taken ∙ ap (λ d. length (taken_by p d)) this in
          ap (λ n. n == (outs p (kept (e ∷ rest) e.gw) + 1)) in_once ∙ ap (λ n. 1 == (n + 1)) out_never
      inside (Swap sale) this has is fits = absurd (false≢true is)
      inside (Lineup players captain vice) this has is fits = absurd (false≢true is)
      inside (Play chip) this has is fits = absurd (false≢true is)
      inside Cancel this has is fits = absurd (false≢true is)

  module _ (position : ℕ → Position) (rows : List Row) (h : List Event) (st : StandsFor position rows h) where
    -- the squad of a touched gameweek has whom its row has
    touched_none : (g : ℕ) → is_touched h g ≡ true → rows_had rows p ≡ false → in_squad (kept h g) p ≡ false
    touched_none g touched none = by_row (row_at rows g) refl (st.told g)
      where
        by_row : (o : Option Standing) → row_at rows g ≡ o → Tells position h g o → in_squad (kept h g) p ≡ false
        by_row None at told = absurd (false≢true (sym told ∙ touched))
        by_row (Some s) at told = sym (counted position rows h st g s at) ∙ row_none rows g s none at

  history_none : (position : ℕ → Position) (rows : List Row) (sales : List (ℕ × Sale)) (h : List Event) → StandsFor position rows h → AreSold sales h
      → rows_had rows p ≡ false → sales_name sales p ≡ false → has_had h p ≡ false
  history_none position rows sales [] st told no_row no_sale = refl
  history_none position rows sales (e ∷ rest) st told no_row no_sale =
      let all : (g : ℕ) → list_any sold (sold_in (e ∷ rest) g) ≡ false = λ g. ap (list_any sold) (sym (told g)) ∙ sales_none sales g no_sale in
      let behind : has_had rest p ≡ false = tail_none (e ∷ []) rest refl st.history.1 (λ g. sold_behind e rest g (all g)) in
      let touched : is_touched (e ∷ rest) e.gw ≡ true = touches e.gw (is_touched rest e.gw) in
      let out = touched_none position rows (e ∷ rest) st e.gw touched no_row in
      let first : is_first e.deed ≡ true = not_not (is_first e.deed) st.history.0.3 in
      nor (names_player p e.deed) (has_had rest p) (first_none e rest (names_player p e.deed) refl first st.history behind out) behind
    where
      touches : (g : ℕ) (b : Bool) → ((g == g) || b) ≡ true
      touches g b = let same : (g == g) ≡ true = grind (arith, nat_tests) in ap (λ c. c || b) same

      not_not : (b : Bool) → false ≡ not b → b ≡ true
      not_not true is = refl
      not_not false is = absurd (false≢true is)

  alike : (a b : Bool) → (b ≡ false → a ≡ false) → (a ≡ false → b ≡ false) → a ≡ b
  alike false false to back = refl
  alike true false to back = to refl
  alike false true to back = sym (back refl)
  alike true true to back = refl

  had_same : (position : ℕ → Position) (m : Manager) (h : List Event) → StandsFor position m.season h → AreSold m.sales h → manager_had m p ≡ has_had h p
  had_same position m h st told =
      alike (manager_had m p) (has_had h p)
      (λ none. nor (rows_had m.season p) (sales_name m.sales p) (rows_none position m.season h st none)
      (each_sale m.sales (λ g. ap (list_any sold) (told g) ∙ none_sold h g none)))
      (λ none. let parts = neither (rows_had m.season p) (sales_name m.sales p) none in history_none position m.season m.sales h st told parts.0 parts.1)

  -- Whom the managers have had the entries have had.
  pub managers_have_had : (players : List Player) (managers : List Manager) (entries : List EntryFacts) → ArePlayers players → AreEntries players managers entries
      → managers_had managers p ≡ have_had entries p
  managers_have_had players [] [] are stand = refl
  managers_have_had players [] (x ∷ entries) are stand = absurd stand
  managers_have_had players (m ∷ managers) [] are stand = absurd stand
  managers_have_had players (m ∷ managers) (x ∷ entries) are stand =
      let st : StandsFor (position_in players) m.season x.history = stand.0.history (position_in players) (have_positions players are) in
      ap (λ b. b || managers_had managers p) (had_same (position_in players) m x.history st stand.0.sales)
      ∙ ap (λ b. has_had x.history p || b) (managers_have_had players managers entries are stand.1)
