-- The teams that a map tells of follow from what was before them.
use Rattle.std.proofs.Common.{◌≡◌, ◌≢◌, ◌<◌, ◌≤◌, ◌+◌, ◌-◌, ℕ, Bool, true, false, cond, not, ◌&&◌, List, [], ◌∷◌, ◌++◌, Option, Some, None, eqb, eq-eqb, nat_eq, nat_lt, arith, refl, sym, ap, ◌∙◌, subst, ⊎_elim}
use Rattle.std.specs.Prelude.{filter}
use Rattle.std.specs.List.{AllByRecursion as Each}
use Rattle.std.specs.Option.{option_map, option_map_or}
use Rattle.std.proofs.lemmas.Bool.{cases_eq}
use Rattle.std.proofs.lemmas.Bool.Decides.{nat_tests}
use Rattle.std.proofs.lemmas.List.{append-nil}
use Rattle.rule_book.specs.EntryRecords.{SameHoldings, after_sales, earned_for, paid_for, sold_by, sold_in}
use Rattle.rule_book.specs.History.{Deed, Event, chip_at, is_free_hit, is_touched, kept}
use Rattle.rule_book.specs.History.Deed.{First, Swap, Lineup, Play, Cancel}
use Rattle.rule_book.specs.HistoryRules.{IsHistory, is_first}
use Rattle.rule_book.specs.HistorySquad.{bought_at, earned, earned_by, holdings_of, order_of, paid_by, spent}
use Rattle.rule_book.specs.TeamOfHistory.{CanPay}
use Rattle.rule_book.specs.UpTo.{start_of}
use Rattle.season_records.specs.declared.slot.Slot.TheVariants as slot
use Rattle.season_book.specs.Book.{Facts}
use Rattle.season_ledger.proofs.Carry.{touched_each}
use Rattle.season_ledger.proofs.Counted.{KeptFrom}
use Rattle.season_ledger.proofs.InOrder.{events_of, kept_in_order}
use Rattle.season_ledger.proofs.Legality.{all_fit, earlier, headed, sound_at}
use Rattle.season_ledger.proofs.Lists.{each_weaker, filter_none, map_map}
use Rattle.season_ledger.proofs.Swaps.{earned-append, push_more, spent-append}
use Rattle.season_records.specs.Records.{entry_item}
use Rattle.stored_records.specs.EntryTold.{first_in, first_told, team_told}
use Rattle.stored_records.specs.Sequels.{are_same_holdings, every_sale_told, follows, goes_on, holdings_told, last_before, opens_with}
use Rattle.lawful_books.specs.Histories.{IsLawfulDeed, IsLawfulHistory}
use Rattle.lawful_books.specs.TeamsTold.{RecordedTeam, TeamsToldGoOn}
use Rattle.lawful_books.proofs.Bases.{IsBase, base_is}
use Rattle.lawful_books.proofs.TeamsPlayers.{each_filter}
use Rattle.lawful_books.proofs.Sales.{earned_as, none_first, sales_as, sold_as, spent_as}
use Rattle.lawful_books.proofs.SameSquads.{same_after, same_by_test, sold}
use Rattle.lawful_books.proofs.Told.{recorded, recorded_in, recorded_picks, team_as, team_is}

-- what a first squad pays
first_pays : (facts : Facts) (d : Deed) → is_first d ≡ true → IsLawfulDeed facts d → (450 ≤ paid_by d) × (paid_by d ≤ 1000) × (earned_by d ≡ 0) × (sold_by d ≡ [])
first_pays facts (First squad captain vice) first lawful = (lawful.least, lawful.most, refl, refl)
first_pays facts (Swap sale) first lawful = cc
first_pays facts (Lineup players captain vice) first lawful = cc
first_pays facts (Play chip) first lawful = cc
first_pays facts Cancel first lawful = cc

not_flipped : (b : Bool) → false ≡ not b → b ≡ true
not_flipped true f = refl
not_flipped false f = cc

-- where events fit behind others, the last of them fit behind all before them
kept_from_split : (before es more : List Event) → KeptFrom before (es ++ more) → KeptFrom (before ++ es) more
kept_from_split before [] more fits = subst (λ (l : List Event). KeptFrom l more) (sym (append-nil before)) fits
kept_from_split before (e ∷ es) more fits = subst (λ (l : List Event). KeptFrom l more) (push_more before e es) (kept_from_split (before ++ e ∷ []) es more fits.1)

holdings_as : (es : List Event) → holdings_told (recorded_picks es) ≡ holdings_of es
holdings_as es = map_map (λ (pick : ℕ × ℕ). record { player = pick.0; bought = pick.1 }) (λ p. (p, bought_at es p)) (order_of es)

module _ (facts : Facts) (e : Event) (k : List Event) (history : IsHistory (e ∷ k)) (lawful : IsLawfulHistory facts (e ∷ k)) where
  abbrev own : List Event
  own = e ∷ k

  none_more : (g : ℕ) → Each (λ (v : Event). is_first v.deed ≡ false) (events_of k g)
  none_more g = each_filter (λ (v : Event). is_first v.deed ≡ false) (λ v. nat_eq v.gw g) k (none_first (e ∷ []) k refl history.1)

  -- the first gameweek
  opens : (g : ℕ) → e.gw ≡ g → CanPay own g
      → opens_with (paid_for (sold_in own g)) (earned_for (sold_in own g)) ((1000 + earned (kept own g)) - spent (kept own g)) ≡ true
  opens g same can =
      let u : nat_eq e.gw g ≡ true = grind (arith, nat_tests) in
      let first = first_pays facts e.deed (not_flipped (is_first e.deed) history.0.3) lawful.deeds.0 in
      let nothing : earlier own g ≡ []
      = filter_none (λ v. nat_lt v.gw g && not (is_free_hit (chip_at own v.gw))) own
      (each_weaker (λ (v : Event). is_touched own v.gw ≡ true) (λ (v : Event). (nat_lt v.gw g && not (is_free_hit (chip_at own v.gw))) ≡ false) (λ v t. late v.gw t) own (touched_each own)) in
      let here : events_of own g ≡ e ∷ events_of k g = rw u refl in
      let all : kept own g ≡ e ∷ events_of k g = kept_in_order own g history ∙ ap (λ l. l ++ events_of own g) nothing ∙ here in
      let sales : sold_in own g ≡ sold (events_of k g)
      = sold_as own g ∙ ap sold here ∙ ap (λ l. l ++ sold (events_of k g)) first.3 in
      let pays : spent (kept own g) ≡ paid_by e.deed + paid_for (sold_in own g)
      = ap spent all ∙ ap (λ n. paid_by e.deed + n) (spent_as (events_of k g) (none_more g) ∙ ap paid_for (sym sales)) in
      let earns : earned (kept own g) ≡ earned_by e.deed + earned_for (sold_in own g)
      = ap earned all ∙ ap (λ n. earned_by e.deed + n) (earned_as (events_of k g) (none_more g) ∙ ap earned_for (sym sales)) in
      sums (paid_by e.deed) (earned_by e.deed) (paid_for (sold_in own g)) (earned_for (sold_in own g)) (spent (kept own g)) (earned (kept own g)) first.0 first.1 first.2 pays earns can
    where
      late : (v : ℕ) → is_touched own v ≡ true → (nat_lt v g && not (is_free_hit (chip_at own v))) ≡ false
      late v t = let l : e.gw ≤ v = (headed own history).least v t in let a : nat_lt v g ≡ false = grind (arith, nat_tests) in rw a refl

      sums : (s z p r a b : ℕ) → 450 ≤ s → s ≤ 1000 → z ≡ 0 → a ≡ s + p → b ≡ z + r → a ≤ 1000 + b → opens_with p r ((1000 + b) - a) ≡ true
      sums s z p r a b least most none pays earns can =
          let low : ((1000 + b) - a) + p + 450 ≤ 1000 + r = omega arith in
          let high : 1000 + r ≤ ((1000 + b) - a) + p + 1000 = omega arith in
          grind (arith, nat_tests)

  -- a later one
  module _ (g : ℕ) (later : e.gw < g) where
    sales_here : events_of own g ≡ events_of k g
    sales_here = let u : nat_eq e.gw g ≡ false = grind (arith, nat_tests) in rw u refl

    after : (w : ℕ) → earlier own g ≡ kept own w → CanPay own w → CanPay own g → follows (Some (recorded own w)) (sold_in own g) (recorded own g) ≡ true
    after w base before now =
        let es = events_of own g in
        let none : Each (λ (v : Event). is_first v.deed ≡ false) es = subst (Each (λ (v : Event). is_first v.deed ≡ false)) (sym sales_here) (none_more g) in
        let all : kept own g ≡ kept own w ++ es = kept_in_order own g history ∙ ap (λ l. l ++ es) base in
        let fits : KeptFrom (kept own w) es = kept_from_split [] (kept own w) es (subst (KeptFrom []) all ((all_fit own history).now g)) in
        let same : SameHoldings (holdings_of (kept own w ++ es)) (after_sales (sold es) (holdings_of (kept own w)))
        = same_after (kept own w) es (holdings_of (kept own w)) (sound_at own w history) fits none (record { players = λ p. refl; prices = λ p. refl }) in
        let sales : sold_in own g ≡ sold es = sold_as own g in
        let test : are_same_holdings (holdings_told (recorded_picks (kept own g))) (after_sales (sold_in own g) (holdings_told (recorded_picks (kept own w)))) ≡ true
        = rw (holdings_as (kept own g), holdings_as (kept own w), all, sales) (same_by_test _ _ same) in
        let pays : spent (kept own g) ≡ spent (kept own w) + paid_for (sold_in own g)
        = ap spent all ∙ spent-append (kept own w) es ∙ ap (λ n. spent (kept own w) + n) (spent_as es none ∙ ap paid_for (sym sales)) in
        let earns : earned (kept own g) ≡ earned (kept own w) + earned_for (sold_in own g)
        = ap earned all ∙ earned-append (kept own w) es ∙ ap (λ n. earned (kept own w) + n) (earned_as es none ∙ ap earned_for (sym sales)) in
        let bank : ((1000 + earned (kept own g)) - spent (kept own g)) + paid_for (sold_in own g) ≡ ((1000 + earned (kept own w)) - spent (kept own w)) + earned_for (sold_in own g)
        = omega arith in
        rw (test, eq-eqb _ _ bank) refl

    starts_before : earlier own g ≡ [] → ⊥
    starts_before none =
        let bare : is_free_hit (chip_at own e.gw) ≡ false = (headed own history).bare in
        let u : nat_lt e.gw g ≡ true = grind (arith, nat_tests) in
        let some : e ∷ filter (λ v. nat_lt v.gw g && not (is_free_hit (chip_at own v.gw))) k ≡ [] = (rw (u, bare) at none) in cc

    goes : (o : Option RecordedTeam) → IsBase own g o → ((w : ℕ) → is_touched own w ≡ true → CanPay own w) → CanPay own g → follows o (sold_in own g) (recorded own g) ≡ true
    goes None base paid now = absurd (starts_before base)
    goes (Some t) base paid now = subst (λ (b : RecordedTeam). follows (Some b) (sold_in own g) (recorded own g) ≡ true) (sym base.2) (after base.0 base.3 (paid base.0 base.1) now)

when : (b x y : Bool) → b ≡ true → x ≡ true → cond b x y ≡ true
when true x y holds e = e
when false x y holds e = cc

unless : (b x y : Bool) → b ≡ false → y ≡ true → cond b x y ≡ true
unless true x y fails e = cc
unless false x y fails e = e

-- a team of a lawful history opens it, or follows from the last one before it
goes_by : (facts : Facts) (h : List Event) → IsHistory h → IsLawfulHistory facts h → ((w : ℕ) → is_touched h w ≡ true → CanPay h w)
    → (teams : ℕ → Option RecordedTeam) → ((w : ℕ) → teams w ≡ recorded_in h w) → (g : ℕ) → is_touched h g ≡ true
    → cond (option_map_or (λ s. eqb s g) (start_of h) false)
    (opens_with (paid_for (sold_in h g)) (earned_for (sold_in h g)) ((1000 + earned (kept h g)) - spent (kept h g)))
    (follows (last_before teams g) (sold_in h g) (recorded h g)) ≡ true
goes_by facts [] history lawful paid teams are g touched = cc
goes_by facts (e ∷ k) history lawful paid teams are g touched = ⊎_elim
    (λ (same : e.gw ≡ g). let u : nat_eq e.gw g ≡ true = grind (arith, nat_tests) in when _ _ _ u (opens facts e k history lawful g same (paid g touched)))
    (λ (other : e.gw ≢ g).
    let u : nat_eq e.gw g ≡ false = grind (arith, nat_tests) in
    let least : e.gw ≤ g = (headed (e ∷ k) history).least g touched in
    unless _ _ _ u (goes facts e k history lawful g (omega arith) (last_before teams g) (base_is (e ∷ k) teams are g) paid (paid g touched)))
    (cases_eq e.gw g)

pub teams_told_go_on : TeamsToldGoOn
teams_told_go_on m book facts e entry g t tells own told =
    let h = entry.history in
    let is = team_is m book facts tells own.season e entry own.there g t told in
    let start : first_told m e ≡ start_of h = ap first_in (tells (slot.Entry e) ∙ ap (option_map (entry_item e)) own.there) in
    let sales : every_sale_told m e g ≡ sold_in h g = sales_as m book tells e entry own.there g (own.lawful.limits g) in
    let on = goes_by facts h own.history own.lawful own.paid (team_told m e) (team_as m book facts tells own.season e entry own.there) g is.0 in
    subst (λ (u : RecordedTeam). goes_on m e g u ≡ true) (sym is.1) (rw (start, sales) on)
