-- What the deeds of a lawful history make of its squad.
use Rattle.std.proofs.Common.{◌≡◌, ◌≢◌, ◌<◌, ◌≤◌, ◌+◌, ℕ, Bool, true, false, cond, not, ◌&&◌, ◌||◌, List, [], ◌∷◌, ◌++◌, map, length, eqb, nat_eq, nat_lt, arith, refl, sym, ap, ◌∙◌, subst, ⊎_elim}
use Rattle.std.specs.Prelude.{filter}
use Rattle.std.specs.List.{AllByRecursion as Each}
use Rattle.std.proofs.lemmas.Bool.{cases_eq}
use Rattle.std.proofs.lemmas.Bool.Decides.{nat_tests}
use Rattle.std.proofs.lemmas.List.{append-nil, length-map}
use Rattle.fpl_base.specs.declared.kinds.Position.{Position}
use Rattle.rule_book.specs.declared.team.Pick.{Pick}
use Rattle.rule_book.specs.declared.transfers.Sale.{Sale}
use Rattle.rule_book.specs.EntryRecords.{IsPriced}
use Rattle.rule_book.specs.History.{Deed, Event, Holding, chip_at, counts_in, is_free_hit, kept}
use Rattle.rule_book.specs.History.Deed.{First, Swap, Lineup, Play, Cancel}
use Rattle.rule_book.specs.HistoryRules.{FitsKept, IsHistory, is_first, times}
use Rattle.rule_book.specs.HistorySquad.{armbands_of, bought_at, follow_one, holdings_of, in_squad, order_of, picks_of}
use Rattle.rule_book.specs.HistoryTeam.{is_begun}
use Rattle.rule_book.specs.PlayerFigures.{position_in}
use Rattle.rule_book.specs.Positions.{keepers, defenders, midfielders, forwards}
use Rattle.rule_book.specs.Squads.{has_squad_shape, positions_of}
use Rattle.season_book.specs.Book.{Facts}
use Rattle.season_book.specs.Commands.{has_player}
use Rattle.season_ledger.proofs.Counted.{KeptFrom, Sound, in_squad-times, sound_push}
use Rattle.season_ledger.proofs.Ledger.{holdings-first}
use Rattle.season_ledger.proofs.Legality.{all_fit, headed, sound_at}
use Rattle.season_ledger.proofs.Lists.{map_map}
use Rattle.season_ledger.proofs.Swaps.{armbands-push, bought-push, order-none, order-some, push_more}
use Rattle.squad_rules.proofs.FormationFacts.{all_of_four}
use Rattle.lawful_books.specs.Histories.{AreLinedUp, AreThere, IsLawfulDeed, IsLawfulFirst, IsLawfulHistory, IsLawfulSwap, positions}
use Rattle.lawful_books.specs.Fifteens.{TeamsAreFit, TeamsHaveShape}
use Rattle.lawful_books.proofs.TeamsPlayers.{among_each, each_among, each_filter, each_map, each_map_back, was_among}

-- the first event counts in its gameweek and in each after it
pub first_counts : (e : Event) (h : List Event) (g : ℕ) → IsHistory (e ∷ h) → is_begun (e ∷ h) g ≡ true → counts_in (e ∷ h) g e.gw ≡ true
first_counts e h g history begun =
    let bare : is_free_hit (chip_at (e ∷ h) e.gw) ≡ false = (headed (e ∷ h) history).bare in
    ⊎_elim
    (λ (same : e.gw ≡ g). let u : nat_eq e.gw g ≡ true = grind (arith, nat_tests) in rw u refl)
    (λ (other : e.gw ≢ g). let u : nat_lt e.gw g ≡ true = grind (arith, nat_tests) in rw (u, bare) (or_true (nat_eq e.gw g)))
    (cases_eq e.gw g)
  where
    or_true : (b : Bool) → (b || true) ≡ true
    or_true true = refl
    or_true false = refl

-- a player at the price at which events bought him
abbrev pub held_at : List Event → ℕ → Holding
held_at es p = record { player = p; bought = bought_at es p }

-- the order of events is that of a squad in a legal lineup, each player bought at a price that can be
pub record IsFormed (facts : Facts) (es : List Event) : Type 0 where
  pub lined_up : AreLinedUp facts (order_of es) (armbands_of es).0 (armbands_of es).1
  pub priced : (p : ℕ) → 0 < times p (order_of es) → IsPriced (held_at es p)

-- events and one more
abbrev pub and_then : List Event → ℕ → Deed → List Event
and_then es g d = es ++ record { gw = g; deed = d } ∷ []

module _ (facts : Facts) where
  -- the first squad
  pub formed_first : (g : ℕ) (squad : List Holding) (captain vice : ℕ) → ((p : ℕ) → times p (map (λ k. k.player) squad) ≤ 1)
      → IsLawfulFirst facts squad captain vice → IsFormed facts (and_then [] g (First squad captain vice))
  formed_first g squad captain vice apart lawful =
      let es : List Event = and_then [] g (First squad captain vice) in
      let order : order_of es ≡ map (λ k. k.player) squad = order-some [] g (First squad captain vice) (map (λ k. k.player) squad) refl refl in
      let all : Each IsPriced (holdings_of es) = subst (Each IsPriced) (sym (holdings-first g squad captain vice apart)) lawful.priced in
      record {
        lined_up = subst (λ ps. AreLinedUp facts ps captain vice) (sym order) lawful.lined_up;
        priced = λ p t. among_each (λ q. IsPriced (held_at es q)) (order_of es) p (each_map_back IsPriced (held_at es) (order_of es) all) t;
      }

  -- the positions stay slot by slot where a swap is of two players of one position
  positions_stay : (s : Sale) (ps : List ℕ) → position_in facts.players s.into ≡ position_in facts.players s.out
      → positions facts (map (follow_one (Swap s)) ps) ≡ positions facts ps
  positions_stay s [] same = refl
  positions_stay s (p ∷ ps) same = ⊎_elim
      (λ (e : p ≡ s.out).
      let u : nat_eq p s.out ≡ true = grind (arith, nat_tests) in
      let here : position_in facts.players s.into ≡ position_in facts.players p = same ∙ ap (position_in facts.players) (sym e) in
      rw u (rw here (ap (λ more. position_in facts.players p ∷ more) (positions_stay s ps same))))
      (λ (n : p ≢ s.out).
      let u : nat_eq p s.out ≡ false = grind (arith, nat_tests) in
      rw u (ap (λ more. position_in facts.players p ∷ more) (positions_stay s ps same)))
      (cases_eq p s.out)

  there_after : (s : Sale) (ps : List ℕ) → has_player facts s.into ≡ true → AreThere facts ps → AreThere facts (map (follow_one (Swap s)) ps)
  there_after s [] into all = tt
  there_after s (p ∷ ps) into all =
      (elim (nat_eq p s.out) as (λ b. has_player facts (cond b s.into p) ≡ true) [ true ↦ into | false ↦ all.0 ], there_after s ps into all.1)

  formed_swap : (es : List Event) (g : ℕ) (s : Sale) → IsFormed facts es → IsLawfulSwap facts s → IsFormed facts (and_then es g (Swap s))
  formed_swap es g s formed lawful =
      let after : List Event = and_then es g (Swap s) in
      let order : order_of after ≡ map (follow_one (Swap s)) (order_of es) = order-none es g (Swap s) refl refl in
      let bands : armbands_of after ≡ armbands_of es = armbands-push es g (Swap s) in
      let stay : positions facts (order_of after) ≡ positions facts (order_of es)
      = ap (positions facts) order ∙ positions_stay s (order_of es) lawful.position in
      record {
        lined_up = record {
          there = subst (AreThere facts) (sym order) (there_after s (order_of es) lawful.into formed.lined_up.there);
          shape = ap has_squad_shape stay ∙ formed.lined_up.shape;
          lineup = rw (stay, bands) formed.lined_up.lineup;
        };
        priced = λ p t. price p (subst (λ ps. 0 < times p ps) order t);
      }
    where
      price : (p : ℕ) → 0 < times p (map (follow_one (Swap s)) (order_of es)) → IsPriced (held_at (and_then es g (Swap s)) p)
      price p t = ⊎_elim
          (λ (e : s.into ≡ p).
          let u : nat_eq s.into p ≡ true = grind (arith, nat_tests) in
          let b : bought_at (and_then es g (Swap s)) p ≡ s.bought = bought-push es g (Swap s) p ∙ (rw u refl) in
          rw b (lawful.priced.2, lawful.priced.3))
          (λ (n : s.into ≢ p).
          let u : nat_eq s.into p ≡ false = grind (arith, nat_tests) in
          let b : bought_at (and_then es g (Swap s)) p ≡ bought_at es p = bought-push es g (Swap s) p ∙ (rw u refl) in
          rw b (formed.priced p (was_among s (order_of es) p (λ e. n (sym e)) t)))
          (cases_eq s.into p)

  formed_lineup : (es : List Event) (g : ℕ) (ps : List ℕ) (captain vice : ℕ) → IsFormed facts es → Sound es
      → FitsKept es (Lineup ps captain vice) → AreLinedUp facts ps captain vice → IsFormed facts (and_then es g (Lineup ps captain vice))
  formed_lineup es g ps captain vice formed sound fits lawful =
      let after : List Event = and_then es g (Lineup ps captain vice) in
      let order : order_of after ≡ ps = order-some es g (Lineup ps captain vice) ps refl refl in
      let bands : armbands_of after ≡ (captain, vice) = armbands-push es g (Lineup ps captain vice) in
      record {
        lined_up = rw (order, bands) lawful;
        priced = λ p t. price p (subst (λ qs. 0 < times p qs) order t) (in_squad es p) refl;
      }
    where
      price : (p : ℕ) → 0 < times p ps → (b : Bool) → in_squad es p ≡ b → IsPriced (held_at (and_then es g (Lineup ps captain vice)) p)
      price p t true e =
          let b : bought_at (and_then es g (Lineup ps captain vice)) p ≡ bought_at es p = bought-push es g (Lineup ps captain vice) p in
          let one : times p (order_of es) ≡ 1 = in_squad-times es p sound e in
          rw b (formed.priced p (omega arith))
      price p t false e = let none : times p ps ≡ cond (in_squad es p) 1 0 = fits p in let zero : times p ps ≡ 0 = rw e at none in absurd (omega arith)

  -- a deed that leaves order, armbands and prices
  formed_same : (es : List Event) (g : ℕ) (d : Deed) → order_of (and_then es g d) ≡ map (follow_one d) (order_of es) → ((p : ℕ) → follow_one d p ≡ p)
      → armbands_of (and_then es g d) ≡ armbands_of es → ((p : ℕ) → bought_at (and_then es g d) p ≡ bought_at es p)
      → IsFormed facts es → IsFormed facts (and_then es g d)
  formed_same es g d moved none bands prices formed =
      let order : order_of (and_then es g d) ≡ order_of es = moved ∙ same (order_of es) in
      record {
        lined_up = rw (order, bands) formed.lined_up;
        priced = λ p t. rw (prices p) (formed.priced p (subst (λ ps. 0 < times p ps) order t));
      }
    where
      same : (ps : List ℕ) → map (follow_one d) ps ≡ ps
      same [] = refl
      same (p ∷ ps) = let here : follow_one d p ≡ p = none p in let more : map (follow_one d) ps ≡ ps = same ps in cc

  pub formed_push : (es : List Event) (g : ℕ) (d : Deed) → IsFormed facts es → Sound es → FitsKept es d → IsLawfulDeed facts d → IsFormed facts (and_then es g d)
  formed_push es g (First squad captain vice) formed sound fits lawful =
      let bad : false ≡ true = subst (λ l. has_squad_shape (positions facts (order_of l)) ≡ true) fits.0 formed.lined_up.shape in cc
  formed_push es g (Swap s) formed sound fits lawful = formed_swap es g s formed lawful
  formed_push es g (Lineup ps captain vice) formed sound fits lawful = formed_lineup es g ps captain vice formed sound fits lawful
  formed_push es g (Play chip) formed sound fits lawful =
      formed_same es g (Play chip) (order-none es g (Play chip) refl refl) (λ p. refl) (armbands-push es g (Play chip)) (bought-push es g (Play chip)) formed
  formed_push es g Cancel formed sound fits lawful =
      formed_same es g Cancel (order-none es g Cancel refl refl) (λ p. refl) (armbands-push es g Cancel) (bought-push es g Cancel) formed

  pub formed_from : (before es : List Event) → IsFormed facts before → Sound before → KeptFrom before es → Each (λ (e : Event). IsLawfulDeed facts e.deed) es
      → IsFormed facts (before ++ es)
  formed_from before [] formed sound fits lawful = subst (IsFormed facts) (sym (append-nil before)) formed
  formed_from before (e ∷ es) formed sound fits lawful =
      subst (IsFormed facts) (push_more before e es)
      (formed_from (before ++ e ∷ []) es (formed_push before e.gw e.deed formed sound fits.0 lawful.0) (sound_push before e.gw e.deed sound fits.0) fits.1 lawful.1)

  -- what First begins and lawful deeds go on with is formed
  formed_all : (g : ℕ) (d : Deed) (es : List Event) → is_first d ≡ true → KeptFrom [] (record { gw = g; deed = d } ∷ es)
      → Each (λ (e : Event). IsLawfulDeed facts e.deed) (record { gw = g; deed = d } ∷ es) → IsFormed facts (record { gw = g; deed = d } ∷ es)
  formed_all g (First squad captain vice) es first fits lawful =
      let nothing : Sound [] = record { counted = λ p. refl; apart = λ p. (omega arith) } in
      formed_from (and_then [] g (First squad captain vice)) es (formed_first g squad captain vice fits.0.1 lawful.0)
      (sound_push [] g (First squad captain vice) nothing fits.0) fits.1 lawful.1
  formed_all g (Swap s) es first fits lawful = cc
  formed_all g (Lineup ps captain vice) es first fits lawful = cc
  formed_all g (Play chip) es first fits lawful = cc
  formed_all g Cancel es first fits lawful = cc

  -- so is what counts in a gameweek of a lawful history from its first on
  pub formed_kept : (h : List Event) (g : ℕ) → IsHistory h → IsLawfulHistory facts h → is_begun h g ≡ true → IsFormed facts (kept h g)
  formed_kept [] g history lawful begun = cc
  formed_kept (e ∷ h) g history lawful begun =
      let counts : counts_in (e ∷ h) g e.gw ≡ true = first_counts e h g history begun in
      let whole : kept (e ∷ h) g ≡ e ∷ filter (λ v. counts_in (e ∷ h) g v.gw) h = rw counts refl in
      subst (IsFormed facts) (sym whole)
      (formed_all e.gw e.deed (filter (λ v. counts_in (e ∷ h) g v.gw) h) (not_flipped (is_first e.deed) history.0.3)
      (subst (KeptFrom []) whole ((all_fit (e ∷ h) history).now g))
      (lawful.deeds.0, each_filter (λ (v : Event). IsLawfulDeed facts v.deed) (λ v. counts_in (e ∷ h) g v.gw) h lawful.deeds.1))
    where
      not_flipped : (b : Bool) → false ≡ not b → b ≡ true
      not_flipped true f = refl
      not_flipped false f = cc

-- a squad of the right shape has fifteen
pub fifteen_of_shape : (xs : List Position) → has_squad_shape xs ≡ true → length xs ≡ 15
fifteen_of_shape xs shape = summed (keepers xs) (defenders xs) (midfielders xs) (forwards xs) shape (all_of_four xs)
  where
    summed : (a b c d : ℕ) → (eqb a 2 && eqb b 5 && eqb c 5 && eqb d 3) ≡ true → a + b + c + d ≡ length xs → length xs ≡ 15
    summed a b c d four all =
        let two : a ≡ 2 = grind (arith, nat_tests) in
        let five : b ≡ 5 = grind (arith, nat_tests) in
        let other : c ≡ 5 = grind (arith, nat_tests) in
        let three : d ≡ 3 = grind (arith, nat_tests) in
        omega arith

-- the positions of the picks are those of the order
pub positions_as : (facts : Facts) (es : List Event) → positions_of (picks_of (position_in facts.players) es) ≡ positions facts (order_of es)
positions_as facts es = map_map (λ (k : Pick). k.position) (λ p. record { player = p; position = position_in facts.players p; bought = bought_at es p }) (order_of es)

pub teams_have_shape : TeamsHaveShape
teams_have_shape facts h g history lawful begun =
    let formed = formed_kept facts h g history lawful begun in
    let picks = picks_of (position_in facts.players) (kept h g) in
    let shape : has_squad_shape (positions_of picks) ≡ true = ap has_squad_shape (positions_as facts (kept h g)) ∙ formed.lined_up.shape in
    record { shape = shape; fifteen = sym (length-map picks (λ (k : Pick). k.position)) ∙ fifteen_of_shape (positions_of picks) shape }

pub teams_are_fit : TeamsAreFit
teams_are_fit facts h g history lawful begun =
    let formed = formed_kept facts h g history lawful begun in
    record {
      lined_up = formed.lined_up;
      priced = each_map IsPriced (held_at (kept h g)) (order_of (kept h g)) (each_among (λ p. IsPriced (held_at (kept h g) p)) (order_of (kept h g)) formed.priced);
      apart = (sound_at h g history).apart;
    }
