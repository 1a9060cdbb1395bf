-- A lawful history goes on by an order of the fifteen.
use Rattle.std.proofs.Common.{◌≡◌, ◌<◌, ◌≤◌, ◌+◌, ◌==◌, nat_eq, ℕ, zero, suc, Bool, true, false, cond, not, ◌&&◌, List, [], ◌∷◌, ◌++◌, Option, Some, None, find, length, map, arith, refl, sym, ap, subst, ◌∙◌, inl, inr, if◌then◌else◌}
use Rattle.std.specs.List.{AllByRecursion as Each, range_with_len, slice_index, sum_by}
use Rattle.std.specs.Option.{option_map, option_to_list}
use Rattle.std.proofs.lemmas.Bool.{cases_eq, eq-eqb, eqb-true, ne_eqb, not-false, or_parts}
use Rattle.std.proofs.lemmas.Bool.Decides.{nat_tests}
use Rattle.std.proofs.lemmas.List.{length-map}
use Rattle.std.proofs.lemmas.List.Sums.{sum_by-cons}
use Rattle.fpl_base.specs.declared.kinds.Position.{Position}
use Rattle.fpl_base.specs.declared.rule.Rule.{Rule}
use Rattle.fpl_base.specs.declared.rule.Rule.TheVariants as rule
use Rattle.rule_book.specs.declared.team.Pick.{Pick}
use Rattle.rule_book.specs.declared.team.Team.{Team}
use Rattle.rule_book.specs.Batch.{is_held}
use Rattle.rule_book.specs.EntryCalls.{first_stranger, lined_picks, lineup_deeds, lineup_refused, of_team, order_refusal, slot_of, starts_in}
use Rattle.rule_book.specs.History.{Event, chip_at, kept}
use Rattle.rule_book.specs.History.Deed.{Lineup}
use Rattle.rule_book.specs.HistoryRules.{IsHistory, NoneAfter, is_started, times}
use Rattle.rule_book.specs.HistorySquad.{order_of, picks_of}
use Rattle.rule_book.specs.HistoryTransfers.{swaps_in}
use Rattle.rule_book.specs.Lineups.{lineup_refusal}
use Rattle.rule_book.specs.PlayerFigures.{position_in}
use Rattle.rule_book.specs.Positions.{is_defender, is_forward, is_keeper, is_midfielder}
use Rattle.rule_book.specs.Refusals.{first_broken}
use Rattle.rule_book.specs.Repeats.{first_repeat, is_repeat}
use Rattle.rule_book.specs.Squads.{has_squad_shape, positions_of}
use Rattle.rule_book.specs.TeamOfHistory.{team_of}
use Rattle.season_book.specs.Book.{Facts}
use Rattle.season_ledger.proofs.Counts.{swaps_deed}
use Rattle.season_ledger.proofs.Kept.{chip_here}
use Rattle.season_ledger.proofs.Ledger.{times_without, without}
use Rattle.season_ledger.proofs.Lists.{map_map}
use Rattle.season_ledger.proofs.Pigeons.{pigeons}
use Rattle.store_validation.proofs.EntriesJudged.{none_mapped}
use Rattle.lawful_books.specs.Histories.{AreLinedUp, AreThere, IsLawfulHistory, positions}
use Rattle.lawful_books.specs.EntriesKeeping.{TeamsHaveShape}
use Rattle.lawful_books.proofs.Batches.{none_found}
use Rattle.lawful_books.proofs.Grows.{MayGoOn, may_go_on, starts_same}
use Rattle.lawful_books.proofs.EntriesPlayers.{fifteen}
use Rattle.lawful_books.proofs.Standing.{begun, pick, pick_is}
use Rattle.lawful_books.proofs.Unbroken.{holds, none_first}

-- The same players, as often, in another order.

-- no number stands at an earlier place too
abbrev AreNoRepeats : List ℕ → Type 0
AreNoRepeats xs = (k : ℕ) → k < length xs → is_repeat xs k ≡ false

at_range : (P : ℕ → Type 0) (a n k : ℕ) → Each P (range_with_len a n) → a ≤ k → k < a + n → P k
at_range P a zero k all low high = absurd (omega (arith, low, high))
at_range P a (suc n) k all low high = elim (cases_eq a k) [
  | inl same ↦ subst P same all.0
  | inr other ↦ at_range P (a + 1) n k all.1 (omega (arith, low, other)) (omega (arith, high))
]

none_repeat : (xs : List ℕ) → first_repeat xs ≡ None → AreNoRepeats xs
none_repeat xs is k within =
    at_range (λ k. is_repeat xs k ≡ false) 0 (length xs) k (none_found (is_repeat xs) (range_with_len 0 (length xs)) (none_mapped (slice_index xs) (find (is_repeat xs) (range_with_len 0 (length xs))) is)) (omega arith) (omega (arith, within))

none_of : (x : ℕ) (xs : List ℕ) → ((k : ℕ) → k < length xs → (x == slice_index xs k) ≡ false) → times x xs ≡ 0
none_of x [] apart = refl
none_of x (y ∷ xs) apart =
    let other : (x == y) ≡ false = apart 0 (omega arith) in
    let test : nat_eq y x ≡ false = grind (arith, nat_tests, other) in
    let more : times x xs ≡ 0 = none_of x xs (λ k within. apart (suc k) (omega (arith, within))) in
    rw (test, more) refl

apart_times : (xs : List ℕ) → AreNoRepeats xs → (p : ℕ) → times p xs ≤ 1
apart_times [] apart p = omega arith
apart_times (x ∷ xs) apart p =
    let parts : (k : ℕ) → k < length xs → ((x == slice_index xs k) ≡ false) × (is_repeat xs k ≡ false) =
    λ k within. or_parts (x == slice_index xs k) (is_repeat xs k) (apart (suc k) (omega (arith, within))) in
    let others : times x xs ≡ 0 = none_of x xs (λ k within. (parts k within).0) in
    let more : times p xs ≤ 1 = apart_times xs (λ k within. (parts k within).1) p in
    elim (cases_eq x p) [
      | inl same ↦ rw (eq-eqb x p same) (let none : times p xs ≡ 0 = subst (λ q. times q xs ≡ 0) same others in omega (arith, none))
      | inr other ↦ rw (ne_eqb x p other) (omega (arith, more))
    ]

sum_without : (f : ℕ → ℕ) (p : ℕ) (ps : List ℕ) → 0 < times p ps → sum_by f ps ≡ f p + sum_by f (without p ps)
unfolding without
sum_without f p [] some = absurd (omega (arith, some))
sum_without f p (q ∷ ps) some = by (q == p) refl some (sum_without f p ps)
  where
    by : (b : Bool) → (q == p) ≡ b → 0 < cond b 1 0 + times p ps → (0 < times p ps → sum_by f ps ≡ f p + sum_by f (without p ps))
        → sum_by f (q ∷ ps) ≡ f p + sum_by f (cond b ps (q ∷ without p ps))
    by true is some more = sum_by-cons f q ps ∙ ap (λ q. f q + sum_by f ps) (eqb-true q p is)
    by false is some more = omega (arith, sum_by-cons f q ps, sum_by-cons f q (without p ps), more (omega (arith, some)))

sum_alike : (f : ℕ → ℕ) (ps qs : List ℕ) → ((p : ℕ) → times p ps ≡ times p qs) → sum_by f ps ≡ sum_by f qs
sum_alike f [] [] same = refl
sum_alike f [] (q ∷ qs) same =
    let here : 0 ≡ cond (nat_eq q q) 1 0 + times q qs = same q in
    let more : 0 ≡ 1 + times q qs = rw (eq-eqb q q refl) at here in
    absurd (omega (arith, more))
sum_alike f (p ∷ ps) qs same =
    let here : cond (nat_eq p p) 1 0 + times p ps ≡ times p qs = same p in
    let more : 1 + times p ps ≡ times p qs = rw (eq-eqb p p refl) at here in
    let some : 0 < times p qs = omega (arith, more) in
    let rest : (r : ℕ) → times r ps ≡ times r (without p qs) = λ r. (let one : cond (nat_eq p r) 1 0 + times r ps ≡ times r qs = same r in omega (arith, one, times_without p r qs some)) in
    sum_by-cons f p ps ∙ ap (λ n. f p + n) (sum_alike f ps (without p qs) rest) ∙ sym (sum_without f p qs some)

-- so many of them pass a test
module _ (position : ℕ → Position) (ps qs : List ℕ) (same : (p : ℕ) → times p ps ≡ times p qs) where
  by_player : (test : Position → Bool) (ps : List ℕ) → sum_by (λ x. cond (test x) 1 0) (map position ps) ≡ sum_by (λ p. cond (test (position p)) 1 0) ps
  by_player test [] = refl
  by_player test (p ∷ ps) =
      sum_by-cons (λ x. cond (test x) 1 0) (position p) (map position ps) ∙ ap (λ n. cond (test (position p)) 1 0 + n) (by_player test ps)
      ∙ sym (sum_by-cons (λ p. cond (test (position p)) 1 0) p ps)

  as_many : (test : Position → Bool) → sum_by (λ x. cond (test x) 1 0) (map position ps) ≡ sum_by (λ x. cond (test x) 1 0) (map position qs)
  as_many test = by_player test ps ∙ sum_alike (λ p. cond (test (position p)) 1 0) ps qs same ∙ sym (by_player test qs)

  shape_alike : has_squad_shape (map position ps) ≡ has_squad_shape (map position qs)
  shape_alike = λ i. as_many is_keeper i == 2 && as_many is_defender i == 5 && as_many is_midfielder i == 5 && as_many is_forward i == 3

-- An order of the team that stands.
module _ (facts : Facts) (h : List Event) (g : ℕ) where
  abbrev picks : List Pick
  picks = picks_of (position_in facts.players) (kept h g)

  -- the picks of the order are at their players' positions
  lined_positions : (order : List ℕ) → Each (λ p. not (is_held picks p) ≡ false) order → positions_of (lined_picks picks order) ≡ positions facts order
  lined_positions [] held = refl
  lined_positions (p ∷ order) held =
      ap (λ o. positions_of (option_to_list o ++ lined_picks picks order)) (pick_is (position_in facts.players) (kept h g) p (not-false _ held.0)).0
      ∙ ap (λ more. position_in facts.players p ∷ more) (lined_positions order held.1)

  -- who is of the order stands in the team
  stand : (order : List ℕ) → Each (λ p. not (is_held picks p) ≡ false) order → (p : ℕ) → 0 < times p order → 0 < times p (order_of (kept h g))
  stand [] held p some = absurd (omega (arith, some))
  stand (q ∷ order) held p some = by (q == p) refl some (stand order held.1 p)
    where
      by : (b : Bool) → (q == p) ≡ b → 0 < cond b 1 0 + times p order → (0 < times p order → 0 < times p (order_of (kept h g))) → 0 < times p (order_of (kept h g))
      by true is some more = subst (λ p. 0 < times p (order_of (kept h g))) (eqb-true q p is) (pick_is (position_in facts.players) (kept h g) q (not-false _ held.0)).1
      by false is some more = more (omega (arith, some))

  same_places : positions_of picks ≡ map (position_in facts.players) (order_of (kept h g))
  same_places = map_map (λ (k : Pick). k.position) (pick (position_in facts.players) (kept h g)) (order_of (kept h g))

  shaped : (order : List ℕ) → length order ≡ 15 → Each (λ p. not (is_held picks p) ≡ false) order → first_repeat order ≡ None
      → has_squad_shape (positions_of picks) ≡ true → has_squad_shape (positions facts order) ≡ true
  shaped order many held once shape =
      let stands : List ℕ = order_of (kept h g) in
      let placed : has_squad_shape (map (position_in facts.players) stands) ≡ true = ap has_squad_shape (sym same_places) ∙ shape in
      let fifteen_stand : length (map (position_in facts.players) stands) ≡ 15 = fifteen (map (position_in facts.players) stands) placed in
      let as_many_stand : length (map (position_in facts.players) stands) ≡ length stands = length-map stands (position_in facts.players) in
      shape_alike (position_in facts.players) order stands
      (pigeons order stands (apart_times order (none_repeat order once)) (stand order held) (omega (arith, many, fifteen_stand, as_many_stand)))
      ∙ placed

  pub lined : TeamsHaveShape → NoneAfter g h → IsHistory h → IsLawfulHistory facts h → (order : List ℕ) (captain vice : ℕ) → length order ≡ 15 → AreThere facts order
      → lineup_refused facts.players h order captain vice g ≡ None → MayGoOn facts h g (lineup_deeds order captain vice)
  lined shapes early history lawful order captain vice many all granted =
      let team : Team = team_of (position_in facts.players) h g in
      let c : ℕ = slot_of order captain in
      let v : ℕ = slot_of order vice in
      let judged : Option Team → List (Option Rule) = λ o. of_team (λ t. order_refusal t order c v) o ∷ [] in
      let on = none_first _ _ granted in
      let started : is_started h ≡ true = holds (is_started h) rule.NotRegistered on.0 in
      let stands = begun h g early started in
      let unbroken : order_refusal team order c v ≡ None =
      (none_first (order_refusal team order c v) []
      (subst (λ b. first_broken (judged (if b then Some team else None)) ≡ None) stands on.1)).0 in
      let held = none_first (option_map rule.NotHeld (first_stranger picks order)) _ unbroken in
      let once = none_first (option_map rule.Twice (first_repeat order)) _ held.1 in
      let ordered = none_first (lineup_refusal (positions_of (lined_picks picks order)) c v) [] once.1 in
      let each_held : Each (λ p. not (is_held picks p) ≡ false) order = none_found (λ p. not (is_held picks p)) order (none_mapped rule.NotHeld (first_stranger picks order) held.0) in
      let up : AreLinedUp facts order c v = record {
        there = all;
        shape = shaped order many each_held (none_mapped rule.Twice (first_repeat order) once.0) (shapes facts h g history lawful stands);
        lineup = ap (λ ps. lineup_refusal ps c v) (sym (lined_positions order each_held)) ∙ ordered.0;
      } in
      may_go_on facts h g (lineup_deeds order captain vice) (chip_at h g) (starts_in h g) (swaps_in h g) (up, tt)
      (chip_here h g (lineup_deeds order captain vice))
      (starts_same h g g (lineup_deeds order captain vice) started)
      (swaps_deed h g (Lineup order c v) refl)
      (lawful.limits g)
      (lawful.late g)
      (lawful.once g)
