-- A manager who did nothing goes on by a first squad.
use Rattle.std.proofs.Common.{◌≡◌, ℕ, true, List, [], ◌∷◌, ◌++◌, None, find, length, map, arith, refl, sym, ap, subst, ◌∙◌}
use Rattle.std.specs.List.{AllByRecursion as Each}
use Rattle.std.specs.Option.{option_map, option_map_or, option_to_list}
use Rattle.std.proofs.lemmas.Bool.{eq-eqb, true≢false}
use Rattle.std.proofs.lemmas.List.{length-map}
use Rattle.fpl_base.specs.declared.kinds.Chip.TheVariants.{None as NoChip}
use Rattle.fpl_base.specs.declared.kinds.Position.TheVariants.{Keeper}
use Rattle.fpl_base.specs.declared.rule.Rule.TheVariants as rule
use Rattle.rule_book.specs.declared.player.Player.{Player}
use Rattle.rule_book.specs.declared.team.Pick.{Pick}
use Rattle.rule_book.specs.Batch.{is_gone}
use Rattle.rule_book.specs.EntryCalls.{clubs_of, cost_of, first_refusal, over_budget, pick_from, picks_from, slot_of, squad_deeds, squad_refused}
use Rattle.rule_book.specs.EntryRecords.{IsPriced}
use Rattle.rule_book.specs.History.{Deed, Event, Holding}
use Rattle.rule_book.specs.History.Deed.{First}
use Rattle.rule_book.specs.HistoryTeam.{holding_of, holdings}
use Rattle.rule_book.specs.Lineups.{lineup_refusal}
use Rattle.rule_book.specs.PlayerFigures.{position_in}
use Rattle.rule_book.specs.Players.{player_of}
use Rattle.rule_book.specs.Refusals.{unless}
use Rattle.rule_book.specs.Repeats.{first_repeat}
use Rattle.rule_book.specs.Squads.{has_squad_shape, players_of, positions_of, squad_refusal}
use Rattle.season_book.specs.Book.{Facts}
use Rattle.store_validation.proofs.Numbered.{some_from}
use Rattle.season_ledger.proofs.Counts.{swaps_deed}
use Rattle.season_ledger.proofs.Kept.{chip_here}
use Rattle.lawful_books.specs.Histories.{AreLinedUp, AreThere, IsLawfulFirst, positions}
use Rattle.lawful_books.specs.EntriesKeeping.{AreLawfulPlayers}
use Rattle.lawful_books.proofs.Grows.{MayGoOn, may_go_on}
use Rattle.lawful_books.proofs.EntriesPlayers.{fifteen, found_id, in_range, sum_least, within_budget}
use Rattle.lawful_books.proofs.Unbroken.{holds, none_first}

-- the picks of players who are there
module _ (facts : Facts) where
  abbrev picks : List ℕ → List Pick
  picks squad = picks_from facts.players squad

  names : (squad : List ℕ) → AreThere facts squad → map (λ k. k.player) (holdings (picks squad)) ≡ squad
  names [] all = refl
  names (q ∷ squad) all =
      let x = some_from (player_of facts.players q) all.0 in
      ap (λ o. map (λ (k : Holding). k.player) (holdings (option_to_list (option_map pick_from o) ++ picks squad))) x.1
      ∙ (λ i. found_id facts.players q x.0 x.1 i ∷ names squad all.1 i)

  places : (squad : List ℕ) → AreThere facts squad → positions_of (picks squad) ≡ positions facts squad
  places [] all = refl
  places (q ∷ squad) all =
      let x = some_from (player_of facts.players q) all.0 in
      let here : x.0.position ≡ position_in facts.players q = sym (ap (λ o. option_map_or (λ (p : Player). p.position) o Keeper) x.1) in
      ap (λ o. positions_of (option_to_list (option_map pick_from o) ++ picks squad)) x.1 ∙ (λ i. here i ∷ places squad all.1 i)

  priced : AreLawfulPlayers facts → (squad : List ℕ) → AreThere facts squad → Each IsPriced (holdings (picks squad))
  priced players [] all = tt
  priced players (q ∷ squad) all =
      let x = some_from (player_of facts.players q) all.0 in
      subst (λ o. Each IsPriced (holdings (option_to_list (option_map pick_from o) ++ picks squad))) (sym x.1)
      (in_range x.0.price (players q x.0 x.1), priced players squad all.1)

  lawful_first : (squad : List ℕ) (captain vice : ℕ) → AreLawfulPlayers facts → AreThere facts squad → first_refusal facts.players squad captain vice ≡ None
      → IsLawfulFirst facts (holdings (picks squad)) captain vice
  lawful_first squad captain vice players all granted =
      let stay = none_first (option_map rule.PlayerGone (find (is_gone facts.players) squad)) _ granted in
      let legal = none_first (squad_refusal (picks squad) (clubs_of facts.players squad)) _ stay.1 in
      let cheap = none_first (over_budget (cost_of (picks squad))) _ legal.1 in
      let ordered = none_first (lineup_refusal (positions_of (picks squad)) captain vice) [] cheap.1 in
      let twice = none_first (option_map rule.Twice (first_repeat (players_of (picks squad)))) _ legal.0 in
      let shaped = none_first (unless (has_squad_shape (positions_of (picks squad))) rule.SquadShape) _ twice.1 in
      let shape : has_squad_shape (positions_of (picks squad)) ≡ true = holds (has_squad_shape (positions_of (picks squad))) rule.SquadShape shaped.0 in
      let many : length (positions_of (picks squad)) ≡ 15 = fifteen (positions_of (picks squad)) shape in
      let as_many : length (positions_of (picks squad)) ≡ length (picks squad) = length-map (picks squad) (λ (pick : Pick). pick.position) in
      let so_many : length (holdings (picks squad)) ≡ length (picks squad) = length-map (picks squad) holding_of in
      let prices : Each IsPriced (holdings (picks squad)) = priced players squad all in
      record {
        lined_up = subst (λ ps. AreLinedUp facts ps captain vice) (sym (names squad all)) (record {
          there = all;
          shape = ap has_squad_shape (sym (places squad all)) ∙ shape;
          lineup = ap (λ ps. lineup_refusal ps captain vice) (sym (places squad all)) ∙ ordered.0;
        });
        priced = prices;
        least = omega (arith, many, as_many, so_many, sum_least (holdings (picks squad)) prices);
        most = within_budget (cost_of (picks squad)) cheap.0;
      }

  pub registered : (h : List Event) (g : ℕ) (squad : List ℕ) (captain vice : ℕ) → AreLawfulPlayers facts → AreThere facts squad
      → squad_refused facts.players h squad captain vice ≡ None → MayGoOn facts h g (squad_deeds facts.players squad captain vice)
  registered [] g squad captain vice players all granted =
      let first = none_first (first_refusal facts.players squad (slot_of squad captain) (slot_of squad vice)) [] granted in
      let ds : List Deed = squad_deeds facts.players squad captain vice in
      may_go_on facts [] g ds NoChip true 0 (lawful_first squad (slot_of squad captain) (slot_of squad vice) players all first.0, tt)
      (chip_here [] g ds) (eq-eqb g g refl) (swaps_deed [] g (First (holdings (picks squad)) (slot_of squad captain) (slot_of squad vice)) refl)
      (omega arith) (λ first. refl) (λ other. absurd (true≢false other))
  registered (e ∷ h) g squad captain vice players all granted = absurd (cc)
