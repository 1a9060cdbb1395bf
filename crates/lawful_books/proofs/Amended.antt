-- Another name and another position of a player whom no deed names, or who keeps his position, leave lawful histories so.
use Rattle.std.proofs.Common.{◌≡◌, ◌≢◌, ◌==◌, ◌+◌, ◌||◌, ℕ, Bool, true, false, cond, if◌then◌else◌, List, [], ◌∷◌, ◌++◌, Option, Some, None, map, filter, arith, refl, sym, ap, subst, inl, inr, ◌⊎◌, ◌∙◌}
use Rattle.std.specs.Prelude.{is_some}
use Rattle.std.specs.List.{AllByRecursion as Each, list_any}
use Rattle.std.proofs.lemmas.Bool.{cases_eq, false≢true}
use Rattle.std.proofs.lemmas.Bool.Decides.{nat_tests}
use Rattle.rule_book.specs.History.{Deed, Event, Holding, counts_in, kept}
use Rattle.rule_book.specs.History.Deed.{First, Swap, Lineup, Play, Cancel}
use Rattle.rule_book.specs.HistoryRules.{FitsKept, GoesOn, times}
use Rattle.rule_book.specs.HistorySquad.{in_squad}
use Rattle.rule_book.specs.Lineups.{lineup_refusal}
use Rattle.rule_book.specs.PlayerFigures.{position_in}
use Rattle.rule_book.specs.Squads.{has_squad_shape}
use Rattle.rule_book.specs.Uses.{has_had, names_player}
use Rattle.rule_book.proofs.DetailsFacts.{other_position, own_position, still_there}
use Rattle.rule_book.proofs.HadFacts.{neither, nor, not_in_squad}
use Rattle.season_book.specs.Book.{Facts}
use Rattle.season_book.specs.Commands.{has_player}
use Rattle.season_book.specs.PlayerCommands.{Amendment, facts_amended}
use Rattle.lawful_books.specs.Histories.{AreLinedUp, AreThere, IsLawfulDeed, IsLawfulHistory, positions}
use Rattle.lawful_books.specs.EntriesKeeping.{AmendmentsKeepHistories}
use Rattle.lawful_books.proofs.Stay.{IsSteady, history_stays}

module _ (p : ℕ) where
  -- an order of a squad in which he is not does not name him
  not_ordered : (players : List ℕ) → times p players ≡ 0 → list_any (λ q. q == p) players ≡ false
  not_ordered [] none = refl
  not_ordered (q ∷ players) none = by_test (q == p) none (λ more. not_ordered players more)
    where
      by_test : (b : Bool) → (if b then 1 else 0) + times p players ≡ 0 → (times p players ≡ 0 → list_any (λ q. q == p) players ≡ false) → (b || list_any (λ q. q == p) players) ≡ false
      by_test true none rest = absurd (omega (arith, none))
      by_test false none rest = rest (omega (arith, none))

  -- no deed names him, an order neither
  abbrev IsApart : Deed → Type 0
  IsApart (First squad captain vice) = list_any (λ q. q == p) (map (λ k. k.player) squad) ≡ false
  IsApart (Swap sale) = ((sale.out == p) ≡ false) × ((sale.into == p) ≡ false)
  IsApart (Lineup players captain vice) = list_any (λ q. q == p) players ≡ false
  IsApart (Play chip) = true ≡ true
  IsApart Cancel = true ≡ true

  by_players : (squad : List Holding) → list_any (λ q. q == p) (map (λ k. k.player) squad) ≡ list_any (λ k. k.player == p) squad
  by_players [] = refl
  by_players (k ∷ squad) = ap (λ b. (k.player == p) || b) (by_players squad)

  deed_apart : (es : List Event) (d : Deed) → FitsKept es d → in_squad es p ≡ false → names_player p d ≡ false → IsApart d
  deed_apart es (First squad captain vice) fits out none = by_players squad ∙ none
  deed_apart es (Swap sale) fits out none = neither (sale.out == p) (sale.into == p) none
  deed_apart es (Lineup players captain vice) fits out none = not_ordered players (fits p ∙ ap (λ b. if b then 1 else 0) out)
  deed_apart es (Play chip) fits out none = refl
  deed_apart es Cancel fits out none = refl

  had_parts : (h : List Event) (e : Event) → has_had h p ≡ false → names_player p e.deed ≡ false → has_had (h ++ e ∷ []) p ≡ false
  had_parts [] e none own = nor (names_player p e.deed) false own refl
  had_parts (x ∷ h) e none own =
      let parts = neither (names_player p x.deed) (has_had h p) none in
      nor (names_player p x.deed) (has_had (h ++ e ∷ []) p) parts.0 (had_parts h e parts.1 own)

  deeds_apart : (before rest : List Event) → GoesOn before rest → has_had before p ≡ false → has_had rest p ≡ false → Each (λ (e : Event). IsApart e.deed) rest
  deeds_apart before [] on none no_more = tt
  deeds_apart before (e ∷ rest) on none no_more =
      let parts = neither (names_player p e.deed) (has_had rest p) no_more in (
        deed_apart (kept before e.gw) e.deed on.0.1 (not_in_squad p before e.gw none) parts.0,
        deeds_apart (before ++ e ∷ []) rest on.1 (had_parts before e none parts.0) parts.1,
      )

module _ (facts : Facts) (given : Amendment) where
  abbrev behind : Facts
  behind = facts_amended facts given

  there : (q : ℕ) → has_player facts q ≡ true → has_player behind q ≡ true
  there q has = still_there given.player given.name given.position facts.players q ∙ has

  -- at the same position nothing changes
  steady : position_in facts.players given.player ≡ given.position → IsSteady facts behind
  steady same = record { there = there; position = stays; split = refl }
    where
      stays : (q : ℕ) → has_player facts q ≡ true → position_in behind.players q ≡ position_in facts.players q
      stays q has = elim (cases_eq q given.player) [
        | inl is ↦
            let his : has_player facts given.player ≡ true = subst (λ k. has_player facts k ≡ true) is has in
            subst (λ k. position_in behind.players k ≡ position_in facts.players k) (sym is) (own_position given.player given.name given.position facts.players his ∙ sym same)
        | inr other ↦ other_position given.player given.name given.position facts.players q other
      ]

  stays_there : (players : List ℕ) → AreThere facts players → AreThere behind players
  stays_there [] all = tt
  stays_there (q ∷ players) all = (there q all.0, stays_there players all.1)

  one_position : (q : ℕ) → (q == given.player) ≡ false → position_in behind.players q ≡ position_in facts.players q
  one_position q apart = let other : q ≢ given.player = λ same. grind (arith, nat_tests, apart, same) in other_position given.player given.name given.position facts.players q other

  same_positions : (players : List ℕ) → list_any (λ q. q == given.player) players ≡ false → positions behind players ≡ positions facts players
  same_positions [] none = refl
  same_positions (q ∷ players) none =
      let parts = neither (q == given.player) (list_any (λ q. q == given.player) players) none in
      λ i. one_position q parts.0 i ∷ same_positions players parts.1 i

  still_lined_up : (players : List ℕ) (captain vice : ℕ) → list_any (λ q. q == given.player) players ≡ false → AreLinedUp facts players captain vice → AreLinedUp behind players captain vice
  still_lined_up players captain vice none up =
      let same : positions behind players ≡ positions facts players = same_positions players none in
      record {
        there = stays_there players up.there;
        shape = ap has_squad_shape same ∙ up.shape;
        lineup = ap (λ ps. lineup_refusal ps captain vice) same ∙ up.lineup;
      }

  deed_stays : (d : Deed) → IsApart given.player d → IsLawfulDeed facts d → IsLawfulDeed behind d
  deed_stays (First squad captain vice) apart lawful = record {
    lined_up = still_lined_up (map (λ k. k.player) squad) captain vice apart lawful.lined_up;
    priced = lawful.priced;
    least = lawful.least;
    most = lawful.most;
  }
  deed_stays (Swap sale) apart lawful = record {
    out = there sale.out lawful.out;
    into = there sale.into lawful.into;
    position = one_position sale.into apart.1 ∙ lawful.position ∙ sym (one_position sale.out apart.0);
    priced = lawful.priced;
  }
  deed_stays (Lineup players captain vice) apart lawful = still_lined_up players captain vice apart lawful
  deed_stays (Play chip) apart lawful = lawful
  deed_stays Cancel apart lawful = lawful

  deeds_stay : (h : List Event) → Each (λ (e : Event). IsApart given.player e.deed) h → Each (λ (e : Event). IsLawfulDeed facts e.deed) h → Each (λ (e : Event). IsLawfulDeed behind e.deed) h
  deeds_stay [] apart all = tt
  deeds_stay (e ∷ h) apart all = (deed_stays e.deed apart.0 all.0, deeds_stay h apart.1 all.1)

pub amendments_keep_histories : AmendmentsKeepHistories
amendments_keep_histories facts given h history (inl same) lawful = history_stays facts (facts_amended facts given) (steady facts given same) h lawful
amendments_keep_histories facts given h history (inr none) lawful = record {
  deeds = deeds_stay facts given h (deeds_apart given.player [] h history refl none) lawful.deeds;
  gameweeks = lawful.gameweeks;
  limits = lawful.limits;
  late = lawful.late;
  once = lawful.once;
}
