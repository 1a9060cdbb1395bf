-- The teams that a map tells of are fit.
use Rattle.std.proofs.Common.{◌≡◌, ◌≢◌, ◌≤◌, ◌+◌, ℕ, true, false, cond, List, [], ◌∷◌, map, Some, eqb, nat_eq, arith, refl, sym, ap, ◌∙◌, subst, ⊎_elim}
use Rattle.std.specs.List.{AllByRecursion as Each, list_any}
use Rattle.std.proofs.lemmas.Bool.{cases_eq}
use Rattle.std.proofs.lemmas.Bool.Decides.{nat_tests}
use Rattle.fpl_base.specs.Keeping.{Map}
use Rattle.rule_book.specs.EntryRecords.{IsPriced}
use Rattle.rule_book.specs.History.{kept}
use Rattle.rule_book.specs.HistoryRules.{times}
use Rattle.rule_book.specs.HistorySquad.{armbands_of, bought_at, order_of}
use Rattle.rule_book.specs.PlayerFigures.{position_in}
use Rattle.season_records.specs.Commands.{differ}
use Rattle.season_book.specs.Book.{Book, Facts}
use Rattle.season_ledger.proofs.Lists.{map_map}
use Rattle.store_validation.specs.TeamRules.{has_players, is_distinct, is_fit, is_lined_up, is_priced, position_told, positions_told}
use Rattle.lawful_books.specs.Histories.{AreThere, positions}
use Rattle.lawful_books.specs.Fifteens.{AreFit}
use Rattle.lawful_books.specs.TeamsTold.{Tells, TeamsToldAreFit}
use Rattle.lawful_books.proofs.Formed.{held_at, teams_are_fit}
use Rattle.lawful_books.proofs.TeamsPlayers.{each_map_back}
use Rattle.lawful_books.proofs.Told.{player_there, position_as, recorded_picks, team_is, touched_begun}

-- who is not among others is not found there
not_found : (x : ℕ) (ps : List ℕ) → times x ps ≡ 0 → list_any (λ y. eqb y x) ps ≡ false
not_found x [] none = refl
not_found x (p ∷ ps) none = ⊎_elim
    (λ (e : p ≡ x). let u : nat_eq p x ≡ true = grind (arith, nat_tests) in let one : 1 + times x ps ≡ 0 = rw u at none in absurd (omega arith))
    (λ (n : p ≢ x). let u : nat_eq p x ≡ false = grind (arith, nat_tests) in let rest : 0 + times x ps ≡ 0 = rw u at none in rw u (not_found x ps (omega arith)))
    (cases_eq p x)

-- players of whom none stands twice
pub differ_from : (ps : List ℕ) → ((p : ℕ) → times p ps ≤ 1) → differ ps ≡ true
differ_from [] apart = refl
differ_from (x ∷ ps) apart =
    let u : nat_eq x x ≡ true = grind (arith, nat_tests) in
    let one : 1 + times x ps ≤ 1 = rw u at (apart x) in
    rw (not_found x ps (omega arith), differ_from ps (λ p. (let a : cond (nat_eq x p) 1 0 + times p ps ≤ 1 = apart p in omega arith))) refl

module _ (b : ℕ → ℕ) where
  abbrev picks : List ℕ → List (ℕ × ℕ)
  picks ps = map (λ p. (p, b p)) ps

  priced_from : (ps : List ℕ) → Each (λ p. IsPriced (record { player = p; bought = b p })) ps → is_priced (picks ps) ≡ true
  priced_from [] all = refl
  priced_from (p ∷ ps) all = grind (arith, nat_tests, all.0, priced_from ps all.1)

  module _ (m : Map) (book : Book) (facts : Facts) (tells : Tells m book) (season : book.facts ≡ Some facts) where
    players_from : (ps : List ℕ) → AreThere facts ps → has_players m (picks ps) ≡ true
    players_from [] all = refl
    players_from (p ∷ ps) all = rw (player_there m book facts tells season p all.0, players_from ps all.1) refl

    positions_from : (ps : List ℕ) → positions_told m (picks ps) ≡ positions facts ps
    positions_from [] = refl
    positions_from (p ∷ ps) =
        let here : position_told m p ≡ position_in facts.players p = position_as m book facts tells season p in
        let more : positions_told m (picks ps) ≡ positions facts ps = positions_from ps in cc

pub teams_told_are_fit : TeamsToldAreFit
teams_told_are_fit m book facts e entry g t tells own told =
    let is = team_is m book facts tells own.season e entry own.there g t told in
    let fit : AreFit facts (kept entry.history g)
    = teams_are_fit facts entry.history g own.history own.lawful (touched_begun entry.history g own.history is.0) in
    let es = kept entry.history g in
    let priced : is_priced (recorded_picks es) ≡ true
    = priced_from (bought_at es) (order_of es) (each_map_back IsPriced (held_at es) (order_of es) fit.priced) in
    let there : has_players m (recorded_picks es) ≡ true
    = players_from (bought_at es) m book facts tells own.season (order_of es) fit.lined_up.there in
    let apart : is_distinct (recorded_picks es) ≡ true
    = ap differ (map_map (λ (pick : ℕ × ℕ). pick.0) (λ p. (p, bought_at es p)) (order_of es) ∙ same (order_of es)) ∙ differ_from (order_of es) fit.apart in
    let placed : positions_told m (recorded_picks es) ≡ positions facts (order_of es)
    = positions_from (bought_at es) m book facts tells own.season (order_of es) in
    let lined : is_lined_up (positions_told m (recorded_picks es)) (armbands_of es).0 (armbands_of es).1 ≡ true
    = rw placed (rw (fit.lined_up.shape, fit.lined_up.lineup) refl) in
    subst (λ u. is_fit m u ≡ true) (sym is.1) (rw (there, priced, apart, lined) refl)
  where
    same : (ps : List ℕ) → map (λ p. p) ps ≡ ps
    same [] = refl
    same (p ∷ ps) = ap (λ more. p ∷ more) (same ps)
