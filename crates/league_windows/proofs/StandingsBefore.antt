-- Standings of members before the last gameweek, and their ranks by them.
use Rattle.std.proofs.Common.{◌≡◌, ◌<◌, ◌≤◌, ◌-◌, ℕ, ℤ, pos, Bool, true, false, List, [], ◌∷◌, Option, Some, None, map, nat_le, nat_lt, arith, refl, sym, ap, ◌∙◌, if◌then◌else◌}
use Rattle.std.specs.Option.{option_map_or}
use Rattle.std.proofs.lemmas.Bool.Decides.{nat_tests}
use Rattle.std.proofs.lemmas.Option.{cond_some, none-some}
use Rattle.std.proofs.lemmas.Simd.{map-map}
use Rattle.rule_book.specs.ClassicTable.{is_better}
use Rattle.rule_book.specs.HeadToHead.{head_score, is_better as is_better_in_head}
use Rattle.rule_book.specs.History.{Event}
use Rattle.rule_book.specs.HistoryTeam.{is_begun}
use Rattle.rule_book.specs.LeagueRows.{match_in, place_of}
use Rattle.rule_book.specs.Leagues.{LeagueFacts}
use Rattle.rule_book.specs.Ranks.{rank_among}
use Rattle.rule_book.specs.Totals.{gameweeks}
use Rattle.rule_book.specs.UpTo.{start_of}
use Rattle.rule_book.specs.declared.tables.HeadScore.{HeadScore}
use Rattle.season_book.specs.Book.{EntryFacts, Facts}
use Rattle.season_book.specs.EntryViews.{score_by}
use Rattle.season_book.specs.LeagueViews.{first_of, history_of, net_in, no_side, side_of}
use Rattle.league_windows.specs.declared.classic.Standing.{Standing}
use Rattle.league_windows.specs.declared.head.HeadStanding.{HeadStanding}
use Rattle.season_book.specs.LeagueTables.{classic_last_rank, classic_rank, classic_row_through, classic_rows_through, head_last_rank, head_rank, head_row_through, head_rows_through, transfers_through}
use Rattle.league_windows.specs.Standings.{comes_before, comes_before_in_head, head_standing_before, head_standing_of, standing_before, standing_of, without_match}
use Rattle.league_windows.proofs.MatchesBefore.{points_less, scored_less}
use Rattle.league_windows.proofs.RanksBefore.{ranks_of_rows}
use Rattle.league_windows.proofs.StandingFacts.{less_is_better, less_is_better_in_head}
use Rattle.league_windows.proofs.TotalsBefore.{total_less}

-- a history has begun from its start on
begun_by_start : (h : List Event) (g : ℕ) → option_map_or (λ f. nat_le f g) (start_of h) false ≡ is_begun h g
begun_by_start [] g = refl
begun_by_start (e ∷ h) g = refl

-- an entry has nothing where its history has not begun
module _ (facts : Facts) (entries : List EntryFacts) where
  nothing : (e g : ℕ) → is_begun (history_of entries e) g ≡ false → net_in facts entries e g ≡ pos 0
  nothing e g not = ap (λ b. (if b then side_of (score_by facts (history_of entries e) g) else no_side).net) not

  module _ (league : LeagueFacts) (one : 1 ≤ facts.calendar.locked) (begun : league.start ≤ facts.calendar.locked) where
    abbrev last : ℕ
    last = facts.calendar.locked

    -- the standing of before, by a row of now, is that of the row of before
    standing_less : (e : ℕ) → standing_before facts entries (classic_row_through facts entries league last e) ≡ standing_of (classic_row_through facts entries league (last - 1) e)
    standing_less e =
        let total = total_less (net_in facts entries e) league.start last (first_of entries e) one begun (λ not. nothing e last (sym (begun_by_start (history_of entries e) last) ∙ not)) in
        λ i. record { total = record { 0 = total i }; transfers = transfers_through facts entries (last - 1) e }

    head_case : (e : ℕ) (o : Option ℕ) → place_of league.order e ≡ o
        → option_map_or (λ place. without_match (head_score (option_map_or (λ p. map (match_in (net_in facts entries) league e p) (gameweeks league.start last)) o [])) (match_in (net_in facts entries) league e place last)) o
        (head_standing_of (e, head_score (option_map_or (λ p. map (match_in (net_in facts entries) league e p) (gameweeks league.start last)) o [])))
        ≡ head_standing_of (e, head_score (option_map_or (λ p. map (match_in (net_in facts entries) league e p) (gameweeks league.start (last - 1))) o []))
    head_case e None at = refl
    head_case e (Some place) at =
        let played : ℕ → ℤ × ℤ = match_in (net_in facts entries) league e place in
        let points = points_less played league.start last one begun in
        let scored = scored_less played league.start last one begun in
        λ i. record { points = record { 0 = points i }; scored = record { 0 = scored i } }

    head_standing_less : (e : ℕ) → head_standing_before facts entries league (head_row_through facts entries league last e) ≡ head_standing_of (head_row_through facts entries league (last - 1) e)
    head_standing_less e = head_case e (place_of league.order e) refl

  -- ranks by standings of before are the last ranks of members
  pub ranks_are : (league : LeagueFacts) (rows : List (ℕ × ℤ × ℕ)) (standings : List Standing) (ranks : List ℕ) → nat_lt league.start facts.calendar.locked ≡ true
      → rows ≡ classic_rows_through facts entries league facts.calendar.locked → standings ≡ map (standing_before facts entries) rows → ranks ≡ map (rank_among comes_before standings) standings
      → ranks ≡ map (classic_last_rank facts entries league) league.members
  ranks_are league rows standings ranks behind are made is =
      let last = facts.calendar.locked in
      let less : league.start < last = grind (arith, nat_tests, behind) in
      let row : ℕ → ℕ × ℤ × ℕ = classic_row_through facts entries league (last - 1) in
      let now : ℕ → ℕ × ℤ × ℕ = classic_row_through facts entries league last in
      let each : standings ≡ map (λ e. standing_of (row e)) league.members =
      made ∙ ap (map (standing_before facts entries)) are ∙ map-map (standing_before facts entries) now league.members
      ∙ (λ i. map (λ e. standing_less league (omega (arith, less)) (omega (arith, less)) e i) league.members) in
      ranks_of_rows row standing_of comes_before is_better (λ a b. less_is_better a b) league.members standings ranks each is
      ∙ ap (λ b. map (λ e. if b then classic_rank facts entries league (last - 1) e else 0) league.members) (sym behind)

  pub head_ranks_are : (league : LeagueFacts) (rows : List (ℕ × HeadScore)) (standings : List HeadStanding) (ranks : List ℕ) → nat_lt league.start facts.calendar.locked ≡ true
      → rows ≡ head_rows_through facts entries league facts.calendar.locked → standings ≡ map (head_standing_before facts entries league) rows → ranks ≡ map (rank_among comes_before_in_head standings) standings
      → ranks ≡ map (head_last_rank facts entries league) league.members
  head_ranks_are league rows standings ranks behind are made is =
      let last = facts.calendar.locked in
      let less : league.start < last = grind (arith, nat_tests, behind) in
      let row : ℕ → ℕ × HeadScore = head_row_through facts entries league (last - 1) in
      let now : ℕ → ℕ × HeadScore = head_row_through facts entries league last in
      let each : standings ≡ map (λ e. head_standing_of (row e)) league.members =
      made ∙ ap (map (head_standing_before facts entries league)) are ∙ map-map (head_standing_before facts entries league) now league.members
      ∙ (λ i. map (λ e. head_standing_less league (omega (arith, less)) (omega (arith, less)) e i) league.members) in
      ranks_of_rows row head_standing_of comes_before_in_head is_better_in_head (λ a b. less_is_better_in_head a b) league.members standings ranks each is
      ∙ ap (λ b. map (λ e. if b then head_rank facts entries league (last - 1) e else 0) league.members) (sym behind)

  -- and 0 where the league had not begun before
  pub ranks_are_zero : (league : LeagueFacts) (ranks : List ℕ) → nat_lt league.start facts.calendar.locked ≡ false → ranks ≡ map (λ e. 0) league.members → ranks ≡ map (classic_last_rank facts entries league) league.members
  ranks_are_zero league ranks not is =
      is ∙ ap (λ b. map (λ e. if b then classic_rank facts entries league (facts.calendar.locked - 1) e else 0) league.members) (sym not)

  pub head_ranks_are_zero : (league : LeagueFacts) (ranks : List ℕ) → nat_lt league.start facts.calendar.locked ≡ false → ranks ≡ map (λ e. 0) league.members → ranks ≡ map (head_last_rank facts entries league) league.members
  head_ranks_are_zero league ranks not is =
      is ∙ ap (λ b. map (λ e. if b then head_rank facts entries league (facts.calendar.locked - 1) e else 0) league.members) (sym not)

-- a gameweek that is there, or none, tells the test
pub is_behind : (b : Bool) (last g : ℕ) (o : Option ℕ) → o ≡ (if b then Some last else None) → o ≡ Some g → (b ≡ true) × (last ≡ g)
is_behind b last g o is there = cond_some b last g (sym is ∙ there)

pub is_not_behind : (b : Bool) (last : ℕ) (o : Option ℕ) → o ≡ (if b then Some last else None) → o ≡ None → b ≡ false
is_not_behind true n o is there = absurd (none-some n (sym there ∙ is))
is_not_behind false n o is there = refl
