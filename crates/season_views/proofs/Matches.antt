-- The rows of a head-to-head league by what cells hold are those by the histories of its entries.
use Rattle.std.proofs.Common.{◌≡◌, ◌≤◌, ◌+◌, ◌-◌, ℕ, zero, suc, ℤ, List, [], Option, Some, None, length, map, slice_index, arith, refl, ap, ap₂}
use Rattle.std.specs.Option.{option_map_or}
use Rattle.rule_book.specs.declared.cup.Bracket.{Bracket}
use Rattle.rule_book.specs.Entries.{entry_in}
use Rattle.rule_book.specs.HeadToHead.{head_score}
use Rattle.rule_book.specs.LeagueRows.{head_row, head_rows, match_in, matches_of, place_of, points_against}
use Rattle.rule_book.specs.Leagues.{LeagueFacts}
use Rattle.rule_book.specs.Opponents.{mean_of, opponent_of}
use Rattle.rule_book.specs.PlayerFigures.{position_in}
use Rattle.rule_book.specs.Players.{ArePlayers}
use Rattle.rule_book.specs.Totals.{gameweeks}
use Rattle.rule_book.specs.declared.pairing.Opponent.{Opponent}
use Rattle.rule_book.specs.declared.pairing.Opponent.TheVariants.{Place, Average}
use Rattle.season_ledger.specs.Stands.{RowsAlwaysTell}
use Rattle.manager_book.specs.Managers.{Managers, season_of}
use Rattle.season_graph.specs.Told.{head_told, net_told}
use Rattle.season_nodes.specs.Reading.{from_range, map_local}
use Rattle.season_nodes.specs.Season.{SeasonFacts}
use Rattle.season_book.specs.Book.{EntryFacts, Facts}
use Rattle.season_book.specs.LeagueViews.{net_in}
use Rattle.season_entries.specs.Entries.{AreEntries}
use Rattle.season_views.specs.Cells.{books_seen}
use Rattle.season_views.specs.Entries.{net_by}
use Rattle.season_views.proofs.Histories.{in_books}
use Rattle.season_views.proofs.Scores.{net_is}

-- what is told of a member's row, where the league is there
pub row_told : (b : SeasonFacts) (l e : ℕ) (league : LeagueFacts) → entry_in b.leagues l ≡ Some league
    → head_told b l e ≡ head_score (matches_of (net_told b) b.calendar.locked league e)
row_told b l e league at =
    ap (λ o. option_map_or (λ (those : LeagueFacts). head_score (matches_of (net_told b) b.calendar.locked those e)) o (head_score [])) at

-- where points are the same in each locked gameweek the rows are the same
module _ (net points : ℕ → ℕ → ℤ) (locked : ℕ) (same : (e g : ℕ) → 1 ≤ g → g ≤ locked → net e g ≡ points e g) where
  against : (order : List ℕ) (g : ℕ) (o : Opponent) → 1 ≤ g → g ≤ locked → points_against net order g o ≡ points_against points order g o
  against order g (Place j) one by = same (slice_index order j) g one by
  against order g Average one by = ap mean_of (map_local (λ e. net e g) (λ e. points e g) order (λ e a. same e g one by))

  module _ (league : LeagueFacts) (first : 1 ≤ league.start) where
    match_same : (e place g : ℕ) → 1 ≤ g → g ≤ locked → match_in net league e place g ≡ match_in points league e place g
    match_same e place g one by =
        ap₂ (λ x y. (x, y)) (same e g one by) (against league.order g (opponent_of (length league.order) (g - league.start) place) one by)

    found_same : (e : ℕ) (o : Option ℕ)
        → option_map_or (λ place. map (match_in net league e place) (gameweeks league.start locked)) o [] ≡ option_map_or (λ place. map (match_in points league e place) (gameweeks league.start locked)) o []
    found_same e None = refl
    found_same e (Some place) =
        map_local (match_in net league e place) (match_in points league e place) (gameweeks league.start locked)
        (λ g a.
        let within = from_range league.start ((locked + 1) - league.start) g a in
        match_same e place g (omega (arith, within.0, first)) (omega (arith, within.0, within.1)))

    rows_same : head_rows net locked league ≡ head_rows points locked league
    rows_same =
        map_local (head_row net locked league) (head_row points locked league) league.members
        (λ e a. ap (λ matches. (e, head_score matches)) (found_same e (place_of league.order e)))

module _ (facts : Facts) (managers : Managers) (leagues : List LeagueFacts) (cups : List Bracket) (entries : List EntryFacts) (players : ArePlayers facts.players) (tell : RowsAlwaysTell)
    (profile : managers.profile ≡ facts.profile) (are : AreEntries facts.players managers.managers entries) where
  -- the points of an entry by cells are those of its history; there is no entry 0, who would have none
  pub points_are : (e g : ℕ) → 1 ≤ g → g ≤ facts.calendar.locked → net_told (books_seen facts managers leagues cups) e g ≡ net_in facts entries e g
  points_are zero g one by = refl
  points_are (suc e) g one by =
      let issued : 1 ≤ suc e = omega arith in
      in_books facts managers (suc e) (λ h. net_told (books_seen facts managers leagues cups) (suc e) g ≡ net_by facts h g) players issued
      (λ h stands. net_is facts managers leagues cups (suc e) h issued (tell (position_in facts.players) (season_of managers (suc e)) h stands) profile g one by) entries are

  -- and so the rows of a league
  pub rows_are : (league : LeagueFacts) → 1 ≤ league.start
      → head_rows (net_told (books_seen facts managers leagues cups)) facts.calendar.locked league ≡ head_rows (net_in facts entries) facts.calendar.locked league
  rows_are league first = rows_same (net_told (books_seen facts managers leagues cups)) (net_in facts entries) facts.calendar.locked points_are league first
