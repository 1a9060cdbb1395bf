-- The points of the Average by cells are those by the histories of its entries.
use Rattle.std.proofs.Common.{◌≡◌, ◌≤◌, ℕ, true, List, [], Some, length, map, ap, subst, sym, ◌∙◌}
use Rattle.std.specs.Option.{option_map_or}
use Rattle.rule_book.specs.declared.cup.Bracket.{Bracket}
use Rattle.rule_book.specs.Entries.{entry_in}
use Rattle.rule_book.specs.LeagueRows.{average_in}
use Rattle.rule_book.specs.Leagues.{LeagueFacts}
use Rattle.rule_book.specs.Opponents.{mean_of}
use Rattle.rule_book.specs.Players.{ArePlayers}
use Rattle.season_ledger.specs.Stands.{RowsAlwaysTell}
use Rattle.manager_book.specs.Managers.{Managers}
use Rattle.season_graph.specs.Told.{average_told, net_told}
use Rattle.season_nodes.specs.Rounds.{has_average, start_in}
use Rattle.season_nodes.specs.Season.{has_round, is_live}
use Rattle.season_nodes.specs.SeasonLaws.{both_true, has_round_in}
use Rattle.season_nodes.specs.declared.nodes.Node.TheVariants as node
use Rattle.season_book.specs.Book.{EntryFacts, Facts}
use Rattle.season_book.specs.LeagueViews.{net_in}
use Rattle.season_entries.specs.Entries.{AreEntries}
use Rattle.season_views.specs.Cells.{books_seen}
use Rattle.season_views.proofs.Matches.{points_are}

module _ (facts : Facts) (managers : Managers) (leagues : List LeagueFacts) (cups : List Bracket) where
  module _ (entries : List EntryFacts) (players : ArePlayers facts.players) (tell : RowsAlwaysTell) (profile : managers.profile ≡ facts.profile) (are : AreEntries facts.players managers.managers entries) where
    pub average_is : (l g : ℕ) (league : LeagueFacts) → entry_in leagues l ≡ Some league → 1 ≤ g → g ≤ facts.calendar.locked
        → average_told (books_seen facts managers leagues cups) l g ≡ average_in (net_in facts entries) league.order g
    average_is l g league there one by =
        ap (λ o. average_in (net_told (books_seen facts managers leagues cups)) (option_map_or (λ (those : LeagueFacts). those.order) o []) g) there
        ∙ (λ i. mean_of (map (λ e. points_are facts managers leagues cups entries players tell profile are e g one by i) league.order))

  -- it plays where the members are odd
  pub average_lives : (l g : ℕ) (league : LeagueFacts) → entry_in leagues l ≡ Some league → league.start ≤ g → g ≤ facts.calendar.locked → has_average (length league.order) ≡ true
      → is_live (books_seen facts managers leagues cups) (node.Average l g) ≡ true
  average_lives l g league there low by odd =
      let b = books_seen facts managers leagues cups in
      let start : start_in leagues l ≡ league.start = ap (λ o. option_map_or (λ (those : LeagueFacts). those.start) o 0) there in
      let order : has_average (length (option_map_or (λ (those : LeagueFacts). those.order) (entry_in leagues l) [])) ≡ true = ap (λ o. has_average (length (option_map_or (λ (those : LeagueFacts). those.order) o []))) there ∙ odd in
      both_true (has_round b l g) (has_average (length (option_map_or (λ (those : LeagueFacts). those.order) (entry_in leagues l) []))) (has_round_in b l g (subst (λ s. s ≤ g) (sym start) low) by) order
