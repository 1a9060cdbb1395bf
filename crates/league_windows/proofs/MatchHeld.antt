-- What the cell of a match holds is what decides the match.
use Rattle.std.proofs.Common.{◌≡◌, ◌∙◌, ◌≤◌, ◌<◌, ◌-◌, ◌&&◌, ℕ, true, List, [], Some, length, nat_le, nat_lt, slice_index, arith, refl, ap}
use Rattle.std.specs.Option.{option_map_or}
use Rattle.std.proofs.lemmas.Bool.{le-leb}
use Rattle.std.proofs.lemmas.Bool.Decides.{nat_tests}
use Rattle.rule_book.specs.declared.cup.Bracket.{Bracket}
use Rattle.rule_book.specs.declared.pairing.Opponent.{Opponent}
use Rattle.rule_book.specs.declared.pairing.Opponent.TheVariants.{Place, Average}
use Rattle.rule_book.specs.Entries.{entry_in}
use Rattle.rule_book.specs.LeagueRows.{match_in, points_against}
use Rattle.rule_book.specs.Leagues.{LeagueFacts}
use Rattle.rule_book.specs.Opponents.{opponent_of}
use Rattle.rule_book.specs.Players.{ArePlayers}
use Rattle.season_ledger.specs.Stands.{RowsAlwaysTell}
use Rattle.manager_book.specs.Managers.{Managers}
use Rattle.season_graph.specs.Followed.{AreEvaluated}
use Rattle.season_graph.specs.Told.{match_told, net_told}
use Rattle.season_nodes.specs.Held.{SeasonRows, held_values}
use Rattle.season_nodes.specs.Rounds.{order_in, place_met, start_in}
use Rattle.season_nodes.specs.Season.{SeasonFacts, is_live, scores_held}
use Rattle.season_nodes.specs.declared.nodes.Node.TheVariants as node
use Rattle.season_book.specs.Book.{EntryFacts, Facts}
use Rattle.season_book.specs.LeagueViews.{net_in}
use Rattle.season_entries.specs.Entries.{AreEntries}
use Rattle.season_views.specs.Cells.{books_seen}
use Rattle.season_book.specs.HeadMatches.{opponent_place, stands_first}
use Rattle.season_book.proofs.AgainstSame.{against}
use Rattle.league_windows.proofs.LockedShown.{by_test}
use Rattle.season_views.proofs.Matches.{points_are}

same_place : (n : ℕ) (o : Opponent) → place_met n o ≡ opponent_place n o
same_place n (Place j) = refl
same_place n Average = refl

low_is : (i n : ℕ) → i < n → nat_lt i n ≡ true
low_is i n low = grind (arith, nat_tests, low)

module _ (b : SeasonFacts) (l g i : ℕ) (league : LeagueFacts) (there : entry_in b.leagues l ≡ Some league) where
  order_is : order_in b.leagues l ≡ league.order
  order_is = ap (λ o. option_map_or (λ (those : LeagueFacts). those.order) o []) there

  start_is : start_in b.leagues l ≡ league.start
  start_is = ap (λ o. option_map_or (λ (those : LeagueFacts). those.start) o 0) there

  -- a match of a locked gameweek has a cell under its lower place
  live_is : league.start ≤ g → nat_le g b.calendar.locked ≡ true → i < length league.order → stands_first (length league.order) (g - league.start) i ≡ true → is_live b (node.Match l g i) ≡ true
  live_is since locked within first =
      let n : ℕ = length league.order in
      let met : ℕ = place_met n (opponent_of n (g - league.start) i) in
      (λ j.
      (nat_le (start_is j) g && nat_le g b.calendar.locked)
      && (nat_lt i (length (order_is j)) && nat_lt i (place_met (length (order_is j)) (opponent_of (length (order_is j)) (g - start_is j) i))))
      ∙ ap (λ t. (t && nat_le g b.calendar.locked) && (nat_lt i n && nat_lt i met)) (le-leb league.start g since)
      ∙ ap (λ t. t && (nat_lt i n && nat_lt i met)) locked
      ∙ ap (λ t. t && nat_lt i met) (low_is i n within)
      ∙ ap (nat_lt i) (same_place n (opponent_of n (g - league.start) i))
      ∙ first

  match_is : match_told b l g i
      ≡ (net_told b (slice_index league.order i) g, points_against (net_told b) league.order g (opponent_of (length league.order) (g - league.start) i))
  match_is = λ j. (
    net_told b (slice_index (order_is j) i) g,
    points_against (net_told b) (order_is j) g (opponent_of (length (order_is j)) (g - start_is j) i),
  )

  pub held_is : (cells : SeasonRows) → AreEvaluated b cells → is_live b (node.Match l g i) ≡ true → scores_held (held_values cells (node.Match l g i)) ≡ match_told b l g i
  held_is cells evaluated live = ap scores_held (evaluated.told (node.Match l g i) live)

module _ (facts : Facts) (managers : Managers) (leagues : List LeagueFacts) (cups : List Bracket) (entries : List EntryFacts) (players : ArePlayers facts.players) (tell : RowsAlwaysTell)
    (profile : managers.profile ≡ facts.profile) (are : AreEntries facts.players managers.managers entries) where
  -- what decides a match of a locked gameweek
  pub scores_due : (cells : SeasonRows) (l g i : ℕ) (league : LeagueFacts) → AreEvaluated (books_seen facts managers leagues cups) cells → entry_in leagues l ≡ Some league
      → 1 ≤ g → league.start ≤ g → nat_le g facts.calendar.locked ≡ true → i < length league.order → stands_first (length league.order) (g - league.start) i ≡ true
      → scores_held (held_values cells (node.Match l g i)) ≡ match_in (net_in facts entries) league (slice_index league.order i) i g
  scores_due cells l g i league evaluated there one since locked within first =
      let b : SeasonFacts = books_seen facts managers leagues cups in
      let same : (e : ℕ) → net_told b e g ≡ net_in facts entries e g = λ e. points_are facts managers leagues cups entries players tell profile are e g one (by_test g facts.calendar.locked locked) in
      let own = same (slice_index league.order i) in
      let theirs = against (net_told b) (net_in facts entries) league.order g same (opponent_of (length league.order) (g - league.start) i) in
      held_is b l g i league there cells evaluated (live_is b l g i league there since locked within first)
      ∙ match_is b l g i league there
      ∙ (λ j. (own j, theirs j))
