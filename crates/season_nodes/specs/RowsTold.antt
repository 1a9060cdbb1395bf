-- What matches and rows of head-to-head leagues come to: what the rule book tells, by what the entries scored.
use Rattle.std.specs.Prelude.{◌≡◌, ℕ, ◌<◌, true, Option, Some, length, slice_index}
use Rattle.rule_book.specs.Entries.{entry_in}
use Rattle.rule_book.specs.LeagueRows.{head_row, match_in}
use Rattle.rule_book.specs.Leagues.{LeagueFacts}
use Rattle.season_nodes.specs.declared.nodes.Node.{Node}
use Rattle.season_nodes.specs.declared.nodes.Node.TheVariants as node
use Rattle.season_nodes.specs.declared.nodes.Value.{Value}
use Rattle.season_nodes.specs.Season.{SeasonFacts, has_round, head_by, is_live, match_by, net_by, own_value}

-- each live Average and each live match holds its own value
pub record HoldTheirOwn (b : SeasonFacts) (v : Node → Option Value) : Type 0 where
  pub averages : (l g : ℕ) → is_live b (node.Average l g) ≡ true → v (node.Average l g) ≡ Some (own_value b (node.Average l g) v)
  pub matches : (l g i : ℕ) → is_live b (node.Match l g i) ≡ true → v (node.Match l g i) ≡ Some (own_value b (node.Match l g i) v)

-- then what a match has is the match of who stands at its place
abbrev pub MatchesAreTold : Type 0
MatchesAreTold = (b : SeasonFacts) (v : Node → Option Value) → HoldTheirOwn b v → (l g i : ℕ) (league : LeagueFacts) → entry_in b.leagues l ≡ Some league
    → has_round b l g ≡ true → i < length league.order → match_by b v l g i ≡ match_in (net_by b v) league (slice_index league.order i) i g

-- and a row is that of the member
abbrev pub RowsAreTold : Type 0
RowsAreTold = (b : SeasonFacts) (v : Node → Option Value) → HoldTheirOwn b v → (l e : ℕ) (league : LeagueFacts) → entry_in b.leagues l ≡ Some league
    → (e, head_by b v l e) ≡ head_row (net_by b v) b.calendar.locked league e
