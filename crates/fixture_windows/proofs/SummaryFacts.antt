-- What is shown of a player, by the fixtures in their order.
use Rattle.std.proofs.Common.{◌≡◌, ◌&&◌, List, codes, filter, flat_map, not, sum_by, ℕ, ap}
use Rattle.serde_json.specs.Data.{Data, member, no_members, object}
use Rattle.json_members.specs.Members.{no_list}
use Rattle.rule_book.specs.declared.line.Line.{Line}
use Rattle.rule_book.specs.declared.player.Player.{Player}
use Rattle.rule_book.specs.declared.season.Fixture.{Fixture}
use Rattle.rule_book.specs.MatchFacts.{has_facts}
use Rattle.season_book.specs.Book.{Facts}
use Rattle.season_book.specs.Windows.{listed}
use Rattle.season_book.specs.ElementSummary.{beside_match, coming_row, has_club, history_row}
use Rattle.season_views.specs.ElementSummaryReads.{element_summary_reads}
use Rattle.season_views.specs.FixturesReads.{match_reads}
use Rattle.season_book.specs.FixturesWindow.{by_kickoff}

abbrev pub summary_by : Facts → Player → List Fixture → List Fixture → Data
summary_by facts player coming behind = object
    (member (codes "fixtures") (listed (coming_row player.club) (filter (λ fixture. has_club player.club fixture && not (has_facts facts.matches fixture.id)) coming))
    (member (codes "history") (listed (history_row facts player.id) (flat_map (beside_match facts player.id) behind))
    (member (codes "history_past") no_list
    no_members)))

-- the reads of his matches in their order
pub reads_in : (facts : Facts) (p : ℕ) (order : List Fixture) → order ≡ by_kickoff facts.calendar.fixtures
    → sum_by (λ (row : Fixture × Line). match_reads facts row.0.id) (flat_map (beside_match facts p) order) ≡ element_summary_reads facts p
reads_in facts p order is = ap (λ (l : List Fixture). sum_by (λ (row : Fixture × Line). match_reads facts row.0.id) (flat_map (beside_match facts p) l)) is
