use Rattle.std.proofs.Common.{◌≡◌, ◌≤◌, ◌+◌, ◌++◌, drop, flat_map, sum_by}
use Rattle.json_members.specs.Tokens.{tokens_of}
use Rattle.json_members.proofs.ListLemmas.{rest_of}
use Rattle.season_book.specs.Windows.{listed}
use Rattle.season_book.specs.ElementSummary.{beside_match, history_row}
use Rattle.season_views.specs.FixturesReads.{match_reads}
use Rattle.fixture_windows.proofs.element_summary.write_history.Given as goal

-- the tokens so far, and then those of what is left, are those of all; so it is with the reads
abbrev pub invariant-loop-fixture : goal.invariant-loop-fixture
invariant-loop-fixture g l = record {
  tokens : l.out.tokens ++ rest_of (history_row l.seen.facts l.player) (flat_map (beside_match l.seen.facts l.player) (drop l.fixture-index l.order))
      ≡ l.fn.out.tokens ++ tokens_of (listed (history_row l.seen.facts l.player) (flat_map (beside_match l.seen.facts l.player) l.order));
  before : l.out.before ≡ l.fn.out.before;
  cost : l.steps + sum_by (λ row. match_reads l.seen.facts row.0.id) (flat_map (beside_match l.seen.facts l.player) (drop l.fixture-index l.order))
      ≤ l.fn.steps + sum_by (λ row. match_reads l.seen.facts row.0.id) (flat_map (beside_match l.seen.facts l.player) l.order);
}
