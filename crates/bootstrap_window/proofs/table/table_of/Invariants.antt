use Rattle.std.proofs.Common.{◌≤◌, ◌+◌, map, take}
use Rattle.std.specs.Prelude.{sum_by}
use Rattle.std.specs.List.{flat_map}
use Rattle.rule_book.specs.PlayerFigures.{line_beside}
use Rattle.season_views.specs.BootstrapReads.{fixture_reads}
use Rattle.bootstrap_window.specs.Tables.{AllSmall, Sums}
use Rattle.bootstrap_window.proofs.table.table_of.Given as goal

-- the sums over the fixtures so far, and what was read
abbrev pub invariant-loop-fixture : goal.invariant-loop-fixture
invariant-loop-fixture g l = record {
  sums : Sums l.seen.facts l.table (λ p. flat_map (line_beside l.seen.facts.matches p) (map (λ x. x.id) (take l.fixture-index l.seen.facts.calendar.fixtures)));
  small : AllSmall l.table;
  cost : l.steps ≤ l.fn.steps + sum_by (fixture_reads l.seen.facts) (take l.fixture-index l.seen.facts.calendar.fixtures);
}
