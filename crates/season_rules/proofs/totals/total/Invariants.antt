use Rattle.std.proofs.Common.{◌≡◌, ◌≤◌, ◌+◌, ◌*◌, map}
use Rattle.std.specs.List.{filter, range_with_len}
use Rattle.rule_book.specs.FigureRange.{IsWithin}
use Rattle.rule_book.specs.HeadToHead.{total_of}
use Rattle.season_nodes.specs.BookFacts.{facts_of}
use Rattle.season_nodes.specs.Held.{held_values}
use Rattle.season_nodes.specs.Season.{has_begun, net_held}
use Rattle.season_nodes.specs.declared.nodes.Node.TheVariants as node
use Rattle.season_rules.proofs.totals.total.Given as goal

abbrev pub invariant-loop-place : goal.invariant-loop-place
invariant-loop-place g l = record {
  value : l.total ≡ total_of (map (λ h. net_held (held_values l.cells (node.TeamGw l.entry h))) (filter (has_begun (facts_of l.books) l.entry) (range_with_len l.start l.place)));
  near : IsWithin (18000000 * l.place) l.total;
  cost : l.steps ≤ l.fn.steps + l.place;
}
