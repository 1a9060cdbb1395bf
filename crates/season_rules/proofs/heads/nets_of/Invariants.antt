use Rattle.std.proofs.Common.{◌≡◌, ◌≤◌, ◌+◌, All, map, take}
use Rattle.rule_book.specs.FigureRange.{IsWithin}
use Rattle.season_nodes.specs.BookFacts.{facts_of}
use Rattle.season_nodes.specs.Held.{held_values}
use Rattle.season_nodes.specs.Season.{net_by}
use Rattle.season_rules.proofs.heads.nets_of.Given as goal

abbrev pub invariant-loop-entry : goal.invariant-loop-entry
invariant-loop-entry g l = record {
  value : l.nets.items ≡ map (λ e. net_by (facts_of l.books) (held_values l.cells) e l.gameweek) (take l.entry-index l.order);
  near : All (IsWithin 18000000) l.nets.items;
  cost : l.steps ≤ l.fn.steps + l.entry-index;
}
