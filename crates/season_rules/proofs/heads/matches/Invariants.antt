use Rattle.std.proofs.Common.{◌≡◌, ◌≤◌, ◌+◌, All, length, map}
use Rattle.std.specs.List.{range_with_len}
use Rattle.rule_book.specs.FigureRange.{IsWithin}
use Rattle.season_nodes.specs.BookFacts.{facts_of}
use Rattle.season_nodes.specs.Held.{held_values}
use Rattle.season_nodes.specs.Rounds.{start_in}
use Rattle.season_nodes.specs.Season.{seen_by}
use Rattle.season_rules.proofs.heads.matches.Given as goal

abbrev pub invariant-loop-round : goal.invariant-loop-round
invariant-loop-round g l = record {
  value : l.matches.items ≡ map (seen_by (facts_of l.books) (held_values l.cells) l.league l.fn.place) (range_with_len (start_in l.books.leagues.now l.league) l.round);
  long : length l.matches.items ≡ l.round;
  near : All (λ m. IsWithin 18000000 m.0) l.matches.items;
  cost : l.steps ≤ l.fn.steps + l.round;
}
