use Rattle.std.proofs.Common.{◌≤◌, ◌+◌, ◌*◌, ◌^◌, map, take}
use Rattle.std.specs.Prelude.{filter}
use Rattle.rule_book.specs.FigureRange.{IsWithin}
use Rattle.season_book.specs.Windows.{numbered}
use Rattle.season_views.specs.Seen.{OfEachSeen}
use Rattle.season_book.specs.EntryTotals.{gross_by, is_in}
use Rattle.bootstrap_window.specs.Told.{AreTold}
use Rattle.bootstrap_window.proofs.scores.event_scores.Given as goal

-- what is told of the entries so far
abbrev pub invariant-loop-place : goal.invariant-loop-place
invariant-loop-place g l = record {
  told : OfEachSeen l.seen (λ entries. AreTold (map (λ row. (row.0, gross_by l.seen.facts row.1.history l.gameweek)) (filter (λ row. is_in row.1 l.gameweek) (take l.place (numbered entries)))) l.scores);
  few : l.scores.many ≤ l.place;
  near : IsWithin (2 ^ 31 * l.scores.many) l.scores.total;
  cost : l.steps ≤ l.fn.steps + l.place;
}
