use Rattle.std.proofs.Common.{◌≡◌, ◌≤◌, ◌+◌, take}
use Rattle.std.specs.List.{count_by}
use Rattle.season_views.specs.Seen.{OfEachSeen}
use Rattle.entry_windows.proofs.EventRanks.{has_more}
use Rattle.entry_windows.proofs.summary.event_rank.Given as goal

-- the entries before this one are counted
abbrev pub invariant-loop-place : goal.invariant-loop-place
invariant-loop-place g l = record {
  value : OfEachSeen l.seen (λ entries. l.rank ≡ count_by (has_more l.seen.facts l.last l.points) (take l.place entries) + 1);
  few : l.rank ≤ l.place + 1;
  cost : l.steps ≤ l.fn.steps + l.place;
}
