use Rattle.std.proofs.Common.{◌≡◌, ◌≤◌, ◌+◌, ◌*◌, All, length, take}
use Rattle.season_views.specs.Seen.{OfEachSeen}
use Rattle.entry_windows.specs.Races.{AreRanks}
use Rattle.entry_windows.proofs.ranks.ranks.Given as goal

-- the entries before this one are counted
abbrev pub invariant-loop-place : goal.invariant-loop-place
invariant-loop-place g l = record {
  value : OfEachSeen l.seen (λ entries. AreRanks l.seen.facts (take l.place entries) l.course l.through l.ranks);
  few : All (λ rank. rank ≤ l.place + 1) l.ranks;
  long : length l.ranks ≡ 38;
  cost : l.steps ≤ l.fn.steps + l.place * (2 * l.through);
}
