use Rattle.std.proofs.Common.{◌≤◌, ◌+◌, ℕ, take}
use Rattle.std.specs.Prelude.{filter}
use Rattle.season_book.specs.Windows.{numbered}
use Rattle.season_views.specs.Seen.{OfEachSeen}
use Rattle.season_book.specs.EntryTotals.{is_in}
use Rattle.bootstrap_window.specs.Tables.{AreHeld, count_in}
use Rattle.bootstrap_window.proofs.holders.holders_now.Given as goal

-- who is held by the entries so far
abbrev pub invariant-loop-place : goal.invariant-loop-place
invariant-loop-place g l = record {
  held : OfEachSeen l.seen (λ entries. AreHeld l.seen.facts l.gameweek (filter (λ row. is_in row.1 l.gameweek) (take l.place (numbered entries))) l.holders);
  few : (p : ℕ) → count_in l.holders.counts p ≤ l.place;
  entries : l.holders.entries ≤ l.place;
  cost : l.steps ≤ l.fn.steps + l.place;
}
