use Rattle.std.proofs.Common.{◌≡◌, ◌≤◌, ◌+◌, ℕ, false, length, true, take}
use Rattle.std.specs.List.{All}
use Rattle.std.specs.List.Sorted.{IsStrictlyIncreasing}
use Rattle.match_events.specs.Lines.{has_come_on, line_of}
use Rattle.match_events.specs.Sheets.{IsOther, is_listed}
use Rattle.match_events.proofs.changes.add_changed.Given as goal

abbrev pub invariant-loop-event : goal.invariant-loop-event
invariant-loop-event l = record {
  ascending : IsStrictlyIncreasing l.players.items;
  differ : All (IsOther l.minutes l.told l.events) l.players.items;
  more : (p : ℕ) → is_listed l.fn.players.items p ≡ true → is_listed l.players.items p ≡ true;
  others : (p : ℕ) → has_come_on (take l.event-index l.comings) p ≡ true → is_listed l.players.items p ≡ false
      → line_of l.minutes l.events p ≡ line_of l.minutes l.told p;
  few : length l.players.items ≤ length l.fn.players.items + l.event-index;
}
