use Rattle.std.proofs.Common.{◌≡◌, ◌≤◌, ◌+◌, ◌++◌, drop, length, take, if◌then◌else◌}
use Rattle.std.specs.Prelude.{sum_by}
use Rattle.rule_book.specs.Calendar.{is_locked}
use Rattle.json_members.specs.Tokens.{tokens_of}
use Rattle.json_members.proofs.ListLemmas.{rest_of}
use Rattle.season_book.specs.Windows.{numbered}
use Rattle.season_views.specs.Seen.{OfEachSeen}
use Rattle.season_book.specs.Events.{event_row, events_window}
use Rattle.bootstrap_window.proofs.events.write_events.Given as goal

-- the tokens so far, and then those of what is left, are those of all; and what was read
abbrev pub invariant-loop-place : goal.invariant-loop-place
invariant-loop-place g l = record {
  whole : OfEachSeen l.seen (λ entries.
      (l.out.tokens ++ rest_of (event_row l.seen.facts entries) (drop l.place (numbered l.seen.facts.calendar.deadlines)) ≡ l.fn.out.tokens ++ tokens_of (events_window l.seen.facts entries)) × (l.out.before ≡ l.fn.out.before));
  cost : l.steps ≤ l.fn.steps + sum_by (λ row. if is_locked l.seen.facts.calendar row.0 then length l.seen.managers.managers else 0) (take l.place (numbered l.seen.facts.calendar.deadlines));
}
