use Rattle.std.proofs.Common.{◌≡◌, ◌≤◌, take}
use Rattle.std.specs.Prelude.{count_by}
use Rattle.rule_book.specs.HistoryRules.{is_started}
use Rattle.season_views.specs.Seen.{OfEachSeen}
use Rattle.bootstrap_window.proofs.bootstrap.registered.Given as goal

-- those among the entries so far
abbrev pub invariant-loop-place : goal.invariant-loop-place
invariant-loop-place g l = record {
  many : OfEachSeen l.seen (λ entries. l.many ≡ count_by (λ entry. is_started entry.history) (take l.place entries));
  few : l.many ≤ l.place;
}
