use Rattle.std.proofs.Common.{◌≡◌, [], ◌≤◌, ◌-◌, ◌^◌, length, List, ℕ}
use Rattle.std.specs.Io.KnownBytes.{Consumes}
use Rattle.fpl_http.specs.Held.{IsWaiting}
use Rattle.fpl_http.specs.Replies.{Speaks}
use Rattle.fpl_http.specs.Runs.{Served}
use Rattle.fpl_http.proofs.converse.converse.Given as goal

abbrev pub invariant-loop-taken : goal.invariant-loop-taken
invariant-loop-taken g l = record {
  ready : g.R.Service.ready l.service (l.host, l.keeper, l.clock, l.steps);
  heard : (got : List ℕ) × Consumes (g.S.Source.left l.fn.src) (g.S.Source.left l.src) got × (length got ≡ l.taken)
      × Served (Speaks (g.R.Service.answers l.service)) got l.places.decoder.pending (g.R.Service.see (l.fn.host, l.fn.keeper, l.fn.clock, l.fn.steps)) (g.R.Service.see (l.host, l.keeper, l.clock, l.steps)) (g.W.Sink.taken l.fn.out) (g.W.Sink.taken l.out);
  waiting : IsWaiting l.places.decoder;
  empty : l.places.outbox ≡ [];
  most : l.taken ≤ 2 ^ 32;
  read_later : g.S.Source.faults l.fn.src ≤ g.S.Source.faults l.src;
  write_later : g.W.Sink.faults l.fn.out ≤ g.W.Sink.faults l.out;
}

abbrev pub decreases-loop-taken : goal.decreases-loop-taken
decreases-loop-taken g l = 2 ^ 32 - l.taken
