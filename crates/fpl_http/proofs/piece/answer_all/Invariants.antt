use Rattle.std.proofs.Common.{◌≡◌, ◌≤◌, [], length}
use Rattle.fpl_http.specs.Replies.{Speaks}
use Rattle.fpl_http.specs.Runs.{Served}
use Rattle.fpl_http.proofs.piece.answer_all.Given as goal

abbrev pub invariant-loop-status : goal.invariant-loop-status
invariant-loop-status g l = record {
  ready : g.R.Service.ready l.service (l.host, l.keeper, l.clock, l.steps);
  served : Served (Speaks (g.R.Service.answers l.service)) l.fn.places.decoder.pending l.places.decoder.pending (g.R.Service.see (l.fn.host, l.fn.keeper, l.fn.clock, l.fn.steps)) (g.R.Service.see (l.host, l.keeper, l.clock, l.steps)) (g.W.Sink.taken l.fn.out) (g.W.Sink.taken l.out);
  empty : l.places.outbox ≡ [];
  later : g.W.Sink.faults l.fn.out ≤ g.W.Sink.faults l.out;
}

abbrev pub decreases-loop-status : goal.decreases-loop-status
decreases-loop-status g l = length l.places.decoder.pending
