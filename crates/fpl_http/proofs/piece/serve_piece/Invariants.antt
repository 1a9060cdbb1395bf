use Rattle.std.proofs.Common.{◌≡◌, ◌≤◌, ◌++◌, [], length}
use Rattle.fpl_http.specs.Held.{IsWaiting}
use Rattle.fpl_http.specs.Replies.{Speaks}
use Rattle.fpl_http.specs.Runs.{Served}
use Rattle.fpl_http.proofs.piece.serve_piece.Given as goal

abbrev pub invariant-loop-rest : goal.invariant-loop-rest
invariant-loop-rest g l = record {
  ready : g.R.Service.ready l.service (l.host, l.keeper, l.clock, l.steps);
  served : Served (Speaks (g.R.Service.answers l.service)) (l.fn.places.decoder.pending ++ l.fn.piece) (l.places.decoder.pending ++ l.rest) (g.R.Service.see (l.fn.host, l.fn.keeper, l.fn.clock, l.fn.steps)) (g.R.Service.see (l.host, l.keeper, l.clock, l.steps)) (g.W.Sink.taken l.fn.out) (g.W.Sink.taken l.out);
  waiting : IsWaiting l.places.decoder;
  empty : l.places.outbox ≡ [];
  later : g.W.Sink.faults l.fn.out ≤ g.W.Sink.faults l.out;
}

abbrev pub decreases-loop-rest : goal.decreases-loop-rest
decreases-loop-rest g l = length l.rest
