use Rattle.std.proofs.Common.{◌≤◌, length, [], Some}
use Rattle.fpl_http.specs.Replies.{Speaks}
use Rattle.fpl_http.specs.Runs.{Served}
use Rattle.fpl_http.proofs.batch.take_turns.Given as goal

abbrev pub invariant-loop-places : goal.invariant-loop-places
invariant-loop-places g l = record {
  ready : g.R.Service.ready l.service (l.host, l.keeper, l.clock, l.steps);
  served : Served (Speaks (g.R.Service.answers l.service)) l.fn.places.decoder.pending l.places.decoder.pending (g.R.Service.see (l.fn.host, l.fn.keeper, l.fn.clock, l.fn.steps)) (g.R.Service.see (l.host, l.keeper, l.clock, l.steps)) (Some []) (Some l.places.outbox);
  fewer : length l.places.decoder.pending ≤ length l.fn.places.decoder.pending;
  room : length l.places.outbox ≤ 262144;
}

abbrev pub decreases-loop-places : goal.decreases-loop-places
decreases-loop-places g l = length l.places.decoder.pending
