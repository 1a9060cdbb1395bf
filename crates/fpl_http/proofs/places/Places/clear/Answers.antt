use Rattle.std.proofs.Common.{ap}
use Rattle.fpl_http.specs.Held.{Held}
use Rattle.fpl_http.proofs.SessionLemmas.{waits_first}
use Rattle.fpl_http.proofs.places.Places.clear.Goals as goal

pub returns-clause-waiting : goal.returns-clause-waiting
returns-clause-waiting c =
    waits_first c.clear.new.self (ap (λ (h : Held). h.pending) c.clear.ensures, ap (λ (h : Held). h.found) c.clear.ensures)
