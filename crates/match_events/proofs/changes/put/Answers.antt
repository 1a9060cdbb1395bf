use Rattle.match_events.proofs.PlaceLemmas.{listed-insert}
use Rattle.match_events.proofs.changes.put.Goals as goal

pub returns-in_ok-insert-in-Err-clause-listed : goal.returns-in_ok-insert-in-Err-clause-listed
returns-in_ok-insert-in-Err-clause-listed c = λ p.
    rw c.in_ok-insert-in-Err.ensures.items (listed-insert c.args.players.now.items c.args.player c.in-Err.place p)
