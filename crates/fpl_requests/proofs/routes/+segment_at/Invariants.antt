use Rattle.fpl_requests.proofs.routes.+segment_at.Given as goal

abbrev pub decreases-segment_at : goal.decreases-segment_at
decreases-segment_at l = l.place
