use Rattle.match_events.proofs.PlaceLemmas.{place_found}
use Rattle.match_events.proofs.changes.place_of.Goals as goal

pub returns : goal.returns
returns c = place_found c.args.players.now c.args.player c.binary_search.result c.requires c.binary_search.ensures.position
