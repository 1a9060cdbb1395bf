use Rattle.match_facts.proofs.ColumnLemmas.{searched}
use Rattle.match_facts.proofs.columns.place_of.Goals as goal

pub returns : goal.returns
returns c = searched c.args.players.now c.requires c.args.player c.binary_search.result c.binary_search.ensures.bound c.binary_search.ensures.position
