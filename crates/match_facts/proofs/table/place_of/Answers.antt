use Rattle.match_facts.proofs.ColumnLemmas.{searched}
use Rattle.match_facts.proofs.table.place_of.Goals as goal

pub returns-in-None : goal.returns-in-None
returns-in-None c = searched c.args.fixtures.now c.requires c.args.fixture c.binary_search.result c.binary_search.ensures.bound c.binary_search.ensures.position
