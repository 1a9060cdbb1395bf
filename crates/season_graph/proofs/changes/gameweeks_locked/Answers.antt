use Rattle.season_nodes.specs.BookFacts.{facts_of}
use Rattle.season_nodes.specs.Held.{held}
use Rattle.season_graph.proofs.IndexingFacts.{lock_index, lock_keeps}
use Rattle.season_graph.proofs.LockFacts.{lock_follows, lock_marks}
use Rattle.season_graph.proofs.changes.gameweeks_locked.Goals as goal

pub returns-clause-sound : goal.returns-clause-sound
returns-clause-sound c = λ old is_old is_new differ. lock_follows old (facts_of c.args.books.now) c.args.first differ is_old is_new (held c.args.cells.now) (held c.refresh.new.cells) c.in_ok-refresh.ensures

pub returns-clause-exact : goal.returns-clause-exact
returns-clause-exact c = λ old is_old is_new differ. lock_marks old (facts_of c.args.books.now) c.args.first differ is_old is_new (held c.args.cells.now) (held c.refresh.new.cells) c.in_ok-refresh.ensures

pub returns-clause-index : goal.returns-clause-index
returns-clause-index c = λ old differ. lock_index old (facts_of c.args.books.now) c.args.first differ c.args.index.now c.index_gameweeks.new.index c.in_ok-index_gameweeks.ensures

pub returns-clause-earlier : goal.returns-clause-earlier
returns-clause-earlier c = lock_keeps (facts_of c.args.books.now) c.args.first c.args.index.now c.index_gameweeks.new.index c.in_ok-index_gameweeks.ensures
