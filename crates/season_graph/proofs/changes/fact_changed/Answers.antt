use Rattle.season_nodes.specs.BookFacts.{facts_of}
use Rattle.season_nodes.specs.Held.{held}
use Rattle.season_graph.proofs.ChangedFacts.{line_follows, line_marks}
use Rattle.season_graph.proofs.changes.fact_changed.Goals as goal

pub returns-clause-sound : goal.returns-clause-sound
returns-clause-sound c = λ old is_old is_new differ. line_follows old (facts_of c.args.books.now) is_old is_new (held c.args.cells.now) (held c.refresh_fact.new.cells) c.args.fixture c.args.player differ c.in_ok-refresh_fact.ensures

pub returns-clause-exact : goal.returns-clause-exact
returns-clause-exact c = λ old is_old is_new differ. line_marks old (facts_of c.args.books.now) is_old is_new (held c.args.cells.now) (held c.refresh_fact.new.cells) c.args.fixture c.args.player differ.0 differ.1 c.in_ok-refresh_fact.ensures
