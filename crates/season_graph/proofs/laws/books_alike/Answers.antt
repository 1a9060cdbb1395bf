use Rattle.season_nodes.specs.BookFacts.{facts_of}
use Rattle.season_nodes.specs.Held.{held}
use Rattle.season_graph.proofs.AlikeFacts.{alike_follows, alike_marks}
use Rattle.season_graph.proofs.laws.books_alike.Goals as goal

pub returns-clause-sound : goal.returns-clause-sound
returns-clause-sound c = λ before is_before is_now alike. alike_follows before (facts_of c.args.books.now) alike is_before is_now (held c.args.cells.now)

pub returns-clause-exact : goal.returns-clause-exact
returns-clause-exact c = λ before is_before is_now alike. alike_marks before (facts_of c.args.books.now) alike is_before is_now (held c.args.cells.now)
