use Rattle.std.proofs.Common.{◌∙◌, map}
use Rattle.season_nodes.specs.BookFacts.{facts_of}
use Rattle.season_nodes.specs.Season.{players_of}
use Rattle.season_nodes.specs.declared.nodes.Node.TheVariants as node
use Rattle.season_graph.specs.declared.parts.Part.TheVariants as part
use Rattle.season_graph.proofs.PartFacts.{behind_first}
use Rattle.season_graph.proofs.parts.line_at.Goals as goal

pub returns : goal.returns
returns c =
    let lines = map (λ p. part.One (node.Line c.args.fixture p)) (players_of (facts_of c.args.books.now) c.args.fixture) in
    c.line_behind.ensures ∙ behind_first (part.One (node.Bonus c.args.fixture)) lines c.args.place c.if-place-eq0.false
