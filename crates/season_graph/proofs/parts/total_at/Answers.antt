use Rattle.std.proofs.Common.{◌∙◌, map}
use Rattle.rule_book.specs.LeagueCalls.{leagues_of}
use Rattle.season_nodes.specs.declared.nodes.Node.TheVariants as node
use Rattle.season_graph.specs.declared.parts.Part.TheVariants as part
use Rattle.season_graph.proofs.PartFacts.{behind_first}
use Rattle.season_graph.proofs.parts.total_at.Goals as goal

pub returns : goal.returns
returns c =
    let totals = map (part.TotalIn c.args.entry) (leagues_of c.args.books.now.leagues.now c.args.entry) in
    c.total_behind.ensures ∙ behind_first (part.One (node.Total c.args.entry 1)) totals c.args.place c.if-place-eq0.false
