use Rattle.std.proofs.Common.{◌≡◌, ◌≤◌, ◌-◌, ◌∙◌, if◌then◌else◌, [], None, Some, length, map, ap, subst, sym, arith}
use Rattle.std.specs.Prelude.{slice_get}
use Rattle.std.specs.List.{range_with_len}
use Rattle.season_nodes.specs.BookFacts.{facts_of}
use Rattle.season_nodes.specs.Brackets.{ties_after}
use Rattle.season_nodes.specs.Season.{bracket_of}
use Rattle.season_nodes.specs.declared.nodes.Node.TheVariants as node
use Rattle.season_graph.specs.declared.parts.Part.TheVariants as part
use Rattle.season_graph.proofs.PartFacts.{is_within, length_mapped}
use Rattle.season_graph.proofs.parts.ties_in.Goals as goal

pub returns-clause-many : goal.returns-clause-many
returns-clause-many c =
    let bracket = bracket_of (facts_of c.args.books.now) c.args.cup in
    let r = c.args.gameweek - bracket.start in
    let many : c.ties.result ≡ ties_after bracket r = c.ties.ensures.value ∙ ap (λ s. ties_after bracket (c.args.gameweek - s)) c.cup_start-start.ensures.value in
    let ties = map (λ i. part.One (node.Tie c.args.cup r i)) (range_with_len 0 (ties_after bracket r)) in
    ap (λ t. length (if t then ties else [])) (is_within bracket.start c.args.gameweek (omega (arith, c.cup_start-start.ensures.value, c.if-start-gameweek.false)))
    ∙ length_mapped (λ i. part.One (node.Tie c.args.cup r i)) 0 (ties_after bracket r) ∙ sym many
