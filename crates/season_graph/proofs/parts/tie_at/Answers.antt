use Rattle.std.proofs.Common.{◌≡◌, ◌≤◌, ◌-◌, ◌∙◌, if◌then◌else◌, [], None, Some, length, map, ap, subst, sym, arith}
use Rattle.std.specs.Prelude.{slice_get}
use Rattle.std.specs.List.{range_with_len}
use Rattle.season_nodes.specs.BookFacts.{facts_of}
use Rattle.season_nodes.specs.Brackets.{ties_after}
use Rattle.season_nodes.specs.Season.{bracket_of}
use Rattle.season_nodes.specs.declared.nodes.Node.TheVariants as node
use Rattle.season_graph.specs.declared.parts.Part.TheVariants as part
use Rattle.season_graph.proofs.PartFacts.{in_mapped, is_within, past_mapped}
use Rattle.season_graph.proofs.parts.tie_at.Goals as goal

pub returns-then-place-ties : goal.returns-then-place-ties
returns-then-place-ties c =
    let bracket = bracket_of (facts_of c.args.books.now) c.args.cup in
    let r = c.args.gameweek - bracket.start in
    let many : c.ties.result ≡ ties_after bracket r = c.ties.ensures.value ∙ ap (λ s. ties_after bracket (c.args.gameweek - s)) c.cup_start-start.ensures.value in
    let ties = map (λ i. part.One (node.Tie c.args.cup r i)) (range_with_len 0 (ties_after bracket r)) in
    past_mapped (λ i. part.One (node.Tie c.args.cup r i)) (ties_after bracket r) c.args.place (omega (arith, many, c.if-place-ties.true))
    ∙ ap (λ t. slice_get (if t then ties else []) c.args.place) (sym (is_within bracket.start c.args.gameweek (omega (arith, c.cup_start-start.ensures.value, c.if-start-gameweek.false))))

pub returns : goal.returns
returns c =
    let bracket = bracket_of (facts_of c.args.books.now) c.args.cup in
    let r = c.args.gameweek - bracket.start in
    let many : c.ties.result ≡ ties_after bracket r = c.ties.ensures.value ∙ ap (λ s. ties_after bracket (c.args.gameweek - s)) c.cup_start-start.ensures.value in
    let ties = map (λ i. part.One (node.Tie c.args.cup r i)) (range_with_len 0 (ties_after bracket r)) in
    ap (λ s. Some (part.One (node.Tie c.args.cup (c.args.gameweek - s) c.args.place))) c.cup_start-start.ensures.value
    ∙ in_mapped (λ i. part.One (node.Tie c.args.cup r i)) (ties_after bracket r) c.args.place (omega (arith, many, c.if-place-ties.false))
    ∙ ap (λ t. slice_get (if t then ties else []) c.args.place) (sym (is_within bracket.start c.args.gameweek (omega (arith, c.cup_start-start.ensures.value, c.if-start-gameweek.false))))
