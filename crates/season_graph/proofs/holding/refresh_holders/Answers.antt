use Rattle.std.proofs.Common.{◌≡◌, ◌+◌, ◌++◌, ◌∷◌, [], map, take, subst, sym}
use Rattle.season_nodes.specs.BookFacts.{facts_of}
use Rattle.season_nodes.specs.Held.{held}
use Rattle.season_nodes.specs.Season.{is_live}
use Rattle.season_nodes.specs.declared.nodes.Node.TheVariants as node
use Rattle.season_nodes.proofs.Lists.{mapped_more}
use Rattle.season_graph.proofs.RefreshedFacts.{refreshed_append, refreshed_listed}
use Rattle.season_graph.proofs.holding.refresh_holders.Goals as goal

pub loop-entry-preserved : goal.loop-entry-preserved
loop-entry-preserved c =
    let live = is_live (facts_of c.args.books.now) in
    let g = c.args.gameweek in
    let es = c.holders-entry-items.result.now in
    let i = c.loop-entry.entry-index in
    let e = c.entry-item.result in
    let s = held c.args.cells.now in
    let t = held c.loop-entry.cells in
    let u = held c.refresh_one.new.cells in
    refreshed_listed live (map (λ x. node.TeamGw x g) (take i es) ++ node.TeamGw e g ∷ []) (map (λ x. node.TeamGw x g) (take (i + 1) es)) s u
    (subst (λ x. map (λ x. node.TeamGw x g) (take i es) ++ node.TeamGw x g ∷ [] ≡ map (λ x. node.TeamGw x g) (take (i + 1) es)) (sym c.entry-item.is) (mapped_more (λ x. node.TeamGw x g) es i e c.loop-entry-test.true))
    (refreshed_append live (map (λ x. node.TeamGw x g) (take i es)) (node.TeamGw e g ∷ []) s t u c.loop-entry.invariant c.in_ok-refresh_one.ensures)
