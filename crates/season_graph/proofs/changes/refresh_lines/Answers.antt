use Rattle.std.proofs.Common.{◌≡◌, ◌++◌, ◌+◌, ℕ, Bool, List, is_some, take, refl, subst, sym}
use Rattle.std.specs.List.{flat_map}
use Rattle.rescore_graph.specs.States.{look}
use Rattle.season_nodes.specs.BookFacts.{facts_of}
use Rattle.season_nodes.specs.Season.{is_live}
use Rattle.season_graph.specs.Touched.{line_nodes}
use Rattle.season_nodes.specs.declared.nodes.Node.{Node}
use Rattle.season_nodes.specs.declared.nodes.Node.TheVariants as node
use Rattle.season_nodes.proofs.Lists.{flat_more}
use Rattle.season_nodes.specs.NodeOrder.{node_cmp}
use Rattle.season_graph.proofs.RefreshedFacts.{refreshed_listed}
use Rattle.season_graph.proofs.SheetFacts.{line_more}
use Rattle.season_graph.proofs.changes.refresh_lines.Goals as goal

pub loop-player-preserved : goal.loop-player-preserved
loop-player-preserved c =
    let d = facts_of c.args.books.now in
    let f = c.args.fixture in
    let s = look node_cmp c.args.cells.now in
    let t = look node_cmp c.loop-player.cells in
    let u = look node_cmp c.refresh_fact.new.cells in
    let w : ℕ → Bool = λ p. is_some (s (node.Line f p)) in
    let each : ℕ → List Node = λ p. line_nodes d f p (w p) in
    let ps = c.args.players.now in
    let i = c.loop-player.player-index in
    let p = c.player-item.result in
    refreshed_listed (is_live d) (flat_map each (take i ps) ++ each p) (flat_map each (take (i + 1) ps)) s u
    (subst (λ q. flat_map each (take i ps) ++ each q ≡ flat_map each (take (i + 1) ps)) (sym c.player-item.is) (flat_more each ps i p c.loop-player-test.true))
    (line_more d w f p (take i ps) s t u refl c.loop-player.invariant c.in_ok-refresh_fact.ensures)
