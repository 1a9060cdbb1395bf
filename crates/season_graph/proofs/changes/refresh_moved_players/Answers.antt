use Rattle.std.proofs.Common.{◌≡◌, ◌++◌, ◌+◌, ℕ, List, take, subst, sym}
use Rattle.std.specs.List.{flat_map}
use Rattle.rescore_graph.specs.States.{look}
use Rattle.season_nodes.specs.BookFacts.{facts_of}
use Rattle.season_nodes.specs.Season.{is_live}
use Rattle.season_graph.specs.Touched.{gameweek_beside}
use Rattle.season_nodes.specs.declared.nodes.Node.{Node}
use Rattle.season_nodes.specs.NodeOrder.{node_cmp}
use Rattle.season_nodes.proofs.Lists.{flat_more}
use Rattle.season_graph.proofs.RefreshedFacts.{refreshed_append, refreshed_listed}
use Rattle.season_graph.proofs.changes.refresh_moved_players.Goals as goal

pub loop-player-preserved : goal.loop-player-preserved
loop-player-preserved c =
    let live = is_live (facts_of c.args.books.now) in
    let both : ℕ → List Node = λ p. gameweek_beside p c.args.from.now ++ gameweek_beside p c.args.to.now in
    let ps = c.players_of-player-items.result.now in
    let i = c.loop-player.player-index in
    let p = c.player-item.result in
    let s = look node_cmp c.args.cells.now in
    let t = look node_cmp c.loop-player.cells in
    let u = look node_cmp c.refresh_gameweek.new.cells in
    let v = look node_cmp c.refresh_gameweek-in-loop-player.new.cells in
    refreshed_listed live (flat_map both (take i ps) ++ both p) (flat_map both (take (i + 1) ps)) s v
    (subst (λ q. flat_map both (take i ps) ++ both q ≡ flat_map both (take (i + 1) ps)) (sym c.player-item.is) (flat_more both ps i p c.loop-player-test.true))
    (refreshed_append live (flat_map both (take i ps)) (both p) s t v c.loop-player.invariant
    (refreshed_append live (gameweek_beside p c.args.from.now) (gameweek_beside p c.args.to.now) t u v c.in_ok-refresh_gameweek.ensures c.in_ok-refresh_gameweek-2.ensures))
