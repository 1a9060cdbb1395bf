use Rattle.std.proofs.Common.{rules, ◌≡◌, false, cond, [], ◌++◌, subst, sym}
use Rattle.rule_book.specs.MatchFacts.{is_finished}
use Rattle.rescore_graph.specs.Graph.{Among}
use Rattle.season_nodes.specs.BookFacts.{facts_of}
use Rattle.season_nodes.specs.Held.{held}
use Rattle.season_nodes.specs.Season.{is_live}
use Rattle.season_graph.specs.Refreshed.{Refreshed}
use Rattle.season_graph.specs.Touched.{ending_nodes}
use Rattle.season_graph.proofs.RefreshedFacts.{refreshed_append}
use Rattle.season_graph.proofs.endings.refresh_endings.Goals as goal

pub returns : goal.returns
returns c =
    let d = facts_of c.args.books.now in
    let from = ending_nodes d c.args.fixture c.args.from.now in
    let to = ending_nodes d c.args.fixture c.args.to.now in
    let unfinished : is_finished d.matches c.args.fixture ≡ false = search rules in
    subst (λ b. Refreshed (is_live d) (Among (cond b [] (from ++ to))) (held c.args.cells.now) (held c.refresh_ending-2.new.cells)) (sym unfinished)
    (refreshed_append (is_live d) from to (held c.args.cells.now) (held c.refresh_ending.new.cells) (held c.refresh_ending-2.new.cells) c.in_ok-refresh_ending.ensures c.in_ok-refresh_ending-2.ensures)
