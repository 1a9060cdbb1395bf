use Rattle.std.proofs.Common.{◌≢◌, ℕ, List, subst, sym}
use Rattle.rule_book.specs.MatchFacts.{line_of}
use Rattle.rescore_graph.specs.Graph.{Among}
use Rattle.season_graph.specs.Changes.{DifferInSheet}
use Rattle.season_graph.specs.Touched.{coming_nodes, league_nodes, line_nodes, mark_nodes, moved_nodes, sheet_nodes}
use Rattle.season_graph.specs.Followed.{had_cell, had_line}
use Rattle.season_nodes.specs.BookFacts.{facts_of}
use Rattle.season_nodes.specs.Held.{held}
use Rattle.season_nodes.specs.IndexFacts.{holders_in}
use Rattle.season_cells.specs.Leading.{DifferAs}
use Rattle.season_cells.proofs.Marked.{marked_by, ok_three}
use Rattle.season_cells.proofs.kept.mark.Goals as goal

pub returns-in-Player : goal.returns-in-Player
returns-in-Player c =
    let d = facts_of c.args.rules.now.books in
    ok_three c.player_added.result c.player_added.ensures.nodes c.player_added.ensures.sound c.player_added.ensures.exact
    (λ nodes sound exact before is_b is_d index differ.
    let those = subst (DifferAs before d) c.in-Player.is differ in
    marked_by before d (held c.args.cells.now) (held c.player_added.new.cells) (coming_nodes d (holders_in c.args.rules.now.index.now) c.in-Player.player)
    nodes (sound index before is_b is_d those) (exact index before is_b is_d those))

pub returns-in-Place : goal.returns-in-Place
returns-in-Place c =
    let d = facts_of c.args.rules.now.books in
    ok_three c.fixture_moved.result c.fixture_moved.ensures.nodes c.fixture_moved.ensures.sound c.fixture_moved.ensures.exact
    (λ nodes sound exact before is_b is_d index differ.
    let those = subst (DifferAs before d) c.in-Place.is differ in
    marked_by before d (held c.args.cells.now) (held c.fixture_moved.new.cells) (moved_nodes d c.in-Place.fixture c.in-Place.from c.in-Place.to)
    nodes
    (sound before is_b is_d (record { differ = those.0; from_there = those.1; to_there = those.2 }))
    (exact before is_b is_d (record { differ = those.0; from_there = those.1; to_there = those.2 }, those.3)))

pub returns-in-Line : goal.returns-in-Line
returns-in-Line c =
    let d = facts_of c.args.rules.now.books in
    ok_three c.fact_changed.result c.fact_changed.ensures.nodes c.fact_changed.ensures.sound c.fact_changed.ensures.exact
    (λ nodes sound exact before is_b is_d index differ.
    let those = subst (DifferAs before d) c.in-Line.is differ in
    marked_by before d (held c.args.cells.now) (held c.fact_changed.new.cells)
    (line_nodes d c.in-Line.fixture c.in-Line.player (had_line c.args.cells.now c.in-Line.fixture c.in-Line.player))
    nodes (sound before is_b is_d those.0) (exact before is_b is_d those))

pub returns-in-Mark : goal.returns-in-Mark
returns-in-Mark c =
    let d = facts_of c.args.rules.now.books in
    ok_three c.mark_changed.result c.mark_changed.ensures.nodes c.mark_changed.ensures.sound c.mark_changed.ensures.exact
    (λ nodes sound exact before is_b is_d index differ.
    let those = subst (DifferAs before d) c.in-Mark.is differ in
    marked_by before d (held c.args.cells.now) (held c.mark_changed.new.cells) (mark_nodes d c.in-Mark.fixture)
    nodes (sound before is_b is_d those.0) (exact before is_b is_d those))

pub returns-in-Sheet : goal.returns-in-Sheet
returns-in-Sheet c =
    let d = facts_of c.args.rules.now.books in
    ok_three c.sheet_changed.result c.sheet_changed.ensures.nodes c.sheet_changed.ensures.sound c.sheet_changed.ensures.exact
    (λ nodes sound exact before is_b is_d index differ.
    let those = subst (DifferAs before d) c.in-Sheet.is differ in
    let given = subst (λ (ps : List ℕ). DifferInSheet before d c.in-Sheet.fixture ps c.in-Sheet.marked × ((p : ℕ) → Among ps p → line_of before.matches c.in-Sheet.fixture p ≢ line_of d.matches c.in-Sheet.fixture p))
    (sym c.deref.ensures.value) (those.0, those.1) in
    marked_by before d (held c.args.cells.now) (held c.sheet_changed.new.cells)
    (sheet_nodes d (had_line c.args.cells.now c.in-Sheet.fixture) c.in-Sheet.fixture c.deref.result.now c.in-Sheet.marked)
    nodes (sound before is_b is_d given.0) (exact before is_b is_d (record { differ = given.0; lines = given.1; mark = those.2 })))

pub returns-in-League : goal.returns-in-League
returns-in-League c =
    let d = facts_of c.args.rules.now.books in
    ok_three c.league_changed.result c.league_changed.ensures.nodes c.league_changed.ensures.sound c.league_changed.ensures.exact
    (λ nodes sound exact before is_b is_d index differ.
    let those = subst (DifferAs before d) c.in-League.is differ in
    marked_by before d (held c.args.cells.now) (held c.league_changed.new.cells) (league_nodes d (had_cell c.args.cells.now) c.in-League.league)
    nodes (sound before is_b is_d those) (exact before is_b is_d those))
