use Rattle.std.proofs.Common.{sym, subst}
use Rattle.season_graph.specs.Changes.{DifferInLocks}
use Rattle.season_graph.specs.Followed.{AreEvaluated}
use Rattle.season_nodes.specs.BookFacts.{facts_of}
use Rattle.season_nodes.specs.Held.{held}
use Rattle.season_nodes.specs.IndexFacts.{IsIndex, holders_in}
use Rattle.season_nodes.specs.Season.{IsSeason, SeasonFacts}
use Rattle.season_views.specs.Cells.{books_seen}
use Rattle.season_cells.specs.Correcting.{IsCheap, IsCorrected}
use Rattle.season_cells.specs.Kept.{AreCellsOf, CellRows}
use Rattle.season_cells.proofs.Corrected.{is_cheap, is_corrected}
use Rattle.season_cells.proofs.Marked.{marked_by}
use Rattle.season_cells.proofs.kept.KeptCells.follow_locks.Goals as goal

pub settle_season-requires-clause-index : goal.settle_season-requires-clause-index
settle_season-requires-clause-index g c =
    let kept = subst (AreCellsOf g.before) (sym c.self.view_is) c.requires.1.0 in
    c.in_ok-gameweeks_locked.ensures.index g.before
    (subst (λ (f : SeasonFacts). DifferInLocks g.before f c.args.first) (sym c.books_of-books.ensures) c.requires.1.1.1) kept.index

pub settle_season-requires-clause-sound : goal.settle_season-requires-clause-sound
settle_season-requires-clause-sound g c =
    let kept = subst (AreCellsOf g.before) (sym c.self.view_is) c.requires.1.0 in
    c.in_ok-gameweeks_locked.ensures.sound g.before kept.season (subst IsSeason (sym c.books_of-books.ensures) c.requires.1.1.0)
    (subst (λ (f : SeasonFacts). DifferInLocks g.before f c.args.first) (sym c.books_of-books.ensures) c.requires.1.1.1) kept.evaluated.sound

pub returns-clause-cells : goal.returns-clause-cells
returns-clause-cells g c =
    let same = c.books_of-books.ensures in
    let kept = subst (AreCellsOf g.before) (sym c.self.view_is) c.requires.1.0 in
    record {
      season = c.requires.1.1.0;
      index = subst (λ (f : SeasonFacts). IsIndex f (holders_in c.gameweeks_locked.new.index)) same
          (c.in_ok-gameweeks_locked.ensures.index g.before (subst (λ (f : SeasonFacts). DifferInLocks g.before f c.args.first) (sym same) c.requires.1.1.1) kept.index);
      evaluated = subst (λ (f : SeasonFacts). AreEvaluated f c.settle_season.new.cells) same c.in_ok-settle_season.ensures.evaluated;
    }

pub returns-clause-corrected : goal.returns-clause-corrected
returns-clause-corrected g c =
    let same = c.books_of-books.ensures in
    let kept = subst (AreCellsOf g.before) (sym c.self.view_is) c.requires.1.0 in
    let x = facts_of c.books_of-books.result in
    let season = subst IsSeason (sym same) c.requires.1.1.0 in
    let differ = subst (λ (f : SeasonFacts). DifferInLocks g.before f c.args.first) (sym same) c.requires.1.1.1 in
    let old = c.self.inside.cells in
    let mid = held c.gameweeks_locked.new.cells in
    let marked = marked_by g.before x (held old) mid _ c.in_ok-gameweeks_locked.ensures.nodes
    (c.in_ok-gameweeks_locked.ensures.sound g.before kept.season season differ) (c.in_ok-gameweeks_locked.ensures.exact g.before kept.season season differ) in
    subst (λ (k : CellRows). IsCorrected g.before (books_seen c.args.season.now c.args.managers.now c.args.leagues.now c.args.cups.now) k.cells c.settle_season.new.cells) c.self.view_is
    (subst (λ (f : SeasonFacts). IsCorrected g.before f old c.settle_season.new.cells) same
    (is_corrected g.before x old c.settle_season.new.cells mid c.in_ok-settle_season.field-0.evaluated kept.evaluated marked c.in_ok-settle_season.ensures.settled c.in_ok-settle_season.ensures.remains))

pub returns-clause-cost : goal.returns-clause-cost
returns-clause-cost g c =
    let same = c.books_of-books.ensures in
    let kept = subst (AreCellsOf g.before) (sym c.self.view_is) c.requires.1.0 in
    let x = facts_of c.books_of-books.result in
    let season = subst IsSeason (sym same) c.requires.1.1.0 in
    let differ = subst (λ (f : SeasonFacts). DifferInLocks g.before f c.args.first) (sym same) c.requires.1.1.1 in
    let old = c.self.inside.cells in
    let mid = held c.gameweeks_locked.new.cells in
    let marked = marked_by g.before x (held old) mid _ c.in_ok-gameweeks_locked.ensures.nodes
    (c.in_ok-gameweeks_locked.ensures.sound g.before kept.season season differ) (c.in_ok-gameweeks_locked.ensures.exact g.before kept.season season differ) in
    subst (λ (f : SeasonFacts). IsCheap g.before f c.args.steps.now c.settle_season.new.steps) same
    (is_cheap g.before x old c.settle_season.new.cells mid c.in_ok-settle_season.field-0.evaluated kept.evaluated marked c.in_ok-settle_season.ensures.settled c.args.steps.now c.settle_season.new.steps c.in_ok-settle_season.ensures.cost)
