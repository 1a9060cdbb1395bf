use Rattle.std.proofs.Common.{sym, subst}
use Rattle.season_nodes.specs.BookFacts.{facts_of}
use Rattle.season_nodes.specs.Held.{held}
use Rattle.season_cells.specs.Correcting.{IsCorrected}
use Rattle.season_cells.specs.Kept.{AreCellsOf, CellRows}
use Rattle.season_views.specs.Cells.{books_seen}
use Rattle.season_cells.proofs.Following.{cells, cheap, corrected, right, sound}
use Rattle.season_cells.proofs.kept.KeptCells.follow.Goals as goal

pub settle_season-requires-clause-index : goal.settle_season-requires-clause-index
settle_season-requires-clause-index g c =
    let d = books_seen c.args.season.now c.args.managers.now c.args.leagues.now c.args.cups.now in
    let kept = subst (AreCellsOf g.before) (sym c.self.view_is) c.requires.1.0 in
    right c.index_stays.ensures g.before d (facts_of c.books_of.result) c.books_of.ensures c.self.inside.cells c.self.inside.index kept c.args.plan.now c.requires.1.1

pub settle_season-requires-clause-sound : goal.settle_season-requires-clause-sound
settle_season-requires-clause-sound g c =
    let d = books_seen c.args.season.now c.args.managers.now c.args.leagues.now c.args.cups.now in
    let kept = subst (AreCellsOf g.before) (sym c.self.view_is) c.requires.1.0 in
    sound c.index_stays.ensures g.before d (facts_of c.books_of.result) c.books_of.ensures c.self.inside.cells c.self.inside.index kept c.args.plan.now c.requires.1.1
    (held c.mark.new.cells) c.in_ok-mark.ensures

pub returns-clause-cells : goal.returns-clause-cells
returns-clause-cells g c =
    let d = books_seen c.args.season.now c.args.managers.now c.args.leagues.now c.args.cups.now in
    let kept = subst (AreCellsOf g.before) (sym c.self.view_is) c.requires.1.0 in
    cells c.index_stays.ensures g.before d (facts_of c.books_of.result) c.books_of.ensures c.self.inside.cells c.self.inside.index kept c.args.plan.now c.requires.1.1
    (held c.mark.new.cells) c.in_ok-mark.ensures c.settle_season.new.cells c.in_ok-settle_season.field-0.evaluated c.in_ok-settle_season.ensures.settled c.in_ok-settle_season.ensures.evaluated

pub returns-clause-corrected : goal.returns-clause-corrected
returns-clause-corrected g c =
    let d = books_seen c.args.season.now c.args.managers.now c.args.leagues.now c.args.cups.now in
    let kept = subst (AreCellsOf g.before) (sym c.self.view_is) c.requires.1.0 in
    subst (λ (k : CellRows). IsCorrected g.before d k.cells c.settle_season.new.cells) c.self.view_is
    (corrected c.index_stays.ensures g.before d (facts_of c.books_of.result) c.books_of.ensures c.self.inside.cells c.self.inside.index kept c.args.plan.now c.requires.1.1
    (held c.mark.new.cells) c.in_ok-mark.ensures c.settle_season.new.cells c.in_ok-settle_season.field-0.evaluated c.in_ok-settle_season.ensures.settled c.in_ok-settle_season.ensures.remains)

pub returns-clause-cost : goal.returns-clause-cost
returns-clause-cost g c =
    let d = books_seen c.args.season.now c.args.managers.now c.args.leagues.now c.args.cups.now in
    let kept = subst (AreCellsOf g.before) (sym c.self.view_is) c.requires.1.0 in
    cheap c.index_stays.ensures g.before d (facts_of c.books_of.result) c.books_of.ensures c.self.inside.cells c.self.inside.index kept c.args.plan.now c.requires.1.1
    (held c.mark.new.cells) c.in_ok-mark.ensures c.settle_season.new.cells c.in_ok-settle_season.field-0.evaluated c.in_ok-settle_season.ensures.settled
    c.args.steps.now c.settle_season.new.steps c.in_ok-settle_season.ensures.cost
