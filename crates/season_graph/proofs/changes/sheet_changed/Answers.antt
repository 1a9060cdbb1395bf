use Rattle.season_nodes.specs.BookFacts.{facts_of}
use Rattle.season_nodes.specs.Held.{held}
use Rattle.season_graph.proofs.SheetFacts.{sheet_exact, sheet_sound}
use Rattle.season_graph.proofs.changes.sheet_changed.Goals as goal

pub returns-clause-sound : goal.returns-clause-sound
returns-clause-sound c = λ old is_old is_new differ. sheet_sound old (facts_of c.args.books.now) is_old is_new c.args.fixture c.args.players.now c.args.marked differ (held c.args.cells.now) (held c.refresh_sheet.new.cells) c.in_ok-refresh_sheet.ensures

pub returns-clause-exact : goal.returns-clause-exact
returns-clause-exact c = λ old is_old is_new differ. sheet_exact old (facts_of c.args.books.now) is_old is_new c.args.fixture c.args.players.now c.args.marked differ.differ differ.lines differ.mark (held c.args.cells.now) (held c.refresh_sheet.new.cells) c.in_ok-refresh_sheet.ensures
