use Rattle.std.proofs.Common.{◌∙◌, [], ap, slice_get}
use Rattle.json_members.specs.Tokens.{tokens_of}
use Rattle.rule_book.specs.declared.line.Line.{Line}
use Rattle.rule_book.specs.MatchFacts.{Lines}
use Rattle.season_views.proofs.Written.{retold}
use Rattle.season_book.specs.ElementSummary.{history_row}
use Rattle.fixture_windows.proofs.HistoryFacts.{pair_at}
use Rattle.fixture_windows.proofs.element_summary.write_at.Goals as goal

pub returns : goal.returns
returns g c = λ row at.
    let facts = c.args.seen.now.facts in
    let fixture = c.args.fixture.now in
    let rows = c.args.rows.now in
    let m = c.requires.rows in
    let place = c.args.place in
    let none : Line = record { figures = [] } in
    let player = c.index-rows-place.result in
    let pair = pair_at rows.players.now rows.lines.now place row player none m.paired (ap (λ (l : Lines). slice_get l place) m.rows ∙ at) in
    retold (λ i. tokens_of (history_row facts (pair.1 i) (fixture, pair.2 i))) c.write_line.ensures
