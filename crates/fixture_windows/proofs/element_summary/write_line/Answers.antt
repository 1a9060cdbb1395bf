use Rattle.json_members.proofs.AppendLemmas.{one, then}
use Rattle.season_views.proofs.Written.{retold}
use Rattle.fixture_windows.specs.RowParts.{line_amid, line_begun, line_ended}
use Rattle.fixture_windows.proofs.MemberFacts.{three_parts}
use Rattle.fixture_windows.proofs.element_summary.write_line.Goals as goal

pub returns : goal.returns
returns g c =
    let facts = c.args.seen.now.facts in
    let fixture = c.args.fixture.now in
    let p = c.args.player in
    let line = c.args.line.now in
    retold (three_parts (line_begun facts p fixture line) (line_amid facts p fixture line) (line_ended facts p fixture line))
    (then (one c.in_ok-begin_object.ensures) (then c.in_ok-write_start.ensures (then c.in_ok-write_amid.ensures (then c.in_ok-write_end.ensures (one c.end_object.ensures)))))
