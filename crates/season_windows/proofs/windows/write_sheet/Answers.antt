use Rattle.json_members.proofs.AppendLemmas.{one, then}
use Rattle.season_windows.proofs.windows.write_sheet.Goals as goal

pub returns-clause-value : goal.returns-clause-value
returns-clause-value g c =
    rw (c.is_finished.ensures, c.rows.ensures.rows) at
    (then (one c.in_ok-begin_object.ensures) (then c.in_ok-write_truth.ensures (then (one c.in_ok-key.ensures) (then c.in_ok-write_lines.ensures
    (one c.end_object.ensures)))))
