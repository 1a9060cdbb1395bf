use Rattle.json_members.proofs.AppendLemmas.{one, then}
use Rattle.entry_windows.proofs.entry_writing.end_entry.Goals as goal

pub returns : goal.returns
returns c =
    rw (c.points_of.ensures, c.rank_of.ensures, c.total_of.ensures, c.overall_of.ensures) at
    (then c.in_ok-write_integer_or_null.ensures (then c.in_ok-write_count_or_null.ensures
    (then c.in_ok-write_integer_or_null-2.ensures (then c.in_ok-write_count_or_null-2.ensures (one c.end_object.ensures)))))
