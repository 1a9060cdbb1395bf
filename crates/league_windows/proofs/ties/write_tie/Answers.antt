use Rattle.json_members.proofs.AppendLemmas.{one, then}
use Rattle.league_windows.proofs.ties.write_tie.Goals as goal

pub returns : goal.returns
returns c =
    rw (c.number_of.ensures, c.number_of-2.ensures, c.number_of-3.ensures) at
    (then (one c.in_ok-begin_object.ensures) (then c.in_ok-write_count_or_null.ensures (then c.in_ok-write_integer_or_null.ensures
    (then c.in_ok-write_count_or_null-2.ensures (then c.in_ok-write_integer_or_null-2.ensures (then c.in_ok-write_count_or_null-3.ensures (one c.end_object.ensures)))))))
