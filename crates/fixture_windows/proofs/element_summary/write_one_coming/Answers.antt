use Rattle.json_members.proofs.AppendLemmas.{one, then}
use Rattle.fixture_windows.proofs.element_summary.write_one_coming.Goals as goal

pub returns : goal.returns
returns c =
    rw (c.number_of.ensures, c.from.ensures, c.get.ensures.value, c.eq.ensures, c.from-2.ensures, c.get-2.ensures.value, c.from-3.ensures, c.get-3.ensures.value) at
    (then (one c.in_ok-begin_object.ensures) (then c.in_ok-write_count_or_null.ensures (then c.in_ok-write_count.ensures (then c.in_ok-write_truth.ensures (then c.in_ok-write_moment.ensures
    (then c.in_ok-write_count-2.ensures (then c.in_ok-write_count-3.ensures (one c.end_object.ensures))))))))
