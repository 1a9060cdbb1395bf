use Rattle.json_members.proofs.AppendLemmas.{one, then}
use Rattle.fpl_answers.proofs.views.write_season.Goals as goal

pub returns : goal.returns
returns c =
    rw (c.as_slice.ensures, c.as_slice-2.ensures, c.from.ensures, c.from-2.ensures, c.profile_number.ensures, c.from-3.ensures) at (then (one c.in_ok-begin_object.ensures)
    (then (one c.in_ok-key.ensures) (then c.in_ok-write_clubs.ensures (then (one c.in_ok-key-2.ensures) (then c.in_ok-write_moments.ensures
    (then c.in_ok-write_count.ensures (then c.in_ok-write_count-2.ensures (then c.in_ok-write_count-3.ensures (one c.end_object.ensures)))))))))
