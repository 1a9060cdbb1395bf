use Rattle.json_members.proofs.AppendLemmas.{one, then}
use Rattle.fpl_answers.proofs.answers.write_damaged.Goals as goal

pub returns : goal.returns
returns c =
    rw (c.from.ensures, c.from-2.ensures, c.from-3.ensures, c.from-4.ensures) at
    (then (one c.in_ok-begin_object.ensures) (then c.in_ok-write_count.ensures (then c.in_ok-write_count-2.ensures (then c.in_ok-write_count-3.ensures
    (then c.in_ok-write_text.ensures (then c.in_ok-write_count-4.ensures (one c.end_object.ensures)))))))
