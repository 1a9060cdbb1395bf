use Rattle.json_members.proofs.AppendLemmas.{one, then}
use Rattle.fpl_answers.proofs.leagues.write_classic.Goals as goal

pub returns : goal.returns
returns c =
    rw (c.text_of.ensures, c.as_slice.ensures, c.from.ensures, c.get.ensures.value) at
    (then (one c.in_ok-begin_object.ensures) (then c.in_ok-write_text.ensures (then c.in_ok-write_text-2.ensures (then (one c.in_ok-key.ensures)
    (then c.in_ok-write_table.ensures (then c.in_ok-write_count.ensures (one c.end_object.ensures)))))))
