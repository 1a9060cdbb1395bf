use Rattle.json_members.proofs.AppendLemmas.{one, then}
use Rattle.fpl_answers.proofs.views.write_player.Goals as goal

pub returns : goal.returns
returns c =
    rw (c.from.ensures, c.get.ensures.value, c.from-2.ensures, c.get-2.ensures.value, c.text_of.ensures, c.letter.ensures, c.from-3.ensures, c.get-3.ensures.value) at
    (then (one c.in_ok-begin_object.ensures) (then c.in_ok-write_count.ensures (then c.in_ok-write_truth.ensures (then c.in_ok-write_count-2.ensures
    (then c.in_ok-write_text.ensures (then c.in_ok-write_text-2.ensures (then c.in_ok-write_count-3.ensures (one c.end_object.ensures))))))))
