use Rattle.json_members.proofs.AppendLemmas.{one, then}
use Rattle.fpl_answers.proofs.texts.write_malformed.Goals as goal

pub returns : goal.returns
returns c =
    then (one c.in_ok-begin_object.ensures) (then c.in_ok-write_text.ensures (then c.in_ok-write_text-2.ensures (one c.end_object.ensures)))
