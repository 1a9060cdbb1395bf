use Rattle.json_members.proofs.AppendLemmas.{one, then}
use Rattle.fixture_windows.proofs.told.write_stat.Goals as goal

pub returns : goal.returns
returns c =
    then (one c.in_ok-begin_object.ensures) (then (one c.in_ok-key.ensures) (then c.in_ok-write_values.ensures (then (one c.in_ok-key-2.ensures) (then c.in_ok-write_values-2.ensures
    (then c.in_ok-write_text.ensures (one c.end_object.ensures))))))
