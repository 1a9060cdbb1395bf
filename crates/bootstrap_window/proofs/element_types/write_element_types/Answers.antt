use Rattle.json_members.proofs.AppendLemmas.{one, then}
use Rattle.bootstrap_window.proofs.element_types.write_element_types.Goals as goal

pub returns : goal.returns
returns c =
    then (one c.in_ok-begin_array.ensures) (then c.in_ok-write_element_type.ensures (then c.in_ok-write_element_type-2.ensures
    (then c.in_ok-write_element_type-3.ensures (then c.in_ok-write_element_type-4.ensures (one c.end_array.ensures)))))
