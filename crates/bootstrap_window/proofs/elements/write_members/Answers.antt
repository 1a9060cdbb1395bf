use Rattle.std.proofs.Common.{◌≡◌, rules, to_z, of_z, w32}
use Rattle.json_members.proofs.AppendLemmas.{one, then}
use Rattle.bootstrap_window.proofs.elements.write_members.Goals as goal

pub returns : goal.returns
returns c =
    let same : to_z w32 (of_z w32 c.args.points) ≡ c.args.points = search rules in
    rw same at
    (then (one c.in_ok-begin_object.ensures) (then c.in_ok-write_first.ensures (then c.in_ok-write_second.ensures (then c.in_ok-write_third.ensures (then c.in_ok-write_fourth.ensures
    (one c.end_object.ensures))))))
