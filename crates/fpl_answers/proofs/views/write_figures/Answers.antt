use Rattle.std.proofs.Common.{◌≡◌, rules, to_z, of_z, w32}
use Rattle.json_members.proofs.AppendLemmas.{one, then}
use Rattle.fpl_answers.proofs.views.write_figures.Goals as goal

pub returns : goal.returns
returns c =
    let points : to_z w32 (of_z w32 c.args.figures.now.points) ≡ c.args.figures.now.points = search rules in
    rw (c.from.ensures, c.from-2.ensures, points) at
    (then (one c.in_ok-begin_object.ensures) (then c.in_ok-write_count.ensures (then c.in_ok-write_count-2.ensures (then c.in_ok-write_truth.ensures
    (then c.in_ok-write_integer.ensures (one c.end_object.ensures))))))
