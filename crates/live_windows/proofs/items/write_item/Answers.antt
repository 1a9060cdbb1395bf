use Rattle.std.proofs.Common.{◌≡◌, rules, to_z, of_z, w32}
use Rattle.json_members.proofs.AppendLemmas.{one, then}
use Rattle.live_windows.proofs.items.write_item.Goals as goal

pub returns : goal.returns
returns c =
    let points : to_z w32 (of_z w32 c.args.points) ≡ c.args.points = search rules in
    rw (c.from.ensures, points) at
    (then (one c.in_ok-begin_object.ensures) (then c.in_ok-write_text.ensures (then c.in_ok-write_integer.ensures (then c.in_ok-write_count.ensures (one c.end_object.ensures)))))
