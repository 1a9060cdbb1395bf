use Rattle.std.proofs.Common.{◌≡◌, rules, to_z, of_z, w32}
use Rattle.json_members.proofs.AppendLemmas.{one, then}
use Rattle.entry_windows.proofs.writing.write_row.Goals as goal

pub returns : goal.returns
returns c =
    let points : to_z w32 (of_z w32 c.args.row.now.points) ≡ c.args.row.now.points = search rules in
    let bench : to_z w32 (of_z w32 c.args.row.now.bench) ≡ c.args.row.now.bench = search rules in
    let total : to_z w32 (of_z w32 c.args.row.now.total) ≡ c.args.row.now.total = search rules in
    rw (c.from.ensures, c.get.ensures.value, c.from-2.ensures, c.get-2.ensures.value, c.from-3.ensures, c.from-4.ensures, points, bench, total) at
    (then (one c.in_ok-begin_object.ensures) (then c.in_ok-write_count.ensures (then c.in_ok-write_count-2.ensures (then c.in_ok-write_count-3.ensures
    (then c.in_ok-write_count-4.ensures (then c.in_ok-write_count-5.ensures (then c.in_ok-write_integer.ensures (then c.in_ok-write_integer-2.ensures
    (then c.in_ok-write_integer-3.ensures (one c.end_object.ensures))))))))))
