use Rattle.std.proofs.Common.{◌≡◌, rules, to_z, of_z, w32}
use Rattle.json_members.proofs.AppendLemmas.{one, then}
use Rattle.league_windows.proofs.classic.write_row.Goals as goal

pub returns-clause-value : goal.returns-clause-value
returns-clause-value g c entries are =
    let named = c.name_text.ensures entries are in
    let scored = c.last_points.ensures.value entries are in
    let points : to_z w32 (of_z w32 c.last_points.result) ≡ c.last_points.result = search rules in
    let total : to_z w32 (of_z w32 c.args.row.now.total) ≡ c.args.row.now.total = search rules in
    rw (c.from-entry.ensures, c.get.ensures.value, named, points, scored, c.from.ensures, c.from-2.ensures, total) at
    (then (one c.in_ok-begin_object.ensures) (then c.in_ok-write_count.ensures (then c.in_ok-write_text.ensures (then c.in_ok-write_integer.ensures
    (then c.in_ok-write_count-2.ensures (then c.in_ok-write_count-3.ensures (then c.in_ok-write_text-2.ensures (then c.in_ok-write_count-4.ensures
    (then c.in_ok-write_count-5.ensures (then c.in_ok-write_integer-2.ensures (one c.end_object.ensures)))))))))))
