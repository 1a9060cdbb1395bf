use Rattle.std.proofs.Common.{◌≡◌, rules, to_z, of_z, w32}
use Rattle.json_members.proofs.AppendLemmas.{one, then}
use Rattle.league_windows.proofs.head.write_row.Goals as goal

pub returns : goal.returns
returns g c = λ entries are.
    let named = c.name_text.ensures entries are in
    let scored : to_z w32 (of_z w32 c.args.row.now.score.scored) ≡ c.args.row.now.score.scored = search rules in
    rw (c.from-entry.ensures, c.get.ensures.value, named, c.from.ensures, c.get-2.ensures.value, c.from-2.ensures, c.from-3.ensures, c.from-4.ensures, c.played.ensures, c.from-5.ensures, scored, c.from-6.ensures, c.from-7.ensures) at
    (then (one c.in_ok-begin_object.ensures) (then c.in_ok-write_count.ensures (then c.in_ok-write_count-2.ensures (then c.in_ok-write_text.ensures
    (then c.in_ok-write_count-3.ensures (then c.in_ok-write_count-4.ensures (then c.in_ok-write_count-5.ensures (then c.in_ok-write_count-6.ensures
    (then c.in_ok-write_count-7.ensures (then c.in_ok-write_count-8.ensures (then c.in_ok-write_text-2.ensures (then c.in_ok-write_integer.ensures
    (then c.in_ok-write_count-9.ensures (then c.in_ok-write_count-10.ensures (then c.in_ok-write_count-11.ensures (one c.end_object.ensures))))))))))))))))
