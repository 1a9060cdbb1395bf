use Rattle.std.proofs.Common.{◌≡◌, rules, to_z, of_z, w32}
use Rattle.json_members.proofs.AppendLemmas.{then}
use Rattle.bootstrap_window.proofs.elements.write_second.Goals as goal

pub returns : goal.returns
returns c =
    let same : to_z w32 (of_z w32 c.args.points) ≡ c.args.points = search rules in
    rw (same, c.position_number.ensures, c.from.ensures, c.from-2.ensures, c.from-3.ensures, c.get.ensures.value, c.from-4.ensures) at
    (then c.in_ok-write_count.ensures (then c.in_ok-write_integer.ensures (then c.in_ok-write_text.ensures (then c.in_ok-write_count-2.ensures (then c.in_ok-write_count-3.ensures (then c.in_ok-write_count-4.ensures (then c.in_ok-write_count-5.ensures c.write_text-2.ensures)))))))
