use Rattle.std.proofs.Common.{rules, w32, FitsSigned}
use Rattle.std.proofs.lemmas.Int.{to_z-of_z}
use Rattle.json_members.proofs.AppendLemmas.{then}
use Rattle.bootstrap_window.proofs.elements.write_first.Goals as goal

pub returns : goal.returns
returns c =
    let fits : FitsSigned w32 c.args.totals.now.bps = search rules in
    rw (to_z-of_z w32 c.args.totals.now.bps fits, c.from.ensures, c.from-2.ensures, c.from-3.ensures, c.from-4.ensures, c.get.ensures.value) at
    (then c.in_ok-write_count.ensures (then c.in_ok-write_count-2.ensures (then c.in_ok-write_integer.ensures (then c.in_ok-write_nothing.ensures (then c.in_ok-write_nothing-2.ensures (then c.in_ok-write_count-3.ensures c.write_count-4.ensures))))))
