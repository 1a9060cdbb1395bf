use Rattle.std.proofs.Common.{rules, w32, FitsSigned}
use Rattle.std.proofs.lemmas.Int.{to_z-of_z}
use Rattle.json_members.proofs.AppendLemmas.{then}
use Rattle.bootstrap_window.proofs.elements.write_fourth.Goals as goal

pub returns : goal.returns
returns c =
    let fits : FitsSigned w32 c.args.totals.now.points = search rules in
    rw (to_z-of_z w32 c.args.totals.now.points fits, c.text_of.ensures, c.status_of.ensures, c.from.ensures, c.get.ensures.value, c.from-2.ensures, c.get-2.ensures.value, c.text_of-2.ensures, c.from-3.ensures) at
    (then c.in_ok-write_text.ensures (then c.in_ok-write_text-2.ensures (then c.in_ok-write_text-3.ensures (then c.in_ok-write_count.ensures (then c.in_ok-write_count-2.ensures (then c.in_ok-write_integer.ensures (then c.in_ok-write_text-4.ensures c.write_count-3.ensures)))))))
