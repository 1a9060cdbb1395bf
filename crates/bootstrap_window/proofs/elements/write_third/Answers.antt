use Rattle.json_members.proofs.AppendLemmas.{then}
use Rattle.bootstrap_window.proofs.elements.write_third.Goals as goal

pub returns : goal.returns
returns c =
    rw (c.from.ensures, c.get.ensures.value, c.from-2.ensures, c.from-3.ensures, c.from-4.ensures, c.from-5.ensures, c.from-6.ensures) at
    (then c.in_ok-write_count.ensures (then c.in_ok-write_count-2.ensures (then c.in_ok-write_count-3.ensures (then c.in_ok-write_count-4.ensures (then c.in_ok-write_text.ensures (then c.in_ok-write_text-2.ensures (then c.in_ok-write_count-5.ensures c.write_count-6.ensures)))))))
