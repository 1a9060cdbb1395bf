use Rattle.std.proofs.Common.{◌≡◌, ◌==◌, [], not, true, arith}
use Rattle.std.proofs.lemmas.Bool.Decides.{nat_tests}
use Rattle.json_members.proofs.AppendLemmas.{one, then}
use Rattle.entry_windows.proofs.Ended.{if_so}
use Rattle.entry_windows.proofs.writing.write_if_replaced.Goals as goal

pub returns : goal.returns
returns c =
    let other : not (c.args.starter == c.args.slot) ≡ true = grind (arith, nat_tests, c.if-starter-slot.false) in
    if_so [] (not (c.args.starter == c.args.slot)) other
    (rw (c.from.ensures, c.get.ensures.value, c.player_in_slot.ensures, c.from-2.ensures, c.get-2.ensures.value, c.player_in_slot-2.ensures, c.from-3.ensures, c.get-3.ensures.value, c.from-4.ensures, c.get-4.ensures.value) at
    (then (one c.in_ok-begin_object.ensures) (then c.in_ok-write_count.ensures (then c.in_ok-write_count-2.ensures (then c.in_ok-write_count-3.ensures
    (then c.in_ok-write_count-4.ensures (one c.end_object.ensures)))))))
