use Rattle.json_members.proofs.AppendLemmas.{one, then}
use Rattle.live_windows.proofs.ItemsWritten.{items_written, told_as}
use Rattle.live_windows.proofs.items.write_items.Goals as goal

pub returns : goal.returns
returns c =
    told_as (items_written c.args.profile c.args.position c.args.line.now c.args.bonus)
    (then (one c.in_ok-begin_array.ensures) (then c.in_ok-write_minutes.ensures (then c.in_ok-write_first.ensures (then c.in_ok-write_middle.ensures (then c.in_ok-write_last.ensures
    (one c.end_array.ensures))))))
