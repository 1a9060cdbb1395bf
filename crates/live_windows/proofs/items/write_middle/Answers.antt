use Rattle.std.proofs.Common.{◌≡◌, rules, to_z, of_z, w32}
use Rattle.json_members.proofs.AppendLemmas.{then}
use Rattle.live_windows.proofs.ItemsWritten.{alone}
use Rattle.live_windows.proofs.items.write_middle.Goals as goal

pub returns : goal.returns
returns c =
    let conceded : to_z w32 (of_z w32 c.conceded_points.result) ≡ c.conceded_points.result = search rules in
    let own : to_z w32 (of_z w32 c.loss.result) ≡ c.loss.result = search rules in
    let saved : to_z w32 (of_z w32 c.gain.result) ≡ c.gain.result = search rules in
    let missed : to_z w32 (of_z w32 c.loss-2.result) ≡ c.loss-2.result = search rules in
    then (rw (conceded, c.conceded_points.ensures, c.figure-conceded.ensures.value) at c.in_ok-write_if.ensures)
    (then (rw (own, c.loss.ensures, c.figure-own.ensures.value) at c.in_ok-write_if-2.ensures)
    (then (rw (saved, c.gain.ensures, c.figure-saved.ensures.value) at c.in_ok-write_if-3.ensures)
    (alone _ (rw (missed, c.loss-2.ensures, c.figure-missed.ensures.value) at c.write_if-4.ensures))))
