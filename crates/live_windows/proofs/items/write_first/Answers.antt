use Rattle.std.proofs.Common.{◌≡◌, rules, to_z, of_z, w32}
use Rattle.json_members.proofs.AppendLemmas.{then}
use Rattle.live_windows.proofs.ItemsWritten.{alone}
use Rattle.live_windows.proofs.items.write_first.Goals as goal

pub returns : goal.returns
returns c =
    let goals : to_z w32 (of_z w32 c.goals_points.result) ≡ c.goals_points.result = search rules in
    let assists : to_z w32 (of_z w32 c.gain.result) ≡ c.gain.result = search rules in
    let sheet : to_z w32 (of_z w32 c.clean_sheet_points.result) ≡ c.clean_sheet_points.result = search rules in
    then (rw (goals, c.goals_points.ensures, c.figure-goals.ensures.value) at c.in_ok-write_if.ensures)
    (then (rw (assists, c.gain.ensures, c.figure-assists.ensures.value) at c.in_ok-write_if-2.ensures)
    (alone _ (rw (sheet, c.clean_sheet_points.ensures) at c.write_if-3.ensures)))
