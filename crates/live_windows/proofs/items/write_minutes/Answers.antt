use Rattle.std.proofs.Common.{◌≡◌, rules, to_z, of_z, w32}
use Rattle.live_windows.proofs.items.write_minutes.Goals as goal

pub returns : goal.returns
returns c =
    let points : to_z w32 (of_z w32 c.minutes_points.result) ≡ c.minutes_points.result = search rules in
    rw (points, c.minutes_points.ensures, c.figure-minutes.ensures.value) at c.write_item.ensures
