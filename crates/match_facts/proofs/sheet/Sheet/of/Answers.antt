use Rattle.std.proofs.Common.{arith, take, length, ◌≤◌, length-take}
use Rattle.match_facts.proofs.SheetEntries.{length-with_line, length-by_player}
use Rattle.match_facts.proofs.sheet.Sheet.of.Goals as goal

pub put-requires : goal.put-requires
put-requires c =
    let so_far : length c.loop-line.sheet.lines ≤ c.loop-line.line-index =
    rw c.loop-line.invariant (omega (arith, length-by_player (take c.loop-line.line-index c.args.lines.now), length-take c.loop-line.line-index c.args.lines.now)) in
    omega (arith, length-with_line c.loop-line.sheet.lines c.line-item.result.0 c.line-item.result.1, c.requires, c.loop-line-test.true)
