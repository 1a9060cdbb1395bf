use Rattle.std.proofs.Common.{arith}
use Rattle.std.proofs.lemmas.Grind.{common_steps}
use Rattle.std.proofs.lemmas.Bool.Decides.{nat_tests}
use Rattle.std.proofs.lemmas.Slice.Zip.{length-zip}
use Rattle.match_facts.proofs.sheet.Sheet.tells_facts.Goals as goal

pub returns-else-self : goal.returns-else-self
returns-else-self c =
    let long = length-zip c.self.inside.players.items c.self.inside.lines.items in
    rw (← c.self.view_is) (grind (arith, nat_tests, common_steps, long, c.self.invariant.columns.paired, c.if-self.false))
