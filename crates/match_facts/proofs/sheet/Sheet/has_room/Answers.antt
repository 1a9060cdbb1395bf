use Rattle.std.proofs.Common.{arith, refl}
use Rattle.std.proofs.lemmas.Grind.{common_steps}
use Rattle.std.proofs.lemmas.Bool.Decides.{nat_tests}
use Rattle.match_facts.specs.Columns.{IsPlace, IsGap}
use Rattle.match_facts.proofs.ColumnLemmas.{length-here, length-gap}
use Rattle.match_facts.proofs.sheet.Sheet.has_room.Goals as goal

pub returns-in-Ok : goal.returns-in-Ok
returns-in-Ok c =
    let place : IsPlace c.self.inside.players.items c.args.player c.in-Ok.field-0 = rw c.deref.ensures.value at c.in-Ok.ensures in
    rw (← c.self.view_is) (λ line. (λ yes. length-here c.self.inside.players.items c.self.inside.lines.items c.args.player c.in-Ok.field-0 line c.self.invariant.columns place, λ few. refl))

pub returns-in-Err : goal.returns-in-Err
returns-in-Err c =
    let gap : IsGap c.self.inside.players.items c.args.player c.in-Err.field-0 = rw c.deref.ensures.value at c.in-Err.ensures in
    rw (← c.self.view_is) (λ line.
    let long = length-gap c.self.inside.players.items c.self.inside.lines.items c.args.player c.in-Err.field-0 line c.self.invariant.columns gap in
    rw (long, c.len.ensures) (λ room. grind (arith, nat_tests, common_steps), λ few. grind (arith, nat_tests, common_steps)))
