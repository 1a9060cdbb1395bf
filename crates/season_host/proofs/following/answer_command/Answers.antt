use Rattle.std.proofs.Common.{arith}
use Rattle.season_host.proofs.following.answer_command.Goals as goal

pub returns-clause-refused : goal.returns-clause-refused
returns-clause-refused g c = λ book stands none some.
    let nothing = c.answer_command-answered.ensures.nothing book stands none in
    let few = c.answer_command-answered.ensures.refused nothing some in
    let same = c.follow-followed.ensures.still nothing in
    omega (arith, few, same)
