use Rattle.std.proofs.Common.{◌≡◌, ◌<◌, ◌^◌, arith, rules}
use Rattle.std.specs.Fmt.{decimal}
use Rattle.command_line.proofs.NumberLemmas.{below_in, some_in}
use Rattle.command_line.proofs.values.number_in.Goals as goal

pub returns-then-value-least-clause-said : goal.returns-then-value-least-clause-said
returns-then-value-least-clause-said c =
    let spelled : c.args.text.now ≡ decimal c.in-Some.value = search rules in
    let small : c.in-Some.value < 2 ^ 64 = omega arith in
    λ _. below_in c.args.least c.args.greatest c.in-Some.value c.args.text.now small spelled c.if-value-least.true

pub returns-else-value-least-clause-said : goal.returns-else-value-least-clause-said
returns-else-value-least-clause-said c =
    let spelled : c.args.text.now ≡ decimal c.in-Some.value = search rules in
    let small : c.in-Some.value < 2 ^ 64 = omega arith in
    some_in c.args.least c.args.greatest c.in-Some.value c.args.text.now small spelled (omega arith) (omega (arith, c.in-Some.ensures))
