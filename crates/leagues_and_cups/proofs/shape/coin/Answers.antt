use Rattle.std.proofs.Common.{arith}
use Rattle.leagues_and_cups.proofs.RoundFacts.{few_rounds}
use Rattle.leagues_and_cups.proofs.shape.coin.Goals as goal

pub overflow_shr-result : goal.overflow_shr-result
overflow_shr-result c =
    let few = few_rounds c.args.b.now c.args.round c.args.tie c.requires.shape c.requires.tie in omega (arith, few)
