use Rattle.std.proofs.Common.{arith, sym}
use Rattle.match_facts.proofs.Repeats.{not_among}
use Rattle.match_facts.proofs.judge.is_among.Goals as goal

pub returns-then-get-greatest : goal.returns-then-get-greatest
returns-then-get-greatest c = sym (not_among c.args.lines.now c.args.greatest c.args.player (omega (arith, c.if-get-greatest.true, c.get.ensures.value)) c.requires)
