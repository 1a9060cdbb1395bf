use Rattle.scoring.specs.Standing.{Standing}
use Rattle.scoring.proofs.substitutions.substituted.Given as goal

abbrev pub invariant-loop-n : goal.invariant-loop-n
invariant-loop-n l = Standing l.team l.figures l.n l.progress
