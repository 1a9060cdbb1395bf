use Rattle.std.proofs.Common.{arith, refl}
use Rattle.season_book.specs.Verdict.{ruled}
use Rattle.season_running.proofs.AnswerFacts.{refused_as, storeless_refusal}
use Rattle.season_host.proofs.accepting.accept.Goals as goal

pub returns-in-Err-clause-taken : goal.returns-in-Err-clause-taken
returns-in-Err-clause-taken g c = (
  refl,
  refl,
  λ book plays.
      refused_as (ruled c.args.operator.now book c.args.caller.now c.args.now c.args.command.now) c.in-Err.refused c.in-Err.ensures.refusal
      (c.in-Err.ensures.ruled book plays),
)

pub returns-in-Err-clause-storeless : goal.returns-in-Err-clause-storeless
returns-in-Err-clause-storeless g c = storeless_refusal c.in-Err.refused c.in-Err.ensures.refusal

pub returns-in-Err-clause-counted : goal.returns-in-Err-clause-counted
returns-in-Err-clause-counted g c = omega (arith, c.judge.ensures.counted)

pub returns-in-Err-clause-refused : goal.returns-in-Err-clause-refused
returns-in-Err-clause-refused g c = λ some. c.judge.ensures.counted

pub returns-in-Err-touched-clause-counted : goal.returns-in-Err-touched-clause-counted
returns-in-Err-touched-clause-counted g c = omega (arith, c.judge.ensures.counted)

pub returns-in-Err-change_as-clause-counted : goal.returns-in-Err-change_as-clause-counted
returns-in-Err-change_as-clause-counted g c = omega (arith, c.judge.ensures.counted, c.change_as.ensures.counted)

pub returns-in-Ok-change_as-clause-counted : goal.returns-in-Ok-change_as-clause-counted
returns-in-Ok-change_as-clause-counted g c = omega (arith, c.judge.ensures.counted, c.change_as.ensures.counted)
