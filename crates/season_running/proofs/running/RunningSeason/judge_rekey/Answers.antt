use Rattle.std.proofs.Common.{subst, sym}
use Rattle.season_running.specs.Standing.{Plays, Running}
use Rattle.season_running.proofs.AnswerFacts.{rekey_refusal_is}
use Rattle.season_running.proofs.RuledFacts.{rekey_ruled}
use Rattle.season_running.proofs.running.RunningSeason.judge_rekey.Goals as goal

pub returns-in-Rekey-clause-ruled : goal.returns-in-Rekey-clause-ruled
returns-in-Rekey-clause-ruled c = λ now caller book plays.
    let running : Running = record { facts = c.self.inside.season; managers = c.self.inside.managers.managers; leagues = c.self.inside.leagues; cups = c.self.inside.cups } in
    let plays_here : Plays running book = subst (λ r. Plays r book) (sym c.self.view_is) plays in
    rekey_ruled c.args.operator.now book caller now c.args.command.now running plays_here c.in-Rekey.entry c.in-Rekey.key _ c.judge_rekey.result c.in-Rekey.is c.judge_rekey.ensures.books

pub returns-in-Rekey-clause-refusal : goal.returns-in-Rekey-clause-refusal
returns-in-Rekey-clause-refusal c =
    rekey_refusal_is c.args.operator.now c.self.inside.managers.managers c.in-Rekey.entry c.in-Rekey.key c.judge_rekey.result c.judge_rekey.ensures.rows
