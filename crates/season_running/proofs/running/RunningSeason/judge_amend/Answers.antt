use Rattle.std.proofs.Common.{subst, sym}
use Rattle.season_running.specs.Standing.{Plays, Running}
use Rattle.season_running.proofs.AnswerFacts.{amend_refusal_is}
use Rattle.season_running.proofs.RuledFacts.{amend_ruled}
use Rattle.season_running.proofs.running.RunningSeason.judge_amend.Goals as goal

pub returns-in-AmendPlayer-clause-ruled : goal.returns-in-AmendPlayer-clause-ruled
returns-in-AmendPlayer-clause-ruled c = λ operator now caller book plays.
    let running : Running = record { facts = c.self.inside.season; managers = c.self.inside.managers.managers; leagues = c.self.inside.leagues; cups = c.self.inside.cups } in
    let plays_here : Plays running book = subst (λ r. Plays r book) (sym c.self.view_is) plays in
    amend_ruled operator book caller now c.args.command.now running plays_here c.in-AmendPlayer.player _ c.in-AmendPlayer.position c.judge_amend.result c.in-AmendPlayer.is c.judge_amend.ensures.books

pub returns-in-AmendPlayer-clause-refusal : goal.returns-in-AmendPlayer-clause-refusal
returns-in-AmendPlayer-clause-refusal c =
    amend_refusal_is c.self.inside.season c.self.inside.managers.managers c.in-AmendPlayer.player c.in-AmendPlayer.position c.judge_amend.result c.judge_amend.ensures.rows
