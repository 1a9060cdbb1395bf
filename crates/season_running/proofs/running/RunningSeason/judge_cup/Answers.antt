use Rattle.std.proofs.Common.{length, subst, sym}
use Rattle.season_running.specs.Standing.{Plays, Running}
use Rattle.season_running.proofs.AnswerFacts.{cup_refusal_is}
use Rattle.season_running.proofs.RuledFacts.{cup_judged}
use Rattle.season_running.proofs.running.RunningSeason.judge_cup.Goals as goal

pub returns-clause-ruled : goal.returns-clause-ruled
returns-clause-ruled c = λ operator now caller book plays.
    let running : Running = record { facts = c.self.inside.season; managers = c.self.inside.managers.managers; leagues = c.self.inside.leagues; cups = c.self.inside.cups } in
    let here : Plays running book = subst (λ r. Plays r book) (sym c.self.view_is) plays in
    cup_judged operator book caller now c.args.command.now running here c.judge_cup.result c.requires c.judge_cup.ensures.books

pub returns-clause-refusal : goal.returns-clause-refusal
returns-clause-refusal c =
    cup_refusal_is c.self.inside.season c.self.inside.managers.managers (length c.self.inside.cups) c.args.command.now c.judge_cup.result c.judge_cup.ensures.rows
