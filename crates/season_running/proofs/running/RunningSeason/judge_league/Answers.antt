use Rattle.std.proofs.Common.{subst, sym}
use Rattle.season_book.specs.Book.{caller_number}
use Rattle.season_running.specs.Standing.{Plays, Running}
use Rattle.season_running.proofs.AnswerFacts.{league_refusal_is}
use Rattle.season_running.proofs.RuledFacts.{league_ruled}
use Rattle.season_running.proofs.running.RunningSeason.judge_league.Goals as goal

pub returns-clause-ruled : goal.returns-clause-ruled
returns-clause-ruled c = λ operator now book plays.
    let running : Running = record { facts = c.self.inside.season; managers = c.self.inside.managers.managers; leagues = c.self.inside.leagues; cups = c.self.inside.cups } in
    let here : Plays running book = subst (λ r. Plays r book) (sym c.self.view_is) plays in
    league_ruled operator book c.args.caller.now now c.args.command.now running here c.judge_league.result c.requires c.judge_league.ensures.books

pub returns-clause-refusal : goal.returns-clause-refusal
returns-clause-refusal c =
    league_refusal_is c.self.inside.season c.self.inside.managers.managers c.self.inside.leagues (caller_number c.args.caller.now) c.args.command.now c.judge_league.result c.judge_league.ensures.rows
