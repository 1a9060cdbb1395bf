use Rattle.std.specs.Prelude.{Some}
use Rattle.std.proofs.Common.{◌∙◌}
use Rattle.fpl_http.specs.Replies.{Speaks}
use Rattle.fpl_http.proofs.ServedLemmas.{turn_waits, turn_refused, turn_answered, turn_closed}
use Rattle.fpl_http.proofs.turn.take_turn.Goals as goal

pub returns-in-NeedMore-clause-turned : goal.returns-in-NeedMore-clause-turned
returns-in-NeedMore-clause-turned g c = turn_waits (Speaks (g.R.Service.answers c.args.service.now)) c.args.places.now.decoder c.next.new.self (g.R.Service.see (c.args.host.now, c.args.keeper.now, c.args.clock.now, c.args.steps.now)) (Some c.args.places.now.outbox) c.in-NeedMore.ensures.gives

pub returns-in-Refused-clause-turned : goal.returns-in-Refused-clause-turned
returns-in-Refused-clause-turned g c = turn_refused (Speaks (g.R.Service.answers c.args.service.now)) c.args.places.now.decoder c.next.new.self (g.R.Service.see (c.args.host.now, c.args.keeper.now, c.args.clock.now, c.args.steps.now)) (Some c.args.places.now.outbox) (Some c.respond.new.self) c.in-Refused.status c.in-Refused.ensures.gives c.respond.ensures.response

pub returns-then-answer_found-clause-turned : goal.returns-then-answer_found-clause-turned
returns-then-answer_found-clause-turned g c =
    let (m, t, found, speaks, sent, closes) = c.answer_found.ensures.answered in
    turn_closed (Speaks (g.R.Service.answers c.args.service.now)) c.args.places.now.decoder c.next.new.self (g.R.Service.see (c.args.host.now, c.args.keeper.now, c.args.clock.now, c.args.steps.now)) (g.R.Service.see (c.answer_found.new.host, c.answer_found.new.keeper, c.answer_found.new.clock, c.answer_found.new.steps)) (Some c.args.places.now.outbox) (Some c.answer_found.new.outbox) m t c.in-Message.ensures.gives found speaks
    (closes ∙ c.if-answer_found.true) sent

pub returns-else-answer_found-clause-turned : goal.returns-else-answer_found-clause-turned
returns-else-answer_found-clause-turned g c =
    let (m, t, found, speaks, sent, closes) = c.answer_found.ensures.answered in
    turn_answered (Speaks (g.R.Service.answers c.args.service.now)) c.args.places.now.decoder c.next.new.self (g.R.Service.see (c.args.host.now, c.args.keeper.now, c.args.clock.now, c.args.steps.now)) (g.R.Service.see (c.answer_found.new.host, c.answer_found.new.keeper, c.answer_found.new.clock, c.answer_found.new.steps)) (Some c.args.places.now.outbox) (Some c.answer_found.new.outbox) m t c.in-Message.ensures.gives found speaks
    (closes ∙ c.if-answer_found.false) sent
