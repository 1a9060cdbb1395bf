use Rattle.std.proofs.Common.{◌≡◌, ℕ, false, subst}
use Rattle.std.proofs.lemmas.Result.{on_ok_weaker}
use Rattle.match_events.specs.Lines.{line_of}
use Rattle.match_events.specs.Sheets.{is_listed}
use Rattle.match_events.proofs.ChangeLemmas.{one_comer}
use Rattle.match_events.proofs.changes.add_comer.Goals as goal

pub returns-in-Some-clause-other : goal.returns-in-Some-clause-other
returns-in-Some-clause-other c =
    on_ok_weaker c.add_other.result
    (λ other p comes. subst (λ (q : ℕ). is_listed c.add_other.new.players.items q ≡ false → line_of c.args.minutes c.args.events.now q ≡ line_of c.args.minutes c.args.told.now q)
    (one_comer c.args.event.now c.in-Some.player p c.in-Some.ensures comes) other)
    c.add_other.ensures.other
