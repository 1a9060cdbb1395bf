use Rattle.std.proofs.Common.{subst}
use Rattle.rule_book.specs.Calendar.{IsCalendar}
use Rattle.season_book.specs.Book.{Facts}
use Rattle.season_host.proofs.accepting.change_by.Goals as goal

pub returns-clause-leads : goal.returns-clause-leads
returns-clause-leads c = λ season.
    c.plans_lead.ensures c.args.caller.now c.args.now c.args.command.now c.args.running.now c.change.new.running c.args.plan.now season c.requires.granted c.requires.plan
    c.in_ok-made.ensures.changed (subst (λ (f : Facts). IsCalendar f.calendar) c.season.ensures c.keeps_facts.ensures.calendar) c.keeps_rows.ensures c.keeps_rows-2.ensures
