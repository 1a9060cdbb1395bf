use Rattle.std.proofs.Common.{◌≡◌, ◌≤◌, ◌-◌, None, length, sym, subst, arith}
use Rattle.rule_book.specs.Calendar.{CalendarFacts}
use Rattle.rule_book.specs.CalendarCalls.{deadline_refusal}
use Rattle.season_calendar.specs.contracts.season.Calendar.{the_view}
use Rattle.season_calendar.proofs.Lawful.{kept_with_deadline}
use Rattle.season_calendar.proofs.Refused.{deadline_fits}
use Rattle.season_calendar.proofs.season.Calendar.set_deadline.Goals as goal

pub invariant_of-self : goal.invariant_of-self
invariant_of-self c =
    let facts = the_view c.self.inside in
    let g = c.args.g in
    let t = c.args.t in
    let number : c.from.result ≡ g - 1 = omega (arith, c.from.ensures, c.get.ensures.value) in
    let within : g ≤ length facts.deadlines = let P : CalendarFacts → Type 0 = λ v. g ≤ length v.deadlines in subst P (sym c.self.view_is) c.requires.in_season in
    let fits = let P : CalendarFacts → Type 0 = λ v. deadline_refusal v g t c.args.now ≡ None in deadline_fits facts g t c.args.now (subst P (sym c.self.view_is) c.in_ok-judge_deadline.ensures.judged) in
    rw number (kept_with_deadline facts c.self.inside.standing g t c.self.invariant (omega (arith, c.get.ensures.range, c.get.ensures.value)) within fits.0 fits.1)
