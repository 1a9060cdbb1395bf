use Rattle.std.proofs.Common.{◌≡◌, ◌∙◌, Some, subst, arith}
use Rattle.fpl_base.specs.declared.rule.Rule.TheVariants as rule
use Rattle.rule_book.specs.Calendar.{CalendarFacts}
use Rattle.rule_book.specs.CalendarCalls.{fixture_refusal, place_refusal}
use Rattle.season_calendar.specs.contracts.season.Calendar.{the_view}
use Rattle.season_calendar.proofs.Refused.{refused_there, refused_full, refused_by_place}
use Rattle.season_calendar.proofs.season.Calendar.place_of_new.Goals as goal

pub returns-in-Ok-clause-judged : goal.returns-in-Ok-clause-judged
returns-in-Ok-clause-judged c =
    let there = rw c.deref.ensures.value at c.in-Ok.ensures.found in
    let P : CalendarFacts → Type 0 = λ v. fixture_refusal v c.args.fixture.now ≡ Some (rule.FixtureThere c.args.fixture.now.id) in
    subst P c.self.view_is (refused_there (the_view c.self.inside) c.args.fixture.now c.in-Ok.field-0 there)

pub returns-then-len-ge-MOST_FIXTURES-clause-judged : goal.returns-then-len-ge-MOST_FIXTURES-clause-judged
returns-then-len-ge-MOST_FIXTURES-clause-judged c =
    let gap = rw c.deref.ensures.value at c.in-Err.ensures.absent in
    let P : CalendarFacts → Type 0 = λ v. fixture_refusal v c.args.fixture.now ≡ Some rule.FixturesFull in
    subst P c.self.view_is (refused_full (the_view c.self.inside) c.args.fixture.now c.in-Err.at gap (omega (arith, c.len.ensures, c.deref.ensures.len, c.deref.ensures.value)))

pub returns-in-Err-judge_place-clause-judged : goal.returns-in-Err-judge_place-clause-judged
returns-in-Err-judge_place-clause-judged c =
    let x = c.args.fixture.now in
    let gap = rw c.deref.ensures.value at c.in-Err.ensures.absent in
    let P : CalendarFacts → Type 0 = λ v. fixture_refusal v x ≡ place_refusal v x.id x.gw x.kickoff in
    subst P c.self.view_is (refused_by_place (the_view c.self.inside) x c.in-Err.at gap (omega (arith, c.len.ensures, c.deref.ensures.len, c.deref.ensures.value))) ∙ c.in-Err-judge_place.ensures.judged

pub returns-in-Ok-judge_place-clause-judged : goal.returns-in-Ok-judge_place-clause-judged
returns-in-Ok-judge_place-clause-judged c =
    let x = c.args.fixture.now in
    let gap = rw c.deref.ensures.value at c.in-Err.ensures.absent in
    let P : CalendarFacts → Type 0 = λ v. fixture_refusal v x ≡ place_refusal v x.id x.gw x.kickoff in
    subst P c.self.view_is (refused_by_place (the_view c.self.inside) x c.in-Err.at gap (omega (arith, c.len.ensures, c.deref.ensures.len, c.deref.ensures.value))) ∙ c.in-Ok-judge_place.ensures.judged
