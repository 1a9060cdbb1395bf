use Rattle.std.proofs.Common.{◌∙◌, List, ap, subst, sym}
use Rattle.season_records.specs.declared.slot.Slot.{Slot}
use Rattle.season_book.specs.Book.{Book}
use Rattle.season_book.specs.declared.answer.Answer.{Answer}
use Rattle.season_running.proofs.HostFacts.{fresh_in, numbered_in}
use Rattle.season_running.specs.Standing.{StandsIn}
use Rattle.season_host.specs.Accepted.{MayEndIn, answer_from}
use Rattle.season_host.proofs.CommandAnswers.{answered_by, late_by, rests_by}
use Rattle.season_host.proofs.Counted.{refused_done}
use Rattle.season_host.proofs.house.House.answer_command.Goals as goal

pub returns-in-Ok-clause-answered : goal.returns-in-Ok-clause-answered
returns-in-Ok-clause-answered g c = λ book stands.
    let host = c.args.self.now in
    let caller = c.args.caller.now in
    let command = c.args.command.now in
    let number = c.args.number in
    let lasts_are = ap (λ h. h.lasts) c.self.view_is in
    let fresh = fresh_in host c.self.inside.lasts lasts_are book stands caller number command c.in-None.ensures in
    let none = numbered_in host c.self.inside.lasts lasts_are book stands caller c.number.result number c.number.ensures c.in-Ok.ensures in
    let new = c.accept-done.new.self in
    let P = λ (a : Answer) (slots : List Slot). (after : Book) × StandsIn new after
    × MayEndIn host.operator book caller c.args.now number command a slots after in
    subst (λ a. P a c.answer_to.result.slots.items) (sym c.answer_to.ensures.0)
    (subst (λ slots. P (answer_from number c.accept-done.result) slots) (sym c.answer_to.ensures.1)
    (answered_by host new caller c.args.now number command book stands fresh none c.accept-done.result c.accept-done.ensures.accepted c.accept-done.ensures.touched))

pub returns-in-Ok-clause-late : goal.returns-in-Ok-clause-late
returns-in-Ok-clause-late g c = λ book stands.
    let host = c.args.self.now in
    let caller = c.args.caller.now in
    let command = c.args.command.now in
    let number = c.args.number in
    let lasts_are = ap (λ h. h.lasts) c.self.view_is in
    let fresh = fresh_in host c.self.inside.lasts lasts_are book stands caller number command c.in-None.ensures in
    let none = numbered_in host c.self.inside.lasts lasts_are book stands caller c.number.result number c.number.ensures c.in-Ok.ensures in
    rw c.answer_to.ensures.0
    (late_by host _ caller c.args.now number command book stands fresh none c.accept-done.result c.accept-done.ensures.accepted)

pub returns-in-Ok-clause-nothing : goal.returns-in-Ok-clause-nothing
returns-in-Ok-clause-nothing g c = λ book stands none.
    c.answer_to.ensures.2
    ∙ rests_by c.args.self.now c.args.caller.now c.args.command.now book stands c.accept-done.result c.accept-done.ensures.touched (sym c.answer_to.ensures.1 ∙ none)

pub returns-in-Ok-clause-refused : goal.returns-in-Ok-clause-refused
returns-in-Ok-clause-refused g c = λ none some.
    refused_done c.args.number c.accept-done.result c.accept-done.ensures.acts c.accept-done.ensures.refused (sym c.answer_to.ensures.2 ∙ none)
    (λ e. some (c.answer_to.ensures.0 ∙ e))
