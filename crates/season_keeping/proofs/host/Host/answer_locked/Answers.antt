use Rattle.std.proofs.Common.{ap, refl, subst, sym}
use Rattle.season_book.specs.Verdict.{Failures}
use Rattle.season_book.specs.declared.request.Request.TheVariants as request
use Rattle.season_keeping.specs.Answering.{MayEnd}
use Rattle.season_keeping.specs.Housed.{Housed}
use Rattle.season_running.specs.Standing.{HostRows, StandsIn}
use Rattle.season_keeping.proofs.Acting.{rest_leads}
use Rattle.season_keeping.proofs.Ending.{caused_storeless, end_of_view}
use Rattle.season_keeping.proofs.host.Host.answer_locked.Goals as goal

pub returns-in-View-clause-answered : goal.returns-in-View-clause-answered
returns-in-View-clause-answered g c = rw c.in-View.is (λ book stands.
    let failures : Failures = record { before = g.K.Keeper.faults c.args.keeper.now; behind = g.K.Keeper.faults c.args.keeper.now } in
    let operator = c.args.self.now.rows.operator in
    let asked = request.View c.in-View.view in
    rest_leads _ g.K.Keeper.tells g.K.Keeper.serves g.K.Keeper.holds g.K.Keeper.passes c.args.keeper.now c.args.self.now c.args.self.now refl book book refl stands
    (λ left. MayEnd operator failures book c.args.caller c.args.now asked c.answer_view.result left)
    (end_of_view operator failures book c.args.caller c.args.now c.in-View.view c.answer_view.result
    (c.answer_view.ensures.shown book (subst (λ (rows : HostRows). StandsIn rows book) (sym (ap (λ (h : Housed). h.rows) c.self.view_is)) stands))))

pub returns-in-Command-clause-answered : goal.returns-in-Command-clause-answered
returns-in-Command-clause-answered g c = rw c.in-Command.is c.answer_command.ensures.answered

pub returns-in-Command-clause-stops : goal.returns-in-Command-clause-stops
returns-in-Command-clause-stops g c = rw c.in-Command.is c.answer_command.ensures.stops

pub returns-in-Command-clause-acts : goal.returns-in-Command-clause-acts
returns-in-Command-clause-acts g c = rw c.in-Command.is c.answer_command.ensures.acts

pub returns-in-View-clause-caused : goal.returns-in-View-clause-caused
returns-in-View-clause-caused g c =
    caused_storeless (record { before = g.K.Keeper.faults c.args.keeper.now; behind = g.K.Keeper.faults c.args.keeper.now }) c.answer_view.result c.answer_view.ensures.storeless refl

pub returns-in-View-clause-cheap : goal.returns-in-View-clause-cheap
returns-in-View-clause-cheap g c = rw c.in-View.is (λ fresh. tt)

pub returns-in-View-clause-refused : goal.returns-in-View-clause-refused
returns-in-View-clause-refused g c = rw c.in-View.is (λ some book stands rest. tt)

pub returns-in-Command-clause-cheap : goal.returns-in-Command-clause-cheap
returns-in-Command-clause-cheap g c = rw c.in-Command.is c.answer_command.ensures.cheap

pub returns-in-Command-clause-refused : goal.returns-in-Command-clause-refused
returns-in-Command-clause-refused g c = rw c.in-Command.is c.answer_command.ensures.refused

pub returns-in-View-clause-views : goal.returns-in-View-clause-views
returns-in-View-clause-views g c = rw c.in-View.is (λ book stands.
    c.answer_view.ensures.cost book (subst (λ (rows : HostRows). StandsIn rows book) (sym (ap (λ (h : Housed). h.rows) c.self.view_is)) stands))

pub returns-in-Command-clause-views : goal.returns-in-Command-clause-views
returns-in-Command-clause-views g c = rw c.in-Command.is (λ book stands. tt)

pub returns-in-View-clause-looks : goal.returns-in-View-clause-looks
returns-in-View-clause-looks g c = rw c.in-View.is (refl, refl)

pub returns-in-Command-clause-looks : goal.returns-in-Command-clause-looks
returns-in-Command-clause-looks g c = rw c.in-Command.is tt
