use Rattle.std.proofs.Common.{◌≡◌, Some, refl, subst}
use Rattle.command_line.specs.Orders.{HasFewMembers, ordered}
use Rattle.command_line.specs.declared.words.Words.{Words}
use Rattle.command_line.specs.declared.words.Words.TheVariants as order
use Rattle.fpl_run.proofs.RunLemmas.{no_memory, not_read_ends, runs_as, runs_none, unread_statuses}
use Rattle.fpl_run.proofs.run.run.Goals as goal

pub returns-in-Ok-Score-clause-runs : goal.returns-in-Ok-Score-clause-runs
returns-in-Ok-Score-clause-runs g c =
    let one = c.in-Ok-Score in
    let said = subst (λ (w : Words). ordered c.args.words.now ≡ Some w) one.field-0-is one.ensures.ordered in
    runs_as _ _ g.K.Keeper.tells g.K.Keeper.serves g.K.Keeper.holds g.K.Keeper.passes g.K.Keeper.faults g.F.AskedShelf.one_read (ordered c.args.words.now) (order.Score one.profile) _ _ _ said
    (record { due = c.score.ensures.score; end = c.score.ensures.end; taken = c.score.ensures.taken; statuses = c.score.ensures.statuses; memory = c.score.ensures.memory }, (refl, refl, refl, refl, refl))

pub returns-in-Ok-Pipe-clause-runs : goal.returns-in-Ok-Pipe-clause-runs
returns-in-Ok-Pipe-clause-runs g c =
    let one = c.in-Ok-Pipe in
    let said = subst (λ (w : Words). ordered c.args.words.now ≡ Some w) one.field-0-is one.ensures.ordered in
    runs_as _ _ g.K.Keeper.tells g.K.Keeper.serves g.K.Keeper.holds g.K.Keeper.passes g.K.Keeper.faults g.F.AskedShelf.one_read (ordered c.args.words.now) (order.Pipe one.key one.field-0-1) _ _ _ said (c.pipe.ensures.session, c.pipe.ensures.reads, refl, refl)

pub returns-in-Ok-Serve-clause-runs : goal.returns-in-Ok-Serve-clause-runs
returns-in-Ok-Serve-clause-runs g c =
    let one = c.in-Ok-Serve in
    let said = subst (λ (w : Words). ordered c.args.words.now ≡ Some w) one.field-0-is one.ensures.ordered in
    runs_as _ _ g.K.Keeper.tells g.K.Keeper.serves g.K.Keeper.holds g.K.Keeper.passes g.K.Keeper.faults g.F.AskedShelf.one_read (ordered c.args.words.now) (order.Serve one.key one.field-0-1 one.field-0-2 one.connections one.field-0-4 one.field-0-5) _ _ _ said (c.serve.ensures.served, c.serve.ensures.reads, refl, refl)

pub returns-in-Ok-Load-clause-runs : goal.returns-in-Ok-Load-clause-runs
returns-in-Ok-Load-clause-runs g c =
    let one = c.in-Ok-Load in
    let said = subst (λ (w : Words). ordered c.args.words.now ≡ Some w) one.field-0-is one.ensures.ordered in
    runs_as _ _ g.K.Keeper.tells g.K.Keeper.serves g.K.Keeper.holds g.K.Keeper.passes g.K.Keeper.faults g.F.AskedShelf.one_read (ordered c.args.words.now) (order.Load one.key one.field-0-1 one.dir one.split one.profile one.more) _ _ _ said (c.load.ensures.loaded, refl, refl)

pub returns-in-Ok-Report-clause-runs : goal.returns-in-Ok-Report-clause-runs
returns-in-Ok-Report-clause-runs g c =
    let one = c.in-Ok-Report in
    let said = subst (λ (w : Words). ordered c.args.words.now ≡ Some w) one.field-0-is one.ensures.ordered in
    runs_as _ _ g.K.Keeper.tells g.K.Keeper.serves g.K.Keeper.holds g.K.Keeper.passes g.K.Keeper.faults g.F.AskedShelf.one_read (ordered c.args.words.now) (order.Report one.key one.field-0-1 one.what) _ _ _ said (c.report.ensures.reports, refl, refl, refl)

pub returns-in-Ok-Generate-clause-runs : goal.returns-in-Ok-Generate-clause-runs
returns-in-Ok-Generate-clause-runs g c =
    let one = c.in-Ok-Generate in
    let said = subst (λ (w : Words). ordered c.args.words.now ≡ Some w) one.field-0-is one.ensures.ordered in
    runs_as _ _ g.K.Keeper.tells g.K.Keeper.serves g.K.Keeper.holds g.K.Keeper.passes g.K.Keeper.faults g.F.AskedShelf.one_read (ordered c.args.words.now) (order.Generate one.seed one.field-0-1) _ _ _ said (c.generate.ensures.generates _, refl, refl, refl, refl)

pub returns-in-Ok-Dream-clause-runs : goal.returns-in-Ok-Dream-clause-runs
returns-in-Ok-Dream-clause-runs g c =
    let one = c.in-Ok-Dream in
    let said = subst (λ (w : Words). ordered c.args.words.now ≡ Some w) one.field-0-is one.ensures.ordered in
    runs_as _ _ g.K.Keeper.tells g.K.Keeper.serves g.K.Keeper.holds g.K.Keeper.passes g.K.Keeper.faults g.F.AskedShelf.one_read (ordered c.args.words.now) (order.Dream one.key one.field-0-1 one.gameweek) _ _ _ said (c.dream.ensures.dreams, refl, refl, refl)

pub returns-in-Ok-Events-clause-runs : goal.returns-in-Ok-Events-clause-runs
returns-in-Ok-Events-clause-runs g c =
    let one = c.in-Ok-Events in
    let said = subst (λ (w : Words). ordered c.args.words.now ≡ Some w) one.field-0-is one.ensures.ordered in
    runs_as _ _ g.K.Keeper.tells g.K.Keeper.serves g.K.Keeper.holds g.K.Keeper.passes g.K.Keeper.faults g.F.AskedShelf.one_read (ordered c.args.words.now) (order.Events one.key one.field-0-1 one.fixture one.minutes) _ _ _ said (c.events.ensures.recorded, refl, refl)

pub draft-requires : goal.draft-requires
draft-requires g c =
    let one = c.in-Ok-Draft in
    record { few = subst (λ (w : Words). HasFewMembers w) one.field-0-is one.ensures.few }

pub returns-in-Ok-Draft-clause-runs : goal.returns-in-Ok-Draft-clause-runs
returns-in-Ok-Draft-clause-runs g c =
    let one = c.in-Ok-Draft in
    let said = subst (λ (w : Words). ordered c.args.words.now ≡ Some w) one.field-0-is one.ensures.ordered in
    runs_as _ _ g.K.Keeper.tells g.K.Keeper.serves g.K.Keeper.holds g.K.Keeper.passes g.K.Keeper.faults g.F.AskedShelf.one_read (ordered c.args.words.now) (order.Draft one.key one.field-0-1 one.members) _ _ _ said (c.draft.ensures.drafted, refl, refl)

pub returns-in-Err-Unread-clause-runs : goal.returns-in-Err-Unread-clause-runs
returns-in-Err-Unread-clause-runs g c =
    runs_none _ _ g.K.Keeper.tells g.K.Keeper.serves g.K.Keeper.holds g.K.Keeper.passes g.K.Keeper.faults g.F.AskedShelf.one_read (ordered c.args.words.now) _ _ _ (c.in-Err-Unread.ensures.ordered c.in-Err-Unread.field-0-is)
    ((not_read_ends _ _ _ _ (c.as_bytes.ensures.value) c.print.ensures.printed, unread_statuses _ c.print.ensures.statuses), refl, (refl, refl, refl, refl, refl))

pub returns-clause-runs : goal.returns-clause-runs
returns-clause-runs g c = no_memory _ _ g.K.Keeper.tells g.K.Keeper.serves g.K.Keeper.holds g.K.Keeper.passes g.K.Keeper.faults g.F.AskedShelf.one_read (ordered c.args.words.now) _
