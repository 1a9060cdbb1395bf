use Rattle.std.proofs.Common.{◌≡◌, ◌∙◌, ◌-◌, ℕ, ap, rules, subst, sym, Err, Result}
use Rattle.request_handler.specs.Kept.{Kept, Leads}
use Rattle.season_generator.specs.Generating.{TabledBehind}
use Rattle.season_generator.specs.declared.table.Table.{Table}
use Rattle.season_generator.proofs.CourseLemmas.{rose_behind, rose_from, table_behind, table_stop}
use Rattle.season_generator.proofs.generating.tabled_behind.Goals as goal

-- the status of the same end
err_is : (one other : ℕ) → ◌≡◌ {A = Result Table ℕ} (Err one) (Err other) → one ≡ other
err_is one other same = cc

pub returns-clause-tabled : goal.returns-clause-tabled
returns-clause-tabled g c moments =
    let on = c.play.new in
    let told = c.tabled.new in
    let first : Kept _ = record { host = c.args.host.now; moments = moments; failed = g.K.Keeper.faults c.args.keeper.now; keeper = c.args.keeper.now } in
    let mid : Kept _ = record { host = on.host; moments = moments; failed = g.K.Keeper.faults on.keeper; keeper = on.keeper } in
    let last : Kept _ = record { host = told.host; moments = moments; failed = g.K.Keeper.faults told.keeper; keeper = told.keeper } in
    table_behind _ g.K.Keeper.tells g.K.Keeper.serves g.K.Keeper.holds g.K.Keeper.passes c.args.season.now c.args.from (c.args.to - c.args.from)
    (g.W.Sink.taken c.args.output.now) (g.W.Sink.taken on.output) (g.W.Sink.taken told.output) c.tabled.result first mid last
    (ap g.W.Sink.taken c.in_ok-play.ensures.output) (c.in_ok-play.ensures.played moments) (c.tabled.ensures.tabled moments)

pub returns-clause-keeper : goal.returns-clause-keeper
returns-clause-keeper g c is = rose_behind _ _ _ c.in_ok-play.ensures.later (c.tabled.ensures.keeper is)

pub returns-clause-write : goal.returns-clause-write
returns-clause-write g c is = rose_from g.W.Sink.faults _ _ _ c.in_ok-play.ensures.output (c.tabled.ensures.write is)

pub returns-in_err-play-clause-tabled : goal.returns-in_err-play-clause-tabled
returns-in_err-play-clause-tabled g c moments =
    let on = c.play.new in
    let first : Kept _ = record { host = c.args.host.now; moments = moments; failed = g.K.Keeper.faults c.args.keeper.now; keeper = c.args.keeper.now } in
    let last : Kept _ = record { host = on.host; moments = moments; failed = g.K.Keeper.faults on.keeper; keeper = on.keeper } in
    let is : c.from_residual.result ≡ Err c.in_err-play.field-0.0 = search rules in
    subst (λ (r : Result Table ℕ). Leads g.K.Keeper.tells g.K.Keeper.serves g.K.Keeper.holds g.K.Keeper.passes first last
    (TabledBehind c.args.season.now c.args.from (c.args.to - c.args.from) (g.W.Sink.taken c.args.output.now) (g.W.Sink.taken on.output) r)) (sym is)
    (table_stop _ g.K.Keeper.tells g.K.Keeper.serves g.K.Keeper.holds g.K.Keeper.passes c.args.season.now c.args.from (c.args.to - c.args.from)
    (g.W.Sink.taken c.args.output.now) (g.W.Sink.taken on.output) c.in_err-play.field-0.0 first last (c.in_err-play.ensures.played moments))

pub returns-in_err-play-clause-keeper : goal.returns-in_err-play-clause-keeper
returns-in_err-play-clause-keeper g c failed =
    let is : c.from_residual.result ≡ Err c.in_err-play.field-0.0 = search rules in
    c.in_err-play.ensures.keeper (ap (λ (status : ℕ). Err status) (err_is _ _ (sym is ∙ failed)))

pub returns-in_err-play-clause-write : goal.returns-in_err-play-clause-write
returns-in_err-play-clause-write g c failed =
    let is : c.from_residual.result ≡ Err c.in_err-play.field-0.0 = search rules in
    c.in_err-play.ensures.write (ap (λ (status : ℕ). Err status) (err_is _ _ (sym is ∙ failed)))
