use Rattle.std.proofs.Common.{◌≡◌, ◌+◌, ◌≤◌, ◌<◌, ◌∙◌, arith, ap, refl, sym, subst}
use Rattle.request_handler.specs.Kept.{Kept}
use Rattle.local_requests.proofs.AskingLemmas.{rose_behind}
use Rattle.fpl_loading.specs.More.{is_done}
use Rattle.fpl_loading.proofs.AddingLemmas.{added_done, added_none, added_not, fresh_if, lacking_is, told_keeper}
use Rattle.fpl_loading.proofs.adding.add.Goals as goal

pub returns-then-number-ge-MOST-clause-added : goal.returns-then-number-ge-MOST-clause-added
returns-then-number-ge-MOST-clause-added g c =
    let first : Kept _ = record { host = c.args.host.now; moments = g.C.Clock.left c.args.clock.now; failed = g.K.Keeper.faults c.args.keeper.now; keeper = c.args.keeper.now } in
    added_none _ g.K.Keeper.tells g.K.Keeper.serves g.K.Keeper.holds g.K.Keeper.passes c.args.number c.args.command first (omega (arith, c.if-number-ge-MOST.true))

pub ask-told-requires : goal.ask-told-requires
ask-told-requires g c = record { fresh = c.requires.fresh; asked = (omega (arith, c.if-number-ge-MOST.false), omega (arith, c.if-number-ge-MOST.false), c.requires.lawful) }

pub returns-then-is_done-clause-added : goal.returns-then-is_done-clause-added
returns-then-is_done-clause-added g c =
    let told = c.ask-told in
    let first : Kept _ = record { host = c.args.host.now; moments = g.C.Clock.left c.args.clock.now; failed = g.K.Keeper.faults c.args.keeper.now; keeper = c.args.keeper.now } in
    let last : Kept _ = record { host = told.new.host; moments = g.C.Clock.left told.new.clock; failed = g.K.Keeper.faults told.new.keeper; keeper = told.new.keeper } in
    added_done _ g.K.Keeper.tells g.K.Keeper.serves g.K.Keeper.holds g.K.Keeper.passes c.args.number c.args.command told.result _ first last told.ensures.heard (sym c.is_done.ensures ∙ c.if-is_done.true) (lacking_is c.args.command _ _ c.rows_in-rows.ensures c.new.ensures)

pub returns-then-is_done-clause-fresh : goal.returns-then-is_done-clause-fresh
returns-then-is_done-clause-fresh g c = fresh_if is_done c.ask-told.new.host.stale c.ask-told.result refl refl c.ask-told.ensures.stale (sym c.is_done.ensures ∙ c.if-is_done.true)

pub returns-clause-added : goal.returns-clause-added
returns-clause-added g c =
    let told = c.ask-told in
    let first : Kept _ = record { host = c.args.host.now; moments = g.C.Clock.left c.args.clock.now; failed = g.K.Keeper.faults c.args.keeper.now; keeper = c.args.keeper.now } in
    let last : Kept _ = record { host = told.new.host; moments = g.C.Clock.left told.new.clock; failed = g.K.Keeper.faults told.new.keeper; keeper = told.new.keeper } in
    added_not _ g.K.Keeper.tells g.K.Keeper.serves g.K.Keeper.holds g.K.Keeper.passes c.args.number c.args.command told.result _ first last told.ensures.heard (sym c.is_done.ensures ∙ c.if-is_done.false) refl

pub returns-clause-keeper : goal.returns-clause-keeper
returns-clause-keeper g c = λ is. rose_behind _ c.ask-told.result c.ask-told.ensures.caused (told_keeper c.ask-told.result is)
