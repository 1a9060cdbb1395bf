use Rattle.std.proofs.Common.{false, true, rules, refl, subst, sym}
use Rattle.season_opening.specs.Opening.{AreLoaded}
use Rattle.season_running.specs.Standing.{HostRows}
use Rattle.season_keeping.specs.Housed.{Housed}
use Rattle.season_keeping.proofs.Loading.{backs_by, backs_stale, opens_by}
use Rattle.season_keeping.proofs.host.Host.ready.Goals as goal

pub returns-in-Ok-cells_of-clause-made : goal.returns-in-Ok-cells_of-clause-made
returns-in-Ok-cells_of-clause-made g c = λ stale.
    let host : Housed = record { rows = c.replace.new.self; cells = c.in-Ok-cells_of.cells; stale = false; reread = true } in
    opens_by c.loaded_rows_stand.ensures _ g.K.Keeper.tells g.K.Keeper.holds g.K.Keeper.passes c.args.keeper.now c.loaded.new.keeper host refl
    (subst (λ (rows : HostRows). AreLoaded (g.K.Keeper.tells c.loaded.new.keeper) (g.K.Keeper.holds c.args.keeper.now) (g.K.Keeper.holds c.loaded.new.keeper) (g.K.Keeper.passes c.loaded.new.keeper) rows)
    (sym c.replace.ensures) (c.in-Ok.ensures.made c.self.inside.house.operator))

pub returns-in-Ok-cells_of-clause-backs : goal.returns-in-Ok-cells_of-clause-backs
returns-in-Ok-cells_of-clause-backs g c = λ tell serve book backs.
    let host : Housed = record { rows = c.replace.new.self; cells = c.in-Ok-cells_of.cells; stale = false; reread = true } in
    backs_by c.loaded_rows_stand.ensures _ g.K.Keeper.tells g.K.Keeper.holds g.K.Keeper.passes c.args.keeper.now c.loaded.new.keeper host
    (subst (λ (rows : HostRows). AreLoaded (g.K.Keeper.tells c.loaded.new.keeper) (g.K.Keeper.holds c.args.keeper.now) (g.K.Keeper.holds c.loaded.new.keeper) (g.K.Keeper.passes c.loaded.new.keeper) rows)
    (sym c.replace.ensures) (c.in-Ok.ensures.made c.self.inside.house.operator))
    tell book backs.keepable backs.held

pub returns-in-Err-cells_of-clause-backs : goal.returns-in-Err-cells_of-clause-backs
returns-in-Err-cells_of-clause-backs g c = λ tell serve book backs.
    let host : Housed = record { rows = c.self.inside.house; cells = c.self.inside.cells; stale = c.self.inside.stale; reread = true } in
    backs_stale c.loaded_rows_stand.ensures _ g.K.Keeper.tells g.K.Keeper.holds g.K.Keeper.passes c.args.keeper.now c.loaded.new.keeper host
    _ (c.in-Ok.ensures.made c.self.inside.house.operator) tell (search rules) book backs.keepable backs.held
