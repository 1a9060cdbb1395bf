use Rattle.std.proofs.Common.{false, refl, subst, sym}
use Rattle.season_opening.specs.Opening.{AreLoaded}
use Rattle.season_running.specs.Standing.{HostRows}
use Rattle.season_keeping.proofs.Loading.{opens_by}
use Rattle.season_keeping.proofs.host.Host.open.Goals as goal

pub returns-in-Ok-cells_of-clause-opened : goal.returns-in-Ok-cells_of-clause-opened
returns-in-Ok-cells_of-clause-opened g c =
    opens_by c.loaded_rows_stand.ensures _ g.K.Keeper.tells g.K.Keeper.holds g.K.Keeper.passes c.args.keeper.now c.loaded.new.keeper
    (record { rows = c.new.result; cells = c.in-Ok-cells_of.cells; stale = false; reread = false }) refl
    (subst (λ (rows : HostRows). AreLoaded (g.K.Keeper.tells c.loaded.new.keeper) (g.K.Keeper.holds c.args.keeper.now) (g.K.Keeper.holds c.loaded.new.keeper) (g.K.Keeper.passes c.loaded.new.keeper) rows)
    (sym c.new.ensures) (c.in-Ok-loaded.ensures.made c.in-Ok.operator))

pub returns-in-Err-cells_of-clause-holds : goal.returns-in-Err-cells_of-clause-holds
returns-in-Err-cells_of-clause-holds g c = record {
  kept = λ tell serve m held. (c.in-Ok-loaded.ensures.made c.in-Ok.operator).loaded.holds tell m held;
  stops = c.loaded.ensures.stops;
}
