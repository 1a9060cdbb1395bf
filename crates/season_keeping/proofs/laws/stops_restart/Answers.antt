use Rattle.season_keeping.proofs.Restarting.{stops_restart}
use Rattle.season_keeping.proofs.laws.stops_restart.Goals as goal

pub returns : goal.returns
returns g c = stops_restart g.K.Keeper.tells g.K.Keeper.holds g.K.Keeper.passes g.R.Keeper.tells g.R.Keeper.holds g.R.Keeper.passes
