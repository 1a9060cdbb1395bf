use Rattle.std.proofs.Common.{subst}
use Rattle.std.proofs.lemmas.Result.{IfOk-weaker}
use Rattle.season_cells.specs.Kept.{AreCellsOf}
use Rattle.season_nodes.specs.Season.{SeasonFacts}
use Rattle.season_host.proofs.Followed.{seen_is}
use Rattle.season_host.proofs.following.cells_in.Goals as goal

pub returns : goal.returns
returns g c =
    let running = c.args.running.now in
    let same = seen_is running c.season.result.now c.managers.result.now c.leagues.result.now c.cups.result.now c.season.ensures c.managers.ensures.managers c.managers.ensures.profile c.leagues.ensures c.cups.ensures in
    IfOk-weaker c.anew.result _ _ (λ kept are. subst (λ (f : SeasonFacts). AreCellsOf f kept) same are) c.anew.ensures
