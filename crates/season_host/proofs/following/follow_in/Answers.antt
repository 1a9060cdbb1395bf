use Rattle.std.proofs.Common.{rules, subst, sym}
use Rattle.season_cells.specs.Correcting.{IsCheap, IsCorrected}
use Rattle.season_cells.specs.Kept.{AreCellsOf}
use Rattle.season_cells.specs.Leading.{LeadsTo}
use Rattle.season_nodes.specs.Season.{SeasonFacts}
use Rattle.season_running.proofs.RuledFacts.{on_ok}
use Rattle.season_host.proofs.Followed.{seen_is}
use Rattle.season_host.proofs.following.follow_in.Goals as goal

pub follow-requires : goal.follow-requires
follow-requires g c κs within =
    let running = c.args.running.now in
    let same = seen_is running c.season.result.now c.managers.result.now c.leagues.result.now c.cups.result.now c.season.ensures c.managers.ensures.managers c.managers.ensures.profile c.leagues.ensures c.cups.ensures in
    (search rules, (c.requires.1.0, subst (λ (f : SeasonFacts). LeadsTo g.before f c.args.plan.now) (sym same) c.requires.1.1))

pub returns : goal.returns
returns g c =
    let running = c.args.running.now in
    let same = seen_is running c.season.result.now c.managers.result.now c.leagues.result.now c.cups.result.now c.season.ensures c.managers.ensures.managers c.managers.ensures.profile c.leagues.ensures c.cups.ensures in
    record {
      cells = on_ok c.follow.result c.follow.ensures.cells (λ are. subst (λ (f : SeasonFacts). AreCellsOf f c.follow.new.self) same are);
      corrected = on_ok c.follow.result c.follow.ensures.corrected (λ is. subst (λ (f : SeasonFacts). IsCorrected g.before f c.args.cells.now.cells c.follow.new.self.cells) same is);
      cheap = on_ok c.follow.result c.follow.ensures.cost (λ is. subst (λ (f : SeasonFacts). IsCheap g.before f c.args.steps.now c.follow.new.steps) same is);
    }
