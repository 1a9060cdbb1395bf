use Rattle.std.proofs.Common.{◌∙◌, Err, ap, refl, true}
use Rattle.season_keeping.specs.Housed.{Housed}
use Rattle.season_keeping.proofs.Committing.{commits_by}
use Rattle.season_keeping.proofs.host.Host.commit.Goals as goal

pub returns-in-Ok-clause-commits : goal.returns-in-Ok-clause-commits
returns-in-Ok-clause-commits g c =
    commits_by _ _ g.K.Keeper.tells g.K.Keeper.serves g.K.Keeper.holds g.K.Keeper.passes c.args.keeper.now c.commit.new.self c.args.slots.now c.args.self.now
    (record { rows = c.self.inside.house; cells = c.self.inside.cells; stale = true; reread = c.self.inside.reread }) c.self.inside.house c.deref.result.now (Err c.in-Err-commit.fault)
    (ap (λ (h : Housed). h.rows) c.self.view_is) (c.deref.ensures.value ∙ c.in-Ok.ensures.batch) (ap (λ (h : Housed). h.rows) c.self.view_is) (ap (λ (h : Housed). h.reread) c.self.view_is)
    tt refl
    (record {
      done = tt;
      alone = tt;
      failed = c.in-Err-commit.ensures.failed;
      kept = c.in-Err-commit.ensures.kept;
      stops = c.commit.ensures.stops;
    })
    c.in-Ok.ensures.items
