use Rattle.std.proofs.Common.{subst, sym}
use Rattle.season_running.specs.Standing.{InStep}
use Rattle.season_running.proofs.running.RunningSeason.pass.Goals as goal

pub invariant_of-self : goal.invariant_of-self
invariant_of-self c =
    let managers = c.self.inside.managers in
    subst (λ f. InStep f managers c.self.inside.leagues) (sym c.pass.ensures) (record {
      profile = c.self.invariant.profile;
      early = c.moments_leave_entries.ensures c.self.inside.season c.args.now managers.managers c.self.invariant.early;
      members = c.self.invariant.members;
    })
