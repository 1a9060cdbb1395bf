use Rattle.std.proofs.Common.{subst}
use Rattle.fpl_requests.specs.Targets.{IsFoundAt}
use Rattle.fpl_requests.proofs.routes.Routes.find.Goals as goal

pub returns : goal.returns
returns c = subst (λ t. IsFoundAt c.args.method.now t c.find_bare.result) c.bare.ensures c.find_bare.ensures
