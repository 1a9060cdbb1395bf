use Rattle.std.proofs.Common.{◌∙◌}
use Rattle.fpl_requests.specs.declared.route.Method.TheVariants.{Get, Post}
use Rattle.fpl_requests.proofs.PlaceFacts.{table_is}
use Rattle.fpl_requests.proofs.routes.Routes.new.Goals as goal

pub invariant_of-result : goal.invariant_of-result
invariant_of-result c = (c.in-Ok.ensures ∙ table_is Post, c.in-Ok-router_of.ensures ∙ table_is Get)
