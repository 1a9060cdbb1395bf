-- Who may ask what.
use Rattle.std.specs.Prelude.{Bool, true, false, not}
use Rattle.fpl_base.specs.declared.kinds.Caller.{Caller}
use Rattle.fpl_base.specs.declared.kinds.Caller.TheVariants as caller
use Rattle.fpl_requests.specs.declared.route.Callers.{Callers}
use Rattle.fpl_requests.specs.declared.route.Callers.TheVariants as callers
use Rattle.fpl_requests.specs.declared.route.Route.{Route}

abbrev pub is_operator : Caller → Bool
is_operator caller.Operator = true
is_operator (caller.Entry e) = false

-- whether a caller is one of those who may ask
abbrev pub admits : Callers → Caller → Bool
admits callers.Operator who = is_operator who
admits callers.Entry who = not (is_operator who)
admits callers.Both who = true

-- whether a caller may ask a route
abbrev pub is_for : Route → Caller → Bool
is_for route who = admits route.callers who
