use Rattle.std.proofs.Common.{refl, subst}
use Rattle.fpl_requests.specs.declared.routes.Place.{Place}
use Rattle.fpl_requests.specs.Targets.{AreIds}
use Rattle.fpl_requests.proofs.routes.found_at.Goals as goal

pub returns-in_default : goal.returns-in_default
returns-in_default c place ns fit = c.in_default.ensures.none fit.0 place fit.1

pub returns-in_default-read_ids : goal.returns-in_default-read_ids
returns-in_default-read_ids c other ns fit =
    let same = c.in-Some.ensures.only other c.in-Some.place fit.1 c.in-Some.ensures.found in
    c.in_default-read_ids.ensures ns (subst (λ (one : Place). AreIds one.ids c.args.target.now ns) same fit.2)

pub returns : goal.returns
returns c = (c.in-Some.place, (c.in-Some.ensures.text, c.in-Some.ensures.found, c.in-Some-read_ids.ensures), refl)
