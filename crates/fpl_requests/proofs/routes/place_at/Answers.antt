use Rattle.std.proofs.Common.{arith, ap, sym, ◌∙◌}
use Rattle.matchit.specs.Seek.{first}
use Rattle.fpl_requests.specs.Tables.{Table}
use Rattle.fpl_requests.proofs.PlaceFacts.{place_found, place_none, place_only}
use Rattle.fpl_requests.proofs.routes.place_at.Goals as goal

pub returns-in_default-clause-only : goal.returns-in_default-clause-only
returns-in_default-clause-only c a b here there = place_only c.args.method c.args.target.now a b here there

pub returns-in-Ok-at-clause-found : goal.returns-in-Ok-at-clause-found
returns-in-Ok-at-clause-found c =
    let same = sym (ap (λ (t : Table). first t c.args.target.now) c.requires) ∙ ap (first c.args.router.now) (sym c.in-Ok.ensures.cases.0) in
    place_found c.args.method c.args.target.now _ (λ i. omega (arith, c.type_inv.target i)) (same ∙ c.in-Ok-at.ensures.found)

pub returns-in-Ok-at-clause-only : goal.returns-in-Ok-at-clause-only
returns-in-Ok-at-clause-only c a b here there = place_only c.args.method c.args.target.now a b here there

pub returns-in-Err-clause-only : goal.returns-in-Err-clause-only
returns-in-Err-clause-only c a b here there = place_only c.args.method c.args.target.now a b here there

pub returns-in-Err-clause-none : goal.returns-in-Err-clause-none
returns-in-Err-clause-none c text a here =
    let same = sym (ap (λ (t : Table). first t c.args.target.now) c.requires) ∙ ap (first c.args.router.now) (sym c.in-Ok.ensures.cases.0) in
    place_none c.args.method c.args.target.now a (same ∙ c.in-Err.ensures.missing) here
