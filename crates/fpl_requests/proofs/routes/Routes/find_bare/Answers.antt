use Rattle.std.proofs.Common.{Some, None, false, ap, ap₂, sym, subst, ◌∙◌}
use Rattle.std.specs.Prelude.{◌||◌}
use Rattle.fpl_requests.specs.declared.route.Method.TheVariants.{Get, Post}
use Rattle.fpl_requests.specs.Tables.{told}
use Rattle.fpl_requests.specs.Targets.{IsFoundAt}
use Rattle.fpl_requests.proofs.FoundFacts.{told_is}
use Rattle.fpl_requests.proofs.routes.Routes.find_bare.Goals as goal

pub returns-in-None-found_at : goal.returns-in-None-found_at
returns-in-None-found_at c =
    let bytes = c.args.method.now in
    let target = c.args.target.now in
    let named = sym c.in-Some-Post.ensures ∙ ap Some c.in-Some-Post.field-0-is in
    subst (IsFoundAt bytes target) (sym (c.told.ensures ∙ ap (λ b. told None (false || b)) c.is_some.ensures)) (told_is bytes target (Some Post) None c.found_at-in-None-found_at.result named c.in-None-found_at.ensures c.found_at-in-None-found_at.ensures)

pub returns-in-None-found_at-2 : goal.returns-in-None-found_at-2
returns-in-None-found_at-2 c =
    let bytes = c.args.method.now in
    let target = c.args.target.now in
    let named = sym c.in-Some-Get.ensures ∙ ap Some c.in-Some-Get.field-0-is in
    subst (IsFoundAt bytes target) (sym (c.told-in-None-found_at-2.ensures ∙ ap (λ a. told None (a || false)) c.is_some-in-None-found_at-2.ensures)) (told_is bytes target (Some Get) c.found_at-in-None-found_at-2.result None named c.found_at-in-None-found_at-2.ensures c.in-None-found_at-2.ensures)

pub returns-in-None : goal.returns-in-None
returns-in-None c =
    let bytes = c.args.method.now in
    let target = c.args.target.now in
    subst (IsFoundAt bytes target) (sym (c.told-in-None.ensures ∙ ap₂ (λ a b. told None (a || b)) c.is_some-is_posted.ensures c.is_some-in-None.ensures)) (told_is bytes target None c.found_at-in-None.result c.found_at-in-None-2.result (sym c.in-None.ensures) c.found_at-in-None.ensures c.found_at-in-None-2.ensures)

pub returns-in-Some : goal.returns-in-Some
returns-in-Some c =
    let bytes = c.args.method.now in
    let target = c.args.target.now in
    let named = sym c.in-Some-Post.ensures ∙ ap Some c.in-Some-Post.field-0-is in
    let at = c.in-Some.ensures in
    subst (IsFoundAt bytes target) (sym c.served.ensures) (Post, at.0, named, at.1, at.2)

pub returns-in-Some-found_at : goal.returns-in-Some-found_at
returns-in-Some-found_at c =
    let bytes = c.args.method.now in
    let target = c.args.target.now in
    let named = sym c.in-Some-Get.ensures ∙ ap Some c.in-Some-Get.field-0-is in
    let at = c.in-Some-found_at.ensures in
    subst (IsFoundAt bytes target) (sym c.served-in-Some-found_at.ensures) (Get, at.0, named, at.1, at.2)
