use Rattle.std.proofs.Common.{subst, ap, sym, ◌∙◌}
use Rattle.std.specs.Prelude.{option_and_then}
use Rattle.serde_json.specs.Read.{read}
use Rattle.fpl_requests.specs.declared.field.FieldName.TheVariants as field
use Rattle.fpl_requests.specs.Members.{GivesObject, if_object, or_wrong}
use Rattle.fpl_requests.proofs.BodyLemmas.{object_of_text, object_of_no_text}
use Rattle.fpl_requests.proofs.requests.object_of.Goals as goal

pub returns-in-Ok : goal.returns-in-Ok
returns-in-Ok c =
    let is = ap (λ s. or_wrong field.Body (option_and_then if_object (read s))) c.in-Ok.ensures.cases.0
    ∙ sym (object_of_text c.args.body.now c.in-Ok.ensures.cases.1) in
    subst (GivesObject c.object_in.result) is c.object_in.ensures

pub returns-in-Err : goal.returns-in-Err
returns-in-Err c = rw c.wrong.ensures (object_of_no_text c.args.body.now c.in-Err.ensures.cases.0)
