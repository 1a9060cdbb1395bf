use Rattle.std.proofs.Common.{◌∙◌, Some, ap, arith, subst, sym}
use Rattle.json.specs.Json.{document}
use Rattle.json_tree.specs.Trees.{HasData, view}
use Rattle.json_tree.proofs.TextLemmas.{some_of, spelled, text_invalid, text_read, text_refused}
use Rattle.json_tree.proofs.TokenLemmas.{view_is}
use Rattle.json_tree.proofs.parser.parse.Goals as goal

pub invariant_of-result : goal.invariant_of-result
invariant_of-result c =
    let text = c.args.text.now in
    let (j, is) = some_of (document text) c.in-Ok.ensures.ok.1 in
    let readable = sym (c.is_readable.ensures j (c.nodes.ensures.tokens ∙ c.in-Ok.ensures.ok.0 ∙ spelled text j is)) ∙ c.if-is_readable.true in
    let (d, begins, read) = text_read text j is readable in
    subst HasData (sym c.in-Ok.ensures.ok.0) (d, _, begins)

pub returns-then-is_readable-clause-ok : goal.returns-then-is_readable-clause-ok
returns-then-is_readable-clause-ok c =
    let text = c.args.text.now in
    let (j, is) = some_of (document text) c.in-Ok.ensures.ok.1 in
    let readable = sym (c.is_readable.ensures j (c.nodes.ensures.tokens ∙ c.in-Ok.ensures.ok.0 ∙ spelled text j is)) ∙ c.if-is_readable.true in
    let (d, begins, read) = text_read text j is readable in
    read ∙ ap Some (sym (ap view c.in-Ok.ensures.ok.0 ∙ view_is _ d _ begins))

pub returns-in-Ok-clause-invalid : goal.returns-in-Ok-clause-invalid
returns-in-Ok-clause-invalid c invalid =
    let text = c.args.text.now in
    let (j, is) = some_of (document text) c.in-Ok.ensures.ok.1 in
    let other = sym (c.is_readable.ensures j (c.nodes.ensures.tokens ∙ c.in-Ok.ensures.ok.0 ∙ spelled text j is)) ∙ c.if-is_readable.false in
    text_refused text j is other

pub returns-in-Err-Invalid-clause-invalid : goal.returns-in-Err-Invalid-clause-invalid
returns-in-Err-Invalid-clause-invalid c invalid = text_invalid c.args.text.now (c.in-Err-Invalid.ensures.invalid (grind arith))
