use Rattle.std.proofs.Common.{◌∙◌, ap, ◌++◌}
use Rattle.fpl_http.proofs.ResponsesLemmas.{head_of_parts}
use Rattle.fpl_http.proofs.responses.put_head.Goals as goal

pub returns-clause-items : goal.returns-clause-items
returns-clause-items c =
    head_of_parts c.args.status c.args.size c.args.closing c.args.out.now.items
    c.put.new.out.items c.put-2.new.out.items c.put-3.new.out.items c.put_phrase.new.out.items c.put-4.new.out.items c.put-5.new.out.items c.put-6.new.out.items
    c.put.ensures.items (c.put-2.ensures.items ∙ ap (λ t. c.put.new.out.items ++ t) (c.as_bytes.ensures.value ∙ c.format.ensures.text)) c.put-3.ensures.items c.put_phrase.ensures.items c.put-4.ensures.items
    (c.put-5.ensures.items ∙ ap (λ t. c.put-4.new.out.items ++ t) (c.as_bytes-2.ensures.value ∙ c.format-2.ensures.text)) (c.put-6.ensures.items ∙ ap (λ t. c.put-5.new.out.items ++ t) c.end_of_head.ensures.end)
