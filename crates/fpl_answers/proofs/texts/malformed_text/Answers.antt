use Rattle.std.proofs.Common.{◌∙◌}
use Rattle.fpl_answers.specs.MemberData.{malformed_data}
use Rattle.json_members.proofs.AppendLemmas.{text_of}
use Rattle.fpl_answers.proofs.texts.malformed_text.Goals as goal

pub returns : goal.returns
returns c =
    rw (c.new-out.ensures.before, c.in_ok-with_capacity.ensures.items) at
    (c.into_inner.ensures.items ∙ text_of (malformed_data c.args.field.now) c.new-out.ensures.tokens c.in_ok-write_malformed.ensures)
