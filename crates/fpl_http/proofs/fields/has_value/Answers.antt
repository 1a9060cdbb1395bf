use Rattle.std.proofs.Common.{arith, sym, ◌∙◌}
use Rattle.fpl_http.proofs.FieldsLemmas.{any_hit, any_miss, any_none}
use Rattle.fpl_http.proofs.fields.has_value.Goals as goal

pub loop-header-preserved : goal.loop-header-preserved
loop-header-preserved c = any_miss c.args.buf.now c.args.name.now c.args.text.now c.args.headers.now c.loop-header.header-index _ _ (omega arith) (sym c.says.ensures ∙ c.if-says.false) c.loop-header.invariant

pub returns-then-says : goal.returns-then-says
returns-then-says c = any_hit c.args.buf.now c.args.name.now c.args.text.now c.args.headers.now c.loop-header.header-index _ _ (omega arith) (sym c.says.ensures ∙ c.if-says.true) c.loop-header.invariant

pub returns : goal.returns
returns c = any_none c.args.buf.now c.args.name.now c.args.text.now c.args.headers.now c.loop-header.header-index _ (omega (arith, c.loop-header-test.false)) c.loop-header.invariant
