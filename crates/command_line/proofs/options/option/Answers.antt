use Rattle.std.proofs.Common.{ap, ◌∙◌}
use Rattle.clap.specs.declared.builder.arg.Arg.{Arg}
use Rattle.command_line.proofs.OptionLemmas.{rule_is}
use Rattle.command_line.proofs.options.option.Goals as goal

pub returns-clause-rule : goal.returns-clause-rule
returns-clause-rule c = rule_is c.args.required c.args.name c.new.result c.long.result c.required.result c.new.ensures.rule c.long.ensures c.required.ensures

pub returns-clause-local : goal.returns-clause-local
returns-clause-local c = ap (λ (a : Arg). a.global) c.required.ensures ∙ ap (λ (a : Arg). a.global) c.long.ensures ∙ c.new.ensures.optional.1
