use Rattle.command_line.specs.Options.{flag}
use Rattle.command_line.proofs.OptionLemmas.{one_beside}
use Rattle.command_line.proofs.options.with_flag.Goals as goal

pub returns : goal.returns
returns c = one_beside c.args.command c.flag.result (flag c.args.name.now) c.arg.result c.requires c.flag.ensures.rule c.flag.ensures.local c.arg.ensures
