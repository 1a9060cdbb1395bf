use Rattle.std.proofs.Common.{map}
use Rattle.command_line.specs.Options.{command_of}
use Rattle.command_line.proofs.OptionLemmas.{one_below}
use Rattle.command_line.proofs.options.with_command.Goals as goal

pub returns : goal.returns
returns c =
    let other = command_of c.args.name.now (map (λ n. n.now) c.args.wanted.now) (map (λ n. n.now) c.args.offered.now) in
    one_below other c.args.command c.in_ok-other.other c.subcommand.result c.requires c.in_ok-other.ensures c.subcommand.ensures
