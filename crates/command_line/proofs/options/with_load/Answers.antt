use Rattle.std.proofs.Common.{◌∙◌, codes, ap, subst}
use Rattle.std.specs.Prelude.{IfOk}
use Rattle.clap.specs.Words.{App, with_rule}
use Rattle.command_line.specs.Options.{IsCommand, flag, load}
use Rattle.command_line.proofs.OptionLemmas.{one_below}
use Rattle.command_line.proofs.options.with_load.Goals as goal

pub returns : goal.returns
returns c =
    let is : IsCommand load c.in_ok-other.other = record {
      app = c.in_ok-other.ensures.app ∙ ap (λ (a : App). with_rule a (flag (codes "more"))) c.in_ok-bare.ensures.app;
      local = c.in_ok-other.ensures.local;
    } in
    one_below load c.args.command c.in_ok-other.other c.subcommand.result c.requires is c.subcommand.ensures
