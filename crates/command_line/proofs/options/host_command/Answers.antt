use Rattle.std.proofs.Common.{◌∙◌, ap, subst}
use Rattle.std.specs.Prelude.{IfOk}
use Rattle.clap.specs.Words.{App}
use Rattle.command_line.specs.Options.{IsCommand, generate, load, pipe, report, score, serve, with_further}
use Rattle.command_line.proofs.OptionLemmas.{below}
use Rattle.command_line.proofs.options.host_command.Goals as goal

pub returns : goal.returns
returns c =
    let pipe_too = c.in_ok-command-2.ensures.app ∙ below pipe.top (c.in_ok-command.ensures.app ∙ below score.top c.bare_command.ensures.app) in
    let load_too = c.in_ok-command-4.ensures.app ∙ below load.top (c.in_ok-command-3.ensures.app ∙ below serve.top pipe_too) in
    let report_too = c.in_ok-command-5.ensures.app ∙ below report.top load_too in
    let all = c.in_ok-command-6.ensures.app ∙ below generate.top report_too in
    subst (λ (a : App). IfOk c.with_further.result (IsCommand a)) (ap with_further all) c.with_further.ensures
