use Rattle.std.proofs.Common.{◌∙◌, subst}
use Rattle.std.specs.Prelude.{IfOk}
use Rattle.clap.specs.Words.{App}
use Rattle.command_line.specs.Options.{IsCommand, draft, events}
use Rattle.command_line.proofs.OptionLemmas.{below}
use Rattle.command_line.proofs.options.with_further.Goals as goal

pub returns : goal.returns
returns c =
    let two = c.in_ok-command-2.ensures.app ∙ below events.top c.in_ok-command.ensures.app in
    subst (λ (a : App). IfOk c.with_command-3.result (IsCommand a)) (below draft.top two) c.with_command-3.ensures
