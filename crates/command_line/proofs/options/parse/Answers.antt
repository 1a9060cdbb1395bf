use Rattle.std.proofs.Common.{ap, map, sym, ◌∙◌}
use Rattle.clap.specs.Kinds.{Kinds}
use Rattle.clap.specs.Words.{App, app_of, is_simple, subcommand_of}
use Rattle.command_line.specs.Options.{season_host, unless_faulty}
use Rattle.command_line.proofs.OptionLemmas.{faulty, host_is_plain, host_is_simple, no_fault, some_fault}
use Rattle.command_line.proofs.options.parse.Goals as goal

pub returns-in-Ok : goal.returns-in-Ok
returns-in-Ok c =
    let app = c.in_ok-command.ensures.app in
    let line = map (λ w. w.now) c.args.words.now in
    let sound = no_fault (app_of c.in_ok-command.command) season_host line app host_is_simple c.in-Ok.ensures.kinds in
    let rows = (c.in-Ok.ensures.matches (ap is_simple app ∙ host_is_plain)).1 ∙ ap (λ (a : App). subcommand_of a line) app in
    ap (λ (kinds : Kinds). unless_faulty kinds (subcommand_of season_host line)) sound ∙ sym rows

pub returns : goal.returns
returns c =
    let app = c.in_ok-command.ensures.app in
    let line = map (λ w. w.now) c.args.words.now in
    λ _. faulty _ _ (some_fault (app_of c.in_ok-command.command) season_host line c.in-Err.error app host_is_simple c.in-Err.ensures.kinds
    (λ e. c.in_default.not-OutOfMemory (c.kind.ensures ∙ e)))
