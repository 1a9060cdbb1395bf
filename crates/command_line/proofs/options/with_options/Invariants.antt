use Rattle.std.proofs.Common.{map, take}
use Rattle.clap.specs.Words.{app_of}
use Rattle.command_line.specs.Options.{IsCommand, with_options}
use Rattle.command_line.proofs.options.with_options.Given as goal

abbrev pub invariant-loop-name : goal.invariant-loop-name
invariant-loop-name l = IsCommand (with_options (app_of l.initial.command) l.required (map (λ n. n.now) (take l.name-index l.names))) l.command
