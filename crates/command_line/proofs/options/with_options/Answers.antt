use Rattle.command_line.proofs.OptionLemmas.{one_more}
use Rattle.command_line.proofs.options.with_options.Goals as goal

pub loop-name-preserved : goal.loop-name-preserved
loop-name-preserved c = one_more _ _ _ _ _ _ _ _ c.loop-name-test.true c.loop-name.invariant c.in_ok-command.ensures c.option.ensures.rule c.option.ensures.local
