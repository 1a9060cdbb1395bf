use Rattle.record_fields.specs.Lists.{swap_bytes}
use Rattle.record_fields.specs.Ranges.{IsSwap}
use Rattle.record_fields.proofs.Each.{all_of_them, one_more_written}
use Rattle.record_fields.proofs.lists.append_swaps.Goals as goal

pub loop-swap-preserved : goal.loop-swap-preserved
loop-swap-preserved c =
    one_more_written IsSwap swap_bytes c.args.swaps.now c.loop-swap.swap-index c.swap-item.result c.args.bytes.now.items c.loop-swap.bytes.items _ c.loop-swap-test.true c.swap-item.is c.loop-swap.invariant c.in_ok-append_swap.ensures.written c.in_ok-append_swap.ensures.fits

pub returns-clause-fits : goal.returns-clause-fits
returns-clause-fits c = all_of_them IsSwap c.args.swaps.now c.loop-swap.swap-index c.loop-swap-test.false c.loop-swap.invariant.1
