use Rattle.season_restoring.proofs.LastLoop.{all_lasts, last_at, no_lasts, one_more}
use Rattle.fpl_base.specs.Keeping.{map_of}
use Rattle.std.proofs.Common.{take}
use Rattle.season_restoring.proofs.last_commands.lasts_of.Goals as goal

pub loop-row-init : goal.loop-row-init
loop-row-init c = no_lasts c.new-lasts.result c.new-lasts.ensures

pub put_last-requires : goal.put_last-requires
put_last-requires c =
    last_at c.args.rows.now c.of_kind-row-items.result.now c.requires.lawful c.requires.rise c.of_kind-row-items.ensures.kept c.loop-row.row-index c.row-item.result c.loop-row-test.true c.row-item.is

pub loop-row-preserved : goal.loop-row-preserved
loop-row-preserved c =
    one_more c.args.rows.now c.of_kind-row-items.result.now c.requires.lawful c.requires.rise c.of_kind-row-items.ensures.kept c.loop-row.row-index c.row-item.result c.put_last.new.lasts c.loop-row-test.true c.row-item.is
    (c.in_ok-put_last.ensures (map_of (take c.loop-row.row-index c.of_kind-row-items.result.now)) c.loop-row.invariant)

pub returns : goal.returns
returns c =
    let are = all_lasts c.args.rows.now c.of_kind-row-items.result.now c.requires.lawful c.requires.rise c.of_kind-row-items.ensures.kept c.loop-row.row-index c.loop-row.lasts c.loop-row-test.false c.loop-row.invariant in
    record {
      told = are.told;
      sorted = are.sorted;
      makes = λ k last found. (are.each k last found).makes;
      commands = λ k last found. (are.each k last found).read;
    }
