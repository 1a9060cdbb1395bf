use Rattle.std.proofs.Common.{◌≡◌, ◌+◌, ap}
use Rattle.fpl_reports.proofs.ReportFacts.{slots_more}
use Rattle.fpl_reports.proofs.entry_report.put_slots.Goals as goal

pub loop-player-preserved : goal.loop-player-preserved
loop-player-preserved c =
    let at = c.loop-player in
    let slot : at.slot + 1 ≡ at.player-index + 1 = ap (λ n. n + 1) at.invariant.slot in
    record {
      slot = slot;
      put = slots_more c.args.entry.now c.args.players.now at.player-index c.player-item.result (at.slot + 1) c.args.report at.longer c.in_ok-longer.longer c.loop-player-test.true c.player-item.is slot at.invariant.put c.in_ok-longer.ensures;
    }
