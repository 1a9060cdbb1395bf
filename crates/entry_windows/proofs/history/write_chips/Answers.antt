use Rattle.std.proofs.Common.{◌≡◌, ◌<◌, ◌+◌, ◌-◌, ◌∙◌, [], suc, arith, rules, ap, subst, if◌then◌else◌}
use Rattle.std.specs.Prelude.{IfSome, is_some}
use Rattle.json_members.specs.Tokens.{tokens_of}
use Rattle.rule_book.specs.History.{chip_at}
use Rattle.season_views.proofs.Told.{begun_by}
use Rattle.season_book.specs.ChipNames.{chip_name}
use Rattle.season_book.specs.HistoryWindow.{chip_row}
use Rattle.season_views.proofs.Written.{retold}
use Rattle.entry_windows.proofs.Ended.{closed}
use Rattle.entry_windows.proofs.Ranges.{kept_written, none_kept}
use Rattle.entry_windows.proofs.history.write_chips.Goals as goal

pub loop-passed-preserved : goal.loop-passed-preserved
loop-passed-preserved g c =
    let locked = c.args.seen.now.facts.calendar.locked in
    let passed = c.loop-passed.passed in
    let inv = c.loop-passed.invariant in
    let gw = c.unwrap.result in
    let next : gw ≡ passed + 1 = subst (λ o. IfSome o (λ n. n ≡ passed + 1)) c.unwrap.ensures c.new.ensures.value in
    let low : passed < locked = search rules in
    let shorter : locked - passed ≡ suc (locked - (passed + 1)) = omega (arith, low) in
    record {
      tokens = λ h stands start.
          let begun = begun_by h c.args.first gw start (omega (arith, next, inv.from)) in
          kept_written (chip_row h) (λ k. is_some (chip_name (chip_at h k))) (passed + 1) (locked - passed) (locked - (passed + 1)) shorter
          (retold (ap (λ k. if is_some (chip_name (chip_at h k)) then tokens_of (chip_row h k) else []) next) (c.in_ok-write_if_played.ensures.value h stands begun))
          (inv.tokens h stands start);
      before = λ h stands start.
          (c.in_ok-write_if_played.ensures.value h stands (begun_by h c.args.first gw start (omega (arith, next, inv.from)))).before ∙ inv.before h stands start;
      from = omega (arith, inv.from);
      to = omega (arith, low, inv.to);
      cost = omega (arith, inv.cost, inv.from, c.write_if_played.ensures.cost);
    }

pub returns-clause-value : goal.returns-clause-value
returns-clause-value g c = λ h stands start.
    let locked = c.args.seen.now.facts.calendar.locked in
    let passed = c.loop-passed.passed in
    let inv = c.loop-passed.invariant in
    let over : locked - passed ≡ 0 = search rules in
    closed _ (none_kept (chip_row h) (λ k. is_some (chip_name (chip_at h k))) (passed + 1) (locked - passed) over) c.end_array.ensures (inv.tokens h stands start) (inv.before h stands start)
