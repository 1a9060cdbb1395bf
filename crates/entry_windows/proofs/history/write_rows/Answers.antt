use Rattle.std.proofs.Common.{◌≡◌, ◌<◌, ◌+◌, ◌-◌, ◌∙◌, suc, arith, rules, ap, subst}
use Rattle.std.specs.Prelude.{IfSome}
use Rattle.json_members.specs.Tokens.{tokens_of}
use Rattle.season_views.proofs.Told.{begun_by}
use Rattle.season_book.specs.EntryRows.{entry_row_data, entry_row_of}
use Rattle.entry_windows.proofs.Compared.{race_less}
use Rattle.season_views.proofs.Written.{retold}
use Rattle.entry_windows.proofs.Ended.{closed}
use Rattle.entry_windows.proofs.Ranges.{none_left, row_written}
use Rattle.entry_windows.proofs.history.write_rows.Goals as goal

pub loop-passed-preserved : goal.loop-passed-preserved
loop-passed-preserved g c =
    let facts = c.args.seen.now.facts in
    let e = c.args.entry in
    let last = c.args.last in
    let passed = c.loop-passed.passed in
    let inv = c.loop-passed.invariant in
    let gw = c.unwrap.result in
    let next : gw ≡ passed + 1 = subst (λ o. IfSome o (λ n. n ≡ passed + 1)) c.unwrap.ensures c.new.ensures.value in
    let low : passed < last = search rules in
    let shorter : last - passed ≡ suc (last - (passed + 1)) = omega (arith, low) in
    record {
      tokens = λ entries are row there start.
          let begun = begun_by row.history c.args.first gw start (omega (arith, next, inv.from)) in
          let race = race_less facts entries (e, row) gw last c.race-race.result (omega (arith, next, low)) (c.race-race.ensures.value entries are row there) in
          row_written (λ k. entry_row_data (entry_row_of facts entries (e, row) k)) (passed + 1) (last - passed) (last - (passed + 1)) shorter
          (retold (ap (λ k. tokens_of (entry_row_data (entry_row_of facts entries (e, row) k))) next) (c.in_ok-write_row_at.ensures.value entries are row there begun race))
          (inv.tokens entries are row there start);
      before = λ entries are row there start.
          let begun = begun_by row.history c.args.first gw start (omega (arith, next, inv.from)) in
          let race = race_less facts entries (e, row) gw last c.race-race.result (omega (arith, next, low)) (c.race-race.ensures.value entries are row there) in
          (c.in_ok-write_row_at.ensures.value entries are row there begun race).before ∙ inv.before entries are row there start;
      from = omega (arith, inv.from);
      to = omega (arith, low, inv.to);
      cost = let before = inv.cost in let one = c.write_row_at.ensures.cost in omega (arith, before, one, inv.from);
    }

pub returns-clause-value : goal.returns-clause-value
returns-clause-value g c = λ entries are row there start.
    let last = c.args.last in
    let passed = c.loop-passed.passed in
    let inv = c.loop-passed.invariant in
    let over : last - passed ≡ 0 = search rules in
    closed _ (none_left (λ k. entry_row_data (entry_row_of c.args.seen.now.facts entries (c.args.entry, row) k)) (passed + 1) (last - passed) over) c.end_array.ensures
    (inv.tokens entries are row there start) (inv.before entries are row there start)

pub returns-in_err-write_row_at-clause-value : goal.returns-in_err-write_row_at-clause-value
returns-in_err-write_row_at-clause-value g c = λ entries are row there start.
    let facts = c.args.seen.now.facts in
    let e = c.args.entry in
    let last = c.args.last in
    let passed = c.loop-passed.passed in
    let inv = c.loop-passed.invariant in
    let gw = c.unwrap.result in
    let next : gw ≡ passed + 1 = subst (λ o. IfSome o (λ n. n ≡ passed + 1)) c.unwrap.ensures c.new.ensures.value in
    let low : passed < last = search rules in
    let begun = begun_by row.history c.args.first gw start (omega (arith, next, inv.from)) in
    let race = race_less facts entries (e, row) gw last c.race-race.result (omega (arith, next, low)) (c.race-race.ensures.value entries are row there) in
    record {
      tokens = search rules;
      before = (c.in_err-write_row_at.ensures.value entries are row there begun race).before ∙ inv.before entries are row there start;
    }
