use Rattle.std.proofs.Common.{◌≡◌, ◌≤◌, ◌+◌, ◌*◌, length, arith, rules}
use Rattle.season_views.proofs.Written.{retold}
use Rattle.season_book.specs.EntryRows.{entry_row_data, entry_row_of}
use Rattle.entry_windows.proofs.Ranges.{none_locked}
use Rattle.entry_windows.proofs.ReadsWithin.{no_gameweek, rows_within}
use Rattle.entry_windows.proofs.history.write_current.Goals as goal

pub returns-in-None-clause-value : goal.returns-in-None-clause-value
returns-in-None-clause-value g c = λ entries are row there start.
    let facts = c.args.seen.now.facts in
    let first : 1 ≤ c.args.first = search rules in
    let few : c.locked.result ≤ 38 = search rules in
    let none : c.locked.result ≡ 0 = no_gameweek c.new.result c.locked.result c.in-None.is c.new.ensures.there.1 few in
    let locked : facts.calendar.locked ≡ 0 = search rules in
    retold (none_locked (λ k. entry_row_data (entry_row_of facts entries (c.args.entry, row) k)) facts row.history c.args.first start first locked) c.write_empty.ensures

pub returns-in-Some-clause-cost : goal.returns-in-Some-clause-cost
returns-in-Some-clause-cost g c =
    let seen = c.args.seen.now in
    let locked = seen.facts.calendar.locked in
    let many = length seen.managers.managers in
    let last : c.in-Some.last ≡ locked = search rules in
    let reads : (many + 1) * (2 * c.in-Some.last) + 18 * c.in-Some.last ≡ (many + 1) * (2 * locked) + 18 * locked = λ i. (many + 1) * (2 * last i) + 18 * last i in
    let within = rows_within many locked in
    omega (arith, c.write_rows.ensures.cost, reads, within)
