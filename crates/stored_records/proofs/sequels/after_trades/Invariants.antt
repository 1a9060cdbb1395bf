use Rattle.std.proofs.Common.{◌≤◌, ◌*◌}
use Rattle.fpl_base.specs.Keeping.{map_of}
use Rattle.stored_records.specs.EntryTold.{sale_told}
use Rattle.stored_records.specs.Sequels.{all_numbers, every_sale_told, sales_since}
use Rattle.stored_records.proofs.Trading.{IsPartWay}
use Rattle.stored_records.proofs.sequels.after_trades.Given as goal

abbrev pub invariant-numbers : goal.invariant-numbers
invariant-numbers l =
    (l.counter ≤ l.from) × (l.from ≤ all_numbers) × (l.traded.paid ≤ 10000000 * l.from) × (l.traded.earned ≤ 10000000 * l.from)
    × IsPartWay (every_sale_told (map_of l.stored) l.entry l.gameweek) (sales_since (sale_told (map_of l.stored) l.entry l.gameweek) l.from) l.fn.picks l.traded
