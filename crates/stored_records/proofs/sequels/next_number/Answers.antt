use Rattle.std.proofs.Common.{arith}
use Rattle.fpl_base.specs.Keeping.{map_of}
use Rattle.stored_records.specs.EntryTold.{sale_told}
use Rattle.stored_records.proofs.Numbers.{since_end, since_next_of, since_none}
use Rattle.stored_records.proofs.sequels.next_number.Goals as goal

pub returns-then-from-lt-ALL_NUMBERS-clause-next : goal.returns-then-from-lt-ALL_NUMBERS-clause-next
returns-then-from-lt-ALL_NUMBERS-clause-next c =
    since_next_of (map_of c.args.stored.now) c.args.entry c.args.gameweek c.args.from c.next_number.result c.next_number.ensures.range
    c.next_number.ensures.next

pub returns-then-from-lt-ALL_NUMBERS-clause-end : goal.returns-then-from-lt-ALL_NUMBERS-clause-end
returns-then-from-lt-ALL_NUMBERS-clause-end c = λ none.
    since_none (map_of c.args.stored.now) c.args.entry c.args.gameweek c.args.from (c.next_number.ensures.end none)

pub returns-else-from-lt-ALL_NUMBERS-clause-end : goal.returns-else-from-lt-ALL_NUMBERS-clause-end
returns-else-from-lt-ALL_NUMBERS-clause-end c = λ none. since_end (sale_told (map_of c.args.stored.now) c.args.entry c.args.gameweek) c.args.from (omega arith)
