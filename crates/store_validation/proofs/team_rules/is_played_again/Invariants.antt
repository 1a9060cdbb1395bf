use Rattle.std.proofs.Common.{◌≡◌, ◌-◌, None}
use Rattle.fpl_base.specs.Keeping.{map_of}
use Rattle.rule_book.specs.HistoryTransfers.{chip_among}
use Rattle.stored_records.specs.EntryTold.{chip_told}
use Rattle.store_validation.proofs.team_rules.is_played_again.Given as goal

abbrev pub invariant-loop-w : goal.invariant-loop-w
invariant-loop-w l = chip_among (chip_told (map_of l.stored) l.entry) l.chip l.from (l.w - l.from) ≡ None
