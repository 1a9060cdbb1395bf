use Rattle.std.proofs.Common.{◌≡◌, drop}
use Rattle.rule_book.specs.EntryRecords.{price_among}
use Rattle.stored_records.specs.Sequels.{holdings_told}
use Rattle.stored_records.proofs.sequels.price_among.Given as goal

abbrev pub invariant-picks : goal.invariant-picks
invariant-picks l = price_among l.player (holdings_told (drop l.pick-index l.picks)) ≡ price_among l.player (holdings_told l.picks)
