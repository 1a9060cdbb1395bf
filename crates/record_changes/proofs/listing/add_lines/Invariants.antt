use Rattle.std.proofs.Common.{◌≡◌, ◌++◌, take, map}
use Rattle.rule_book.specs.MatchFacts.{players_in}
use Rattle.season_records.specs.declared.slot.Slot.TheVariants as slot
use Rattle.record_changes.proofs.listing.add_lines.Given as goal

abbrev pub invariant-loop-line : goal.invariant-loop-line
invariant-loop-line l = l.slots.items ≡ l.fn.slots.items ++ map (slot.Line l.fn.fixture) (players_in (take l.line-index l.fn.lines))
