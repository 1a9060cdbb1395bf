use Rattle.std.proofs.Common.{◌≡◌, ◌++◌, take, map}
use Rattle.rule_book.specs.MatchFacts.{players_in}
use Rattle.season_records.specs.declared.slot.Slot.TheVariants as slot
use Rattle.season_records.specs.Touched.{players_left}
use Rattle.record_changes.proofs.listing.add_left.Given as goal

abbrev pub invariant-loop-player : goal.invariant-loop-player
invariant-loop-player l = l.slots.items ≡ l.fn.slots.items ++ map (slot.Line l.fn.fixture) (players_left (take l.player-index l.fn.players) (players_in l.fn.lines))
