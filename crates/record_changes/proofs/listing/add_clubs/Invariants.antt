use Rattle.std.proofs.Common.{◌≡◌, ◌++◌, take, map}
use Rattle.season_book.specs.Commands.{club_ids}
use Rattle.season_records.specs.declared.slot.Slot.TheVariants as slot
use Rattle.record_changes.proofs.listing.add_clubs.Given as goal

abbrev pub invariant-loop-club : goal.invariant-loop-club
invariant-loop-club l = l.slots.items ≡ l.fn.slots.items ++ map slot.Club (club_ids (take l.club-index l.fn.clubs))
