use Rattle.std.proofs.Common.{◌≡◌, ◌++◌, take, flat_map}
use Rattle.std.specs.List.{All}
use Rattle.record_fields.specs.Lists.{club_bytes}
use Rattle.record_fields.specs.Ranges.{IsClubNamed}
use Rattle.record_fields.proofs.lists.append_clubs.Given as goal

abbrev pub invariant-loop-club : goal.invariant-loop-club
invariant-loop-club l = (l.bytes.items ≡ l.fn.bytes.items ++ flat_map club_bytes (take l.club-index l.fn.clubs)) × All IsClubNamed (take l.club-index l.fn.clubs)
