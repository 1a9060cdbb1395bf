use Rattle.record_fields.specs.Lists.{club_bytes}
use Rattle.record_fields.specs.Ranges.{IsClubNamed}
use Rattle.record_fields.proofs.Each.{all_of_them, one_more_written}
use Rattle.record_fields.proofs.lists.append_clubs.Goals as goal

pub loop-club-preserved : goal.loop-club-preserved
loop-club-preserved c =
    one_more_written IsClubNamed club_bytes c.args.clubs.now c.loop-club.club-index c.club-item.result c.args.bytes.now.items c.loop-club.bytes.items _ c.loop-club-test.true c.club-item.is c.loop-club.invariant c.in_ok-append_club.ensures.written c.in_ok-append_club.ensures.fits

pub returns-clause-fits : goal.returns-clause-fits
returns-clause-fits c = all_of_them IsClubNamed c.args.clubs.now c.loop-club.club-index c.loop-club-test.false c.loop-club.invariant.1
