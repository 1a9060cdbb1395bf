use Rattle.season_restoring.proofs.OneLeague.{Parts, is_league_of}
use Rattle.season_restoring.proofs.leagues.league_of.Goals as goal

pub restore-requires : goal.restore-requires
restore-requires c =
    let parts : Parts = record { kind = c.args.kind; start = c.args.start; creator = c.args.creator; order = c.args.order.now; code = c.args.code.now; name = c.args.name.now } in
    is_league_of c.args.stored.now c.requires.rise c.requires.lawful c.args.number parts c.requires.told
    c.in_ok-copy.field-0 c.in_ok-copy-2.field-0 c.in_ok-members.members.items c.in_ok-copy-3.field-0 c.in_ok-copy.ensures c.in_ok-copy-2.ensures c.in_ok-members.ensures c.in_ok-copy-3.ensures
