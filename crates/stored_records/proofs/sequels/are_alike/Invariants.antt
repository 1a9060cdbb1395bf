use Rattle.std.proofs.Common.{◌≡◌, drop}
use Rattle.stored_records.specs.Sequels.{are_alike, holdings_told}
use Rattle.stored_records.proofs.sequels.are_alike.Given as goal

abbrev pub invariant-players : goal.invariant-players
invariant-players l =
    are_alike (holdings_told l.picks) (holdings_told l.others) (holdings_told (drop l.pick-index l.players))
    ≡ are_alike (holdings_told l.picks) (holdings_told l.others) (holdings_told l.players)
