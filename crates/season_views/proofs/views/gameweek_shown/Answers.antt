use Rattle.season_views.specs.Cells.{books_seen}
use Rattle.season_views.proofs.Gameweeks.{gameweek_is_live, gameweek_is_shown}
use Rattle.season_views.proofs.views.gameweek_shown.Goals as goal

pub returns-clause-shown : goal.returns-clause-shown
returns-clause-shown g c =
    let facts = c.args.seen.now.facts in
    let managers = c.requires.0 in
    let leagues = c.requires.1 in
    let cups = c.requires.2 in
    let live = gameweek_is_live facts managers leagues cups c.args.player c.args.gameweek c.in_ok-locked.locked c.in_ok-there.there.now c.in_ok-there.ensures c.in_ok-locked.ensures in
    gameweek_is_shown facts c.args.player c.args.gameweek c.in_ok-locked.locked c.in_ok-there.there.now c.gameweek_held-figures.result
    c.in_ok-there.ensures c.in_ok-locked.ensures (c.gameweek_held-figures.ensures.value (books_seen facts managers leagues cups) c.requires.3.evaluated live)
