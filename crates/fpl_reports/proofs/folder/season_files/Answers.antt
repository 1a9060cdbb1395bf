use Rattle.std.proofs.lemmas.List.Elements.{All-cons}
use Rattle.season_book.specs.Commands.{IsCommand}
use Rattle.fpl_reports.proofs.FolderFacts.{orders_lawful, season_lawful}
use Rattle.fpl_reports.proofs.folder.season_files.Goals as goal

pub returns-in-Ok-clause-lawful : goal.returns-in-Ok-clause-lawful
returns-in-Ok-clause-lawful c =
    let clubs = c.in_ok-clubs.ensures.rows in
    let fixtures = c.in_ok-fixtures.ensures.rows in
    let season = season_lawful c.args.clubs.now c.args.fixtures.now c.in_ok-clubs.clubs.items c.in_ok-fixtures.fixtures.items c.args.split c.args.profile c.in_ok-fixtures.deadlines clubs.0 clubs.1 fixtures.0 fixtures.1 in
    let others = orders_lawful c.in_ok-players.players.items c.args.fixtures.now c.in_ok-fixtures.fixtures.items fixtures.0 in
    rw (c.in-Ok.ensures, c.of.ensures) (All-cons IsCommand _ _ season others)
