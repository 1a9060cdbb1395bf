use Rattle.season_book.specs.Book.{caller_number}
use Rattle.season_competitions.proofs.LeagueFacts.{league_granted}
use Rattle.season_competitions.proofs.leagues.judge_league.Goals as goal

pub returns-clause-granted : goal.returns-clause-granted
returns-clause-granted c =
    league_granted c.args.season.now c.args.managers.now.managers c.args.leagues.now (caller_number c.args.caller.now) c.args.command.now c.judge_by_rows.result c.judge_by_rows.ensures
