use Rattle.season_entries.specs.Known.{is_issued_by, is_registered_by}
use Rattle.season_competitions.proofs.CupFacts.{cup_granted}
use Rattle.season_competitions.proofs.cups.judge_cup.Goals as goal

pub returns-clause-granted : goal.returns-clause-granted
returns-clause-granted c =
    let managers = c.args.managers.now.managers in
    cup_granted c.args.season.now (is_issued_by managers) (is_registered_by managers) c.args.cups.now c.args.command.now c.judge_by_rows.result c.judge_by_rows.ensures
