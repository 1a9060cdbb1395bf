use Rattle.std.proofs.Common.{subst}
use Rattle.rule_book.specs.Players.{ArePlayers}
use Rattle.season_entries.proofs.Amended.{amend_granted, amend_judged}
use Rattle.season_entries.proofs.players.judge_amend.Goals as goal

pub returns-clause-books : goal.returns-clause-books
returns-clause-books c =
    amend_judged c.args.season.now c.args.managers.now.managers c.args.number c.args.position c.judge_amend_by_rows.result
    (subst ArePlayers c.players.ensures c.len-count.ensures.lawful) c.judge_amend_by_rows.ensures

pub returns-clause-granted : goal.returns-clause-granted
returns-clause-granted c =
    amend_granted c.args.season.now c.args.managers.now.managers c.args.number c.args.position c.judge_amend_by_rows.result
    (subst ArePlayers c.players.ensures c.len-count.ensures.lawful) c.judge_amend_by_rows.ensures
