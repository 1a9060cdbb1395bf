use Rattle.std.proofs.Common.{◌≡◌, None, rules, subst, ◌∙◌}
use Rattle.rule_book.specs.Players.{ArePlayers}
use Rattle.season_views.proofs.EntryRows.{issued_shown, not_issued}
use Rattle.season_views.proofs.entries.entry_gameweek.Goals as goal

pub returns-in_err-there-clause-value : goal.returns-in_err-there-clause-value
returns-in_err-there-clause-value g c entries are =
    let none : c.from_residual.result ≡ None = search rules in
    none ∙ not_issued c.args.seen.now.facts c.args.seen.now.managers.managers entries c.args.entry c.args.gameweek are c.in_err-there.ensures

pub returns-clause-value : goal.returns-clause-value
returns-clause-value g c entries are =
    let lawful : ArePlayers c.args.seen.now.facts.players = subst ArePlayers c.players.ensures c.len-count.ensures.lawful in
    issued_shown c.args.seen.now.facts c.args.seen.now.managers entries c.args.entry c.in_ok-there.there c.args.gameweek c.in_ok-locked.locked c.gameweek_of.result
    lawful are c.in_ok-there.ensures c.in_ok-locked.ensures c.gameweek_of.ensures.value
