use Rattle.std.proofs.Common.{◌+◌, subst, sym, ◌∙◌}
use Rattle.rule_book.specs.Players.{ArePlayers}
use Rattle.season_book.specs.LeagueViews.{side_in}
use Rattle.season_views.specs.Cells.{books_seen}
use Rattle.season_views.proofs.Counted.{locked_read}
use Rattle.season_views.proofs.CupRounds.{locked_shown, open_shown, winners_are}
use Rattle.season_views.proofs.cups.winners_shown.Goals as goal

pub returns-else-is_played-clause-value : goal.returns-else-is_played-clause-value
returns-else-is_played-clause-value g c entries are =
    open_shown c.args.bracket.now (side_in c.args.seen.now.facts entries) c.args.seen.now.facts.calendar.locked (c.args.round + 1) (sym c.is_played.ensures.value ∙ c.if-is_played.false)

pub returns-in_ok-winners_held-clause-value : goal.returns-in_ok-winners_held-clause-value
returns-in_ok-winners_held-clause-value g c entries are =
    let facts = c.args.seen.now.facts in
    let managers = c.args.seen.now.managers in
    let leagues = c.requires.kept.0 in
    let cups = c.requires.kept.1 in
    let b = c.args.bracket.now in
    let lawful : ArePlayers facts.players = subst ArePlayers c.players.ensures c.len-count.ensures.lawful in
    let by = c.is_played.ensures.gameweek c.if-is_played.true in
    locked_shown b (side_in facts entries) facts.calendar.locked (c.args.round + 1) _ (sym c.is_played.ensures.value ∙ c.if-is_played.true)
    (c.in_ok-winners_held.ensures.value (books_seen facts managers leagues cups) c.requires.kept.3.evaluated c.requires.kept.2 by
    ∙ winners_are facts managers leagues cups entries lawful c.rows_tell.ensures c.requires.profile are b c.args.round c.is_played.ensures.first by)

pub returns-in_ok-winners_held-clause-cost : goal.returns-in_ok-winners_held-clause-cost
returns-in_ok-winners_held-clause-cost g c entries are =
    let side = side_in c.args.seen.now.facts entries in
    locked_read c.args.bracket.now side c.args.seen.now.facts.calendar.locked (c.args.round + 1) _ _ (sym c.is_played.ensures.value ∙ c.if-is_played.true)
    (c.rounds_follow.ensures.count c.args.bracket.now side (c.args.round + 1)) c.winners_held.ensures.cost

pub returns-in_err-winners_held-clause-cost : goal.returns-in_err-winners_held-clause-cost
returns-in_err-winners_held-clause-cost g c entries are =
    let side = side_in c.args.seen.now.facts entries in
    locked_read c.args.bracket.now side c.args.seen.now.facts.calendar.locked (c.args.round + 1) _ _ (sym c.is_played.ensures.value ∙ c.if-is_played.true)
    (c.rounds_follow.ensures.count c.args.bracket.now side (c.args.round + 1)) c.winners_held.ensures.cost
