use Rattle.std.proofs.Common.{◌≤◌, ◌∙◌, All, ap, length, map, refl, subst, sym}
use Rattle.json_members.specs.Tokens.{tokens_of}
use Rattle.rule_book.specs.FigureRange.{IsWithin}
use Rattle.rule_book.specs.Figures.{IsLine}
use Rattle.rule_book.specs.Players.{ArePlayers}
use Rattle.rule_book.specs.Ranks.{AllDiffer}
use Rattle.squad_rules.specs.Elevens.{Row}
use Rattle.season_views.proofs.Written.{retold}
use Rattle.season_book.specs.TeamOfTheWeek.{team_of_the_week}
use Rattle.live_windows.specs.declared.sums.LiveLine.{LiveLine}
use Rattle.live_windows.proofs.PlayersAre.{his_few, players_are}
use Rattle.live_windows.proofs.live.write_locked.Goals as goal

pub team_of-requires-clause-few : goal.team_of-requires-clause-few
team_of-requires-clause-few g c = subst (λ rows. length rows ≤ 1200) (sym c.deref.ensures.value) c.in_ok-rows.ensures.few

pub team_of-requires-clause-differ : goal.team_of-requires-clause-differ
team_of-requires-clause-differ g c = subst (λ rows. AllDiffer (map (λ (row : Row). row.0) rows)) (sym c.deref.ensures.value) c.in_ok-rows.ensures.differ

pub team_of-requires-clause-near : goal.team_of-requires-clause-near
team_of-requires-clause-near g c = subst (All (λ (row : Row). IsWithin 1000000 row.2)) (sym c.deref.ensures.value) c.in_ok-rows.ensures.near

pub write_players-requires-clause-few : goal.write_players-requires-clause-few
write_players-requires-clause-few g c =
    let season = c.requires.kept.kept.season in
    his_few c.args.seen.now.facts c.args.gameweek c.deref-2.result.now (c.deref-2.ensures.value ∙ c.in_ok-lines.ensures.value) season.ascending (season.calendar.at_most_20_each c.args.gameweek)

pub write_players-requires-clause-ranges : goal.write_players-requires-clause-ranges
write_players-requires-clause-ranges g c = subst (All (λ (own : LiveLine). IsLine own.line)) (sym c.deref-2.ensures.value) c.in_ok-lines.ensures.ranges

pub returns-clause-value : goal.returns-clause-value
returns-clause-value g c =
    let facts = c.args.seen.now.facts in
    let season = c.requires.kept.kept.season in
    let lawful : ArePlayers facts.players = subst ArePlayers c.players.ensures c.len-count.ensures.lawful in
    let lines_are = c.deref-2.ensures.value ∙ c.in_ok-lines.ensures.value in
    let team_is = c.deref-3.ensures.value ∙ c.in_ok-team.ensures
    ∙ ap (λ rows. map (λ (row : Row). row.0) (team_of_the_week rows)) (c.deref.ensures.value ∙ c.in_ok-rows.ensures.value) in
    let wrote = retold (ap tokens_of (players_are facts c.args.gameweek c.deref-2.result.now lines_are season.ascending c.deref-3.result.now team_is lawful c.requires.locked)) c.in_ok-write_players.ensures in
    (refl, wrote.tokens, wrote.before)
