use Rattle.std.proofs.Common.{[], Some, ap, subst, sym, if◌then◌else◌}
use Rattle.std.specs.Prelude.{is_some}
use Rattle.json_members.specs.Tokens.{tokens_of}
use Rattle.rule_book.specs.HistoryTeam.{TeamTold, is_begun}
use Rattle.rule_book.specs.PlayerFigures.{position_in}
use Rattle.season_views.proofs.Told.{not_both}
use Rattle.season_book.specs.ChipNames.{chip_name}
use Rattle.season_book.specs.HistoryWindow.{chip_row}
use Rattle.season_views.proofs.Written.{retold}
use Rattle.entry_windows.proofs.history.write_if_played.Goals as goal

pub returns-in-Some-clause-value : goal.returns-in-Some-clause-value
returns-in-Some-clause-value g c = λ h stands begun.
    let gw = c.args.gameweek in
    let position = position_in c.args.seen.now.facts.players in
    let told : TeamTold position h gw (Some c.in-Some.team) = subst (TeamTold position h gw) c.in-Some.is (c.team_at.ensures.history position h stands) in
    let chip = told.1.chip in
    retold (ap (λ k. if is_some (chip_name k) then tokens_of (chip_row h gw) else []) chip) (c.write_chip_row.ensures h (sym chip))

pub returns-in-None-clause-value : goal.returns-in-None-clause-value
returns-in-None-clause-value g c = λ h stands begun.
    let gw = c.args.gameweek in
    let position = position_in c.args.seen.now.facts.players in
    not_both (is_begun h gw) (subst (TeamTold position h gw) c.in-None.is (c.team_at.ensures.history position h stands)) begun
