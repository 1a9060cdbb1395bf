use Rattle.std.proofs.Common.{◌≡◌, ◌≤◌, Some, None, rules, subst, sym, ap, ◌∙◌, if◌then◌else◌}
use Rattle.std.proofs.lemmas.Option.{cond_some}
use Rattle.json_members.specs.Tokens.{tokens_of}
use Rattle.rule_book.specs.HistoryTeam.{is_begun}
use Rattle.rule_book.specs.Players.{ArePlayers}
use Rattle.season_views.proofs.Scores.{none_of}
use Rattle.season_views.proofs.Told.{not_both}
use Rattle.season_book.specs.EntryRows.{entry_row_data}
use Rattle.entry_windows.specs.Told.{played_by}
use Rattle.season_views.proofs.Written.{retold}
use Rattle.entry_windows.proofs.Own.{of_entry}
use Rattle.entry_windows.proofs.history.write_row_at.Goals as goal

pub returns-in-Some-clause-value : goal.returns-in-Some-clause-value
returns-in-Some-clause-value g c = λ entries are row there begun race.
    let seen = c.args.seen.now in
    let e = c.args.entry in
    let gw = c.args.gameweek in
    let one : 1 ≤ e = search rules in
    let lawful : ArePlayers seen.facts.players = subst ArePlayers c.players.ensures c.len-count.ensures.lawful in
    let told = of_entry seen.facts seen.managers entries e row (λ h. c.played.result ≡ (if is_begun h gw then Some (played_by seen.facts h gw) else None)) lawful one are there c.played.ensures.value in
    let is = cond_some (is_begun row.history gw) (played_by seen.facts row.history gw) c.in-Some.played (sym (sym c.in-Some.is ∙ told)) in
    let rowed = c.row_of.ensures.value entries are row there (sym is.1) race in
    retold (ap (λ r. tokens_of (entry_row_data r)) rowed) c.write_row.ensures

pub returns-in-None-clause-value : goal.returns-in-None-clause-value
returns-in-None-clause-value g c = λ entries are row there begun race.
    let seen = c.args.seen.now in
    let e = c.args.entry in
    let gw = c.args.gameweek in
    let one : 1 ≤ e = search rules in
    let lawful : ArePlayers seen.facts.players = subst ArePlayers c.players.ensures c.len-count.ensures.lawful in
    let told = of_entry seen.facts seen.managers entries e row (λ h. c.played.result ≡ (if is_begun h gw then Some (played_by seen.facts h gw) else None)) lawful one are there c.played.ensures.value in
    not_both (is_begun row.history gw) (none_of (is_begun row.history gw) (played_by seen.facts row.history gw) (sym c.in-None.is ∙ told)) begun
