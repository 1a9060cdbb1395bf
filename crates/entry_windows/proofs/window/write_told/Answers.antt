use Rattle.std.proofs.Common.{◌≡◌, ◌≤◌, [], ap, rules, subst, ◌∙◌}
use Rattle.std.specs.Option.{option_map, option_map_or}
use Rattle.json_members.proofs.AppendLemmas.{then}
use Rattle.rule_book.specs.Players.{ArePlayers}
use Rattle.season_book.specs.Book.{EntryFacts}
use Rattle.season_views.proofs.Written.{retold}
use Rattle.entry_windows.proofs.Own.{of_entry}
use Rattle.entry_windows.specs.declared.summary.Summary.{Summary}
use Rattle.entry_windows.specs.EntrySummary.{summary_of}
use Rattle.season_book.specs.EntryWindow.{entry_leagues_told, is_in_last, transfers_after}
use Rattle.entry_windows.proofs.Appending.{appended, entry_tokens, opened}
use Rattle.entry_windows.proofs.Summaries.{told_if}
use Rattle.entry_windows.proofs.window.write_told.Goals as goal

pub returns-clause-value : goal.returns-clause-value
returns-clause-value g c = λ entries are row there start.
    let seen = c.args.seen.now in
    let facts = seen.facts in
    let e = c.args.entry in
    let last = facts.calendar.locked in
    let one : 1 ≤ e = search rules in
    let lawful : ArePlayers facts.players = subst ArePlayers c.players.ensures c.len-count.ensures.lawful in
    let transfers = of_entry facts seen.managers entries e row (λ h. c.transfers_after-transfers.result ≡ transfers_after h c.args.first last) lawful one are there c.transfers_after-transfers.ensures.value in
    let name = c.name_text.ensures entries are ∙ ap (λ o. option_map_or (λ (entry : EntryFacts). entry.name) o []) there in
    let first = c.from.ensures ∙ c.get.ensures.value in
    let sum = c.last_summary-summary.ensures.value entries are row there in
    let is = is_in_last facts entries row in
    let due = summary_of facts entries (e, row) last in
    let bank = ap (option_map (λ (s : Summary). s.bank)) sum ∙ told_if (λ (s : Summary). s.bank) is due in
    let points = ap (option_map (λ (s : Summary). s.points)) sum ∙ told_if (λ (s : Summary). s.points) is due in
    let rank = ap (option_map (λ (s : Summary). s.rank)) sum ∙ told_if (λ (s : Summary). s.rank) is due in
    let total = ap (option_map (λ (s : Summary). s.total)) sum ∙ told_if (λ (s : Summary). s.total) is due in
    let overall = ap (option_map (λ (s : Summary). s.overall)) sum ∙ told_if (λ (s : Summary). s.overall) is due in
    let told = entry_leagues_told facts entries seen.leagues e in
    let wrote = then c.in_ok-begin_entry.ensures (then (appended {a = c.begin_entry.new.out} {b = c.write_leagues.new.out} (c.in_ok-write_leagues.ensures.value entries are))
    (then c.in_ok-write_text.ensures (then c.in_ok-write_text-2.ensures (then c.in_ok-write_text-3.ensures (then c.in_ok-write_count.ensures c.in_ok-end_entry.ensures))))) in
    let whole = retold
    (opened e c.last_gameweek.result _ c.transfers_after-transfers.result _
    ∙ (λ i. entry_tokens e (c.last_gameweek.ensures i) (transfers i) told (name i) (first i) (bank i) (points i) (rank i) (total i) (overall i))) wrote in
    (whole.tokens, whole.before)
