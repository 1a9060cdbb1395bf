use Rattle.std.proofs.Common.{◌≡◌, ◌≤◌, rules, ap, subst, ◌∙◌, w32, FitsSigned}
use Rattle.std.proofs.lemmas.Int.{to_z-of_z}
use Rattle.rule_book.specs.HistoryTransfers.{counted_through}
use Rattle.rule_book.specs.PlayerFigures.{position_in}
use Rattle.rule_book.specs.Players.{ArePlayers}
use Rattle.manager_book.specs.Managers.{season_of}
use Rattle.season_book.specs.LeagueViews.{history_of}
use Rattle.season_views.specs.Cells.{books_seen}
use Rattle.season_views.specs.Entries.{total_since}
use Rattle.season_views.proofs.Histories.{in_books}
use Rattle.season_views.proofs.Totals.{total_is}
use Rattle.season_views.proofs.classic.classic_row.Goals as goal

pub returns-clause-value : goal.returns-clause-value
returns-clause-value g c entries are =
    let facts = c.args.seen.now.facts in
    let managers = c.args.seen.now.managers in
    let leagues = c.requires.kept.0 in
    let cups = c.requires.kept.1 in
    let e = c.args.entry in
    let s = c.args.start in
    let position = position_in facts.players in
    let lawful : ArePlayers facts.players = subst ArePlayers c.players.ensures c.len-count.ensures.lawful in
    let one : 1 ≤ e = search rules in
    let first : 1 ≤ s = search rules in
    let total = in_books facts managers e (λ h. c.total_held-total.result ≡ total_since facts h s) lawful one
    (λ h stands.
    c.total_held-total.ensures.value (books_seen facts managers leagues cups) c.requires.kept.3.evaluated
    ∙ total_is facts managers leagues cups e s h one first c.requires.kept.2 (c.rows_tell.ensures position (season_of managers e) h stands) c.requires.profile) entries are in
    let counted = in_books facts managers e (λ h. c.counted_transfers-counted.result ≡ counted_through h facts.calendar.locked) lawful one
    (λ h stands. c.counted_transfers-counted.ensures.history position h stands ∙ ap (counted_through h) (c.locked.ensures.value ∙ ap (λ those. those.locked) c.calendar.ensures)) entries are in
    let fits : FitsSigned w32 c.total_held-total.result = search rules in
    ap (λ z. (e, z, c.counted_transfers-counted.result)) (to_z-of_z w32 c.total_held-total.result fits ∙ total) ∙ ap (λ n. (e, total_since facts (history_of entries e) s, n)) counted
