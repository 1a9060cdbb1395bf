use Rattle.std.proofs.Common.{◌≤◌, ℕ, All, length, map, rules, sym, ap, subst, ◌∙◌}
use Rattle.rule_book.specs.Players.{ArePlayers}
use Rattle.rule_book.specs.Ranks.{AllDiffer}
use Rattle.rule_book.specs.Tables.{head_table_of}
use Rattle.rule_book.specs.declared.tables.HeadRanked.{HeadRanked}
use Rattle.rule_book.specs.declared.tables.HeadScore.{HeadScore}
use Rattle.season_book.specs.LeagueViews.{head_ranked_shown}
use Rattle.season_views.specs.Cells.{books_seen}
use Rattle.season_views.proofs.Matches.{rows_are}
use Rattle.season_views.proofs.ShownLeagues.{head_made}
use Rattle.season_views.proofs.head.head.Goals as goal

pub rank_head_to_head-requires : goal.rank_head_to_head-requires
rank_head_to_head-requires g c =
    let firsts = ap (map (λ (row : ℕ × HeadScore). row.0)) c.deref.ensures.value ∙ c.in_ok-rows.ensures.entries in
    subst AllDiffer (sym firsts) c.in_ok-rows.ensures.differ

pub head_named-requires : goal.head_named-requires
head_named-requires g c =
    let n = length c.args.seen.now.managers.managers in
    let firsts = ap (map (λ (row : ℕ × HeadScore). row.0)) c.deref.ensures.value ∙ c.in_ok-rows.ensures.entries in
    subst (All (λ (row : HeadRanked). row.entry ≤ n)) (sym c.deref-2.ensures.value)
    (c.in_ok-table.ensures.entries n (subst (All (λ (e : ℕ). e ≤ n)) (sym firsts) c.requires.issued))

pub returns-clause-value : goal.returns-clause-value
returns-clause-value g c entries are =
    let facts = c.args.seen.now.facts in
    let managers = c.args.seen.now.managers in
    let league = c.args.league.now in
    let leagues = c.requires.kept.0 in
    let cups = c.requires.kept.1 in
    let lawful : ArePlayers facts.players = subst ArePlayers c.players.ensures c.len-count.ensures.lawful in
    let one : 1 ≤ c.start.result = search rules in
    let first : 1 ≤ league.start = subst (λ s. 1 ≤ s) c.start.ensures one in
    let rows =
    c.deref.ensures.value ∙ c.in_ok-rows.ensures.value (books_seen facts managers leagues cups) c.requires.kept.3.evaluated c.requires.kept.2
    ∙ rows_are facts managers leagues cups entries lawful c.rows_tell.ensures c.requires.profile are league first in
    head_made facts entries league c.in_ok-copy.field-0 c.start.result c.in_ok-head_named.field-0 (c.in_ok-copy.ensures ∙ c.name.ensures) c.start.ensures
    (c.in_ok-head_named.ensures facts.players entries are
    ∙ ap (map (head_ranked_shown entries)) (c.deref-2.ensures.value ∙ c.in_ok-table.ensures.value ∙ ap head_table_of rows))
