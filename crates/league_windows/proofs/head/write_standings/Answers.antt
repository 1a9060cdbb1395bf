use Rattle.std.proofs.Common.{◌≤◌, ℕ, All, Contains, length, map, rules, sym, ap, subst, ◌∙◌, ◌++◌}
use Rattle.std.proofs.lemmas.List.{length-map}
use Rattle.json_members.specs.Tokens.{tokens_of}
use Rattle.json_members.proofs.AppendLemmas.{then}
use Rattle.rule_book.specs.Players.{ArePlayers}
use Rattle.rule_book.specs.Ranks.{AllDiffer}
use Rattle.rule_book.specs.Tables.{head_table_of}
use Rattle.rule_book.specs.declared.tables.HeadRanked.{HeadRanked}
use Rattle.rule_book.specs.declared.tables.HeadScore.{HeadScore}
use Rattle.season_book.specs.Windows.{listed, numbered}
use Rattle.season_views.specs.Cells.{books_seen}
use Rattle.season_views.proofs.Matches.{rows_are}
use Rattle.season_views.proofs.Written.{retold}
use Rattle.season_book.specs.HeadStandings.{head_standing}
use Rattle.season_book.specs.LeagueTables.{head_rows_through}
use Rattle.league_windows.specs.Openings.{closing_tokens, opening_tokens}
use Rattle.league_windows.proofs.OpeningFacts.{opened_and_closed}
use Rattle.league_windows.proofs.TableMembers.{head_members}
use Rattle.league_windows.proofs.head.write_standings.Goals as goal

pub last_ranks-requires-clause-rows : goal.last_ranks-requires-clause-rows
last_ranks-requires-clause-rows g c = λ entries are.
    let seen = c.args.seen.now in
    let facts = seen.facts in
    let league = c.args.league.now in
    let lawful : ArePlayers facts.players = subst ArePlayers c.players.ensures c.len-count.ensures.lawful in
    let one : 1 ≤ c.start-start.result = search rules in
    let first : 1 ≤ league.start = subst (λ s. 1 ≤ s) c.start-start.ensures one in
    c.deref.ensures.value ∙ c.in_ok-rows.ensures.value (books_seen facts seen.managers seen.leagues seen.cups) c.requires.kept.kept.evaluated c.requires.there
    ∙ rows_are facts seen.managers seen.leagues seen.cups entries lawful c.rows_tell.ensures c.requires.kept.profile are league first

pub last_ranks-requires-clause-each : goal.last_ranks-requires-clause-each
last_ranks-requires-clause-each g c =
    let rows = c.in_ok-rows.rows.items in
    ap length c.deref.ensures.value ∙ sym (length-map rows (λ (row : ℕ × HeadScore). row.0)) ∙ ap length c.in_ok-rows.ensures.entries

pub rank_head_to_head-requires : goal.rank_head_to_head-requires
rank_head_to_head-requires g c =
    let firsts = ap (map (λ (row : ℕ × HeadScore). row.0)) c.deref-2.ensures.value ∙ c.in_ok-rows.ensures.entries in
    subst AllDiffer (sym firsts) c.in_ok-rows.ensures.differ

pub write_rows-requires-clause-members : goal.write_rows-requires-clause-members
write_rows-requires-clause-members g c =
    let members = c.args.league.now.members in
    let table = c.deref-3.ensures.value ∙ c.in_ok-table.ensures.value ∙ ap head_table_of c.deref-2.ensures.value in
    subst (All (λ (row : HeadRanked). Contains members row.entry)) (sym table) (head_members members c.in_ok-rows.rows.items c.in_ok-rows.ensures.entries)

pub write_rows-requires-clause-each : goal.write_rows-requires-clause-each
write_rows-requires-clause-each g c = ap length c.deref-4.ensures.value ∙ c.in_ok-ranks.ensures.each

pub write_rows-requires-clause-ranks : goal.write_rows-requires-clause-ranks
write_rows-requires-clause-ranks g c = λ entries are. c.deref-4.ensures.value ∙ c.in_ok-ranks.ensures.value entries are

pub returns-clause-value : goal.returns-clause-value
returns-clause-value g c = λ entries are.
    let seen = c.args.seen.now in
    let facts = seen.facts in
    let league = c.args.league.now in
    let row = head_standing facts entries c.args.id league in
    let lawful : ArePlayers facts.players = subst ArePlayers c.players.ensures c.len-count.ensures.lawful in
    let one : 1 ≤ c.start-start.result = search rules in
    let first : 1 ≤ league.start = subst (λ s. 1 ≤ s) c.start-start.ensures one in
    let rows = c.deref-2.ensures.value ∙ c.in_ok-rows.ensures.value (books_seen facts seen.managers seen.leagues seen.cups) c.requires.kept.kept.evaluated c.requires.there
    ∙ rows_are facts seen.managers seen.leagues seen.cups entries lawful c.rows_tell.ensures c.requires.kept.profile are league first in
    let table = c.deref-3.ensures.value ∙ c.in_ok-table.ensures.value ∙ ap head_table_of rows in
    let all = then c.in_ok-begin_standings.ensures (then (c.in_ok-write_rows.ensures entries are) c.in_ok-end_standings.ensures) in
    let whole = retold
    (ap (λ t. opening_tokens c.args.id league ++ (tokens_of (listed row (numbered t)) ++ closing_tokens)) table
    ∙ opened_and_closed c.args.id league (listed row (numbered (head_table_of (head_rows_through facts entries league facts.calendar.locked))))) all in
    (whole.tokens, whole.before)
