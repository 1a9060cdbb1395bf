use Rattle.std.proofs.Common.{ℕ, ℤ, All, Contains, length, map, arith, sym, ap, subst, ◌∙◌, ◌++◌}
use Rattle.std.proofs.lemmas.List.{length-map}
use Rattle.json_members.specs.Tokens.{tokens_of}
use Rattle.json_members.proofs.AppendLemmas.{then}
use Rattle.rule_book.specs.Ranks.{AllDiffer}
use Rattle.rule_book.specs.Tables.{classic_table_of}
use Rattle.rule_book.specs.declared.tables.Ranked.{Ranked}
use Rattle.season_book.specs.Windows.{listed, numbered}
use Rattle.season_views.proofs.Written.{retold}
use Rattle.season_book.specs.ClassicStandings.{classic_standing}
use Rattle.season_book.specs.LeagueTables.{classic_rows_through}
use Rattle.league_windows.specs.Openings.{closing_tokens, opening_tokens}
use Rattle.league_windows.proofs.OpeningFacts.{opened_and_closed}
use Rattle.league_windows.proofs.TableMembers.{classic_long, classic_members}
use Rattle.league_windows.proofs.classic.write_standings.Goals as goal

pub classic_rows-requires-clause-kept : goal.classic_rows-requires-clause-kept
classic_rows-requires-clause-kept g c = let seen = c.args.seen.now in (c.args.id, (seen.leagues, seen.cups, c.requires.there, c.requires.kept.kept))

pub last_ranks-requires-clause-rows : goal.last_ranks-requires-clause-rows
last_ranks-requires-clause-rows g c = λ entries are. c.deref.ensures.value ∙ c.in_ok-rows.ensures.value entries are

pub last_ranks-requires-clause-each : goal.last_ranks-requires-clause-each
last_ranks-requires-clause-each g c =
    let rows = c.in_ok-rows.rows.items in
    ap length c.deref.ensures.value ∙ sym (length-map rows (λ (row : ℕ × ℤ × ℕ). row.0)) ∙ ap length c.in_ok-rows.ensures.entries

pub rank_classic-requires : goal.rank_classic-requires
rank_classic-requires g c =
    let firsts = ap (map (λ (row : ℕ × ℤ × ℕ). row.0)) c.deref-2.ensures.value ∙ c.in_ok-rows.ensures.entries in
    subst AllDiffer (sym firsts) c.in_ok-rows.ensures.differ

pub write_rows-requires-clause-members : goal.write_rows-requires-clause-members
write_rows-requires-clause-members g c =
    let members = c.args.league.now.members in
    let table = c.deref-3.ensures.value ∙ c.in_ok-table.ensures.value ∙ ap classic_table_of c.deref-2.ensures.value in
    subst (All (λ (row : Ranked). Contains members row.entry)) (sym table) (classic_members members c.in_ok-rows.rows.items c.in_ok-rows.ensures.entries)

pub write_rows-requires-clause-each : goal.write_rows-requires-clause-each
write_rows-requires-clause-each g c = ap length c.deref-4.ensures.value ∙ c.in_ok-ranks.ensures.each

pub write_rows-requires-clause-ranks : goal.write_rows-requires-clause-ranks
write_rows-requires-clause-ranks g c = λ entries are. c.deref-4.ensures.value ∙ c.in_ok-ranks.ensures.value entries are

pub returns-clause-value : goal.returns-clause-value
returns-clause-value g c = λ entries are.
    let facts = c.args.seen.now.facts in
    let league = c.args.league.now in
    let row = classic_standing facts entries league in
    let table = c.deref-3.ensures.value ∙ c.in_ok-table.ensures.value ∙ ap classic_table_of (c.deref-2.ensures.value ∙ c.in_ok-rows.ensures.value entries are) in
    let all = then c.in_ok-begin_standings.ensures (then (c.in_ok-write_rows.ensures.value entries are) c.in_ok-end_standings.ensures) in
    let whole = retold
    (ap (λ t. opening_tokens c.args.id league ++ (tokens_of (listed row (numbered t)) ++ closing_tokens)) table
    ∙ opened_and_closed c.args.id league (listed row (numbered (classic_table_of (classic_rows_through facts entries league facts.calendar.locked))))) all in
    (whole.tokens, whole.before)

pub returns-clause-cost : goal.returns-clause-cost
returns-clause-cost g c =
    let rows = c.in_ok-rows.rows.items in
    let members = c.args.league.now.members in
    let long = ap length (c.deref-3.ensures.value ∙ c.in_ok-table.ensures.value ∙ ap classic_table_of c.deref-2.ensures.value) ∙ classic_long rows
    ∙ sym (length-map rows (λ (row : ℕ × ℤ × ℕ). row.0)) ∙ ap length c.in_ok-rows.ensures.entries in
    omega (arith, long, c.classic_rows.ensures.cost, c.last_ranks.ensures.cost, c.write_rows.ensures.cost)

pub returns-in_err-write_rows-clause-cost : goal.returns-in_err-write_rows-clause-cost
returns-in_err-write_rows-clause-cost g c =
    let rows = c.in_ok-rows.rows.items in
    let members = c.args.league.now.members in
    let long = ap length (c.deref-3.ensures.value ∙ c.in_ok-table.ensures.value ∙ ap classic_table_of c.deref-2.ensures.value) ∙ classic_long rows
    ∙ sym (length-map rows (λ (row : ℕ × ℤ × ℕ). row.0)) ∙ ap length c.in_ok-rows.ensures.entries in
    omega (arith, long, c.classic_rows.ensures.cost, c.last_ranks.ensures.cost, c.write_rows.ensures.cost)

pub returns-in_err-end_standings-clause-cost : goal.returns-in_err-end_standings-clause-cost
returns-in_err-end_standings-clause-cost g c =
    let rows = c.in_ok-rows.rows.items in
    let members = c.args.league.now.members in
    let long = ap length (c.deref-3.ensures.value ∙ c.in_ok-table.ensures.value ∙ ap classic_table_of c.deref-2.ensures.value) ∙ classic_long rows
    ∙ sym (length-map rows (λ (row : ℕ × ℤ × ℕ). row.0)) ∙ ap length c.in_ok-rows.ensures.entries in
    omega (arith, long, c.classic_rows.ensures.cost, c.last_ranks.ensures.cost, c.write_rows.ensures.cost)
