use Rattle.std.proofs.Common.{◌≤◌, ℕ, Contains, length, map, rules, sym, ap, subst, ◌∙◌}
use Rattle.std.proofs.lemmas.List.{length-map}
use Rattle.rule_book.specs.declared.tables.HeadScore.{HeadScore}
use Rattle.rule_book.specs.HeadToHead.{is_better}
use Rattle.rule_book.specs.Players.{ArePlayers}
use Rattle.rule_book.specs.Ranks.{rank_among}
use Rattle.season_views.specs.Cells.{books_seen}
use Rattle.season_views.proofs.Matches.{rows_are}
use Rattle.season_book.specs.LeagueTables.{head_last_rank, head_row_through}
use Rattle.entry_windows.proofs.LeagueMembers.{member_stands}
use Rattle.entry_windows.proofs.event_ranks.head_ranks.Goals as goal

pub last_ranks-requires-clause-rows : goal.last_ranks-requires-clause-rows
last_ranks-requires-clause-rows g c = λ entries are.
    let seen = c.args.seen.now in
    let facts = seen.facts in
    let league = c.args.league.now in
    let lawful : ArePlayers facts.players = subst ArePlayers c.players.ensures c.len-count.ensures.lawful in
    let one : 1 ≤ c.start-start.result = search rules in
    let first : 1 ≤ league.start = subst (λ s. 1 ≤ s) c.start-start.ensures one in
    c.deref.ensures.value ∙ c.in_ok-rows.ensures.value (books_seen facts seen.managers seen.leagues seen.cups) c.requires.kept.kept.evaluated c.requires.there
    ∙ rows_are facts seen.managers seen.leagues seen.cups entries lawful c.rows_tell.ensures c.requires.kept.profile are league first

pub rank_of-last-requires-clause-member : goal.rank_of-last-requires-clause-member
rank_of-last-requires-clause-member g c =
    subst (λ ms. Contains ms c.args.entry) (sym c.members.ensures.value) (member_stands c.args.league.now.members c.args.entry c.requires.member)

pub rank_of-last-requires-clause-each : goal.rank_of-last-requires-clause-each
rank_of-last-requires-clause-each g c = ap length c.deref-2.ensures.value ∙ c.in_ok-ranks.ensures.each ∙ ap length (sym c.members.ensures.value)

pub head_rank_of-current-requires-clause-member : goal.head_rank_of-current-requires-clause-member
head_rank_of-current-requires-clause-member g c =
    subst (λ ms. Contains ms c.args.entry) (sym c.members-2.ensures.value) (member_stands c.args.league.now.members c.args.entry c.requires.member)

pub head_rank_of-current-requires-clause-each : goal.head_rank_of-current-requires-clause-each
head_rank_of-current-requires-clause-each g c =
    let rows = c.in_ok-rows.rows.items in
    ap length c.deref-3.ensures.value ∙ sym (length-map rows (λ (row : ℕ × HeadScore). row.0)) ∙ ap length c.in_ok-rows.ensures.entries ∙ ap length (sym c.members-2.ensures.value)

pub returns-clause-last : goal.returns-clause-last
returns-clause-last g c = λ entries are.
    let rank = head_last_rank c.args.seen.now.facts entries c.args.league.now in
    c.rank_of-last.ensures rank (c.deref-2.ensures.value ∙ c.in_ok-ranks.ensures.value entries are ∙ ap (map rank) (sym c.members.ensures.value))

pub returns-clause-current : goal.returns-clause-current
returns-clause-current g c = λ entries are.
    let seen = c.args.seen.now in
    let facts = seen.facts in
    let league = c.args.league.now in
    let lawful : ArePlayers facts.players = subst ArePlayers c.players.ensures c.len-count.ensures.lawful in
    let one : 1 ≤ c.start-start.result = search rules in
    let first : 1 ≤ league.start = subst (λ s. 1 ≤ s) c.start-start.ensures one in
    let row = head_row_through facts entries league facts.calendar.locked in
    let rows = c.deref-3.ensures.value ∙ c.in_ok-rows.ensures.value (books_seen facts seen.managers seen.leagues seen.cups) c.requires.kept.kept.evaluated c.requires.there
    ∙ rows_are facts seen.managers seen.leagues seen.cups entries lawful c.rows_tell.ensures c.requires.kept.profile are league first in
    c.head_rank_of-current.ensures row (rows ∙ ap (map row) (sym c.members-2.ensures.value))
    ∙ ap (λ rs. rank_among is_better rs (row c.args.entry)) rows
