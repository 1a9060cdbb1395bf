use Rattle.std.proofs.Common.{ℕ, ℤ, Contains, length, map, sym, ap, subst, ◌∙◌}
use Rattle.std.proofs.lemmas.List.{length-map}
use Rattle.rule_book.specs.ClassicTable.{is_better}
use Rattle.rule_book.specs.Ranks.{rank_among}
use Rattle.season_book.specs.LeagueTables.{classic_last_rank, classic_row_through}
use Rattle.entry_windows.proofs.LeagueMembers.{member_stands}
use Rattle.entry_windows.proofs.event_ranks.classic_ranks.Goals as goal

pub rank_of-last-requires-clause-member : goal.rank_of-last-requires-clause-member
rank_of-last-requires-clause-member g c =
    subst (λ ms. Contains ms c.args.entry) (sym c.members.ensures.value) (member_stands c.args.league.now.members c.args.entry c.requires.member)

pub rank_of-last-requires-clause-each : goal.rank_of-last-requires-clause-each
rank_of-last-requires-clause-each g c = ap length c.deref-2.ensures.value ∙ c.in_ok-ranks.ensures.each ∙ ap length (sym c.members.ensures.value)

pub classic_rank_of-current-requires-clause-member : goal.classic_rank_of-current-requires-clause-member
classic_rank_of-current-requires-clause-member g c =
    subst (λ ms. Contains ms c.args.entry) (sym c.members-2.ensures.value) (member_stands c.args.league.now.members c.args.entry c.requires.member)

pub classic_rank_of-current-requires-clause-each : goal.classic_rank_of-current-requires-clause-each
classic_rank_of-current-requires-clause-each g c =
    let rows = c.in_ok-rows.rows.items in
    ap length c.deref-3.ensures.value ∙ sym (length-map rows (λ (row : ℕ × ℤ × ℕ). row.0)) ∙ ap length c.in_ok-rows.ensures.entries ∙ ap length (sym c.members-2.ensures.value)

pub returns-clause-last : goal.returns-clause-last
returns-clause-last g c = λ entries are.
    let rank = classic_last_rank c.args.seen.now.facts entries c.args.league.now in
    c.rank_of-last.ensures rank (c.deref-2.ensures.value ∙ c.in_ok-ranks.ensures.value entries are ∙ ap (map rank) (sym c.members.ensures.value))

pub returns-clause-current : goal.returns-clause-current
returns-clause-current g c = λ entries are.
    let facts = c.args.seen.now.facts in
    let row = classic_row_through facts entries c.args.league.now facts.calendar.locked in
    let rows = c.deref-3.ensures.value ∙ c.in_ok-rows.ensures.value entries are in
    c.classic_rank_of-current.ensures row (rows ∙ ap (map row) (sym c.members-2.ensures.value))
    ∙ ap (λ rs. rank_among is_better rs (row c.args.entry)) rows
