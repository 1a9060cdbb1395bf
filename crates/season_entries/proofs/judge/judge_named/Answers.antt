use Rattle.std.proofs.Common.{List, IfOk, sym, ap, subst, ◌∙◌, rules}
use Rattle.season_ledger.specs.declared.row.Row.{Row}
use Rattle.season_book.specs.declared.command.Command.TheVariants as command
use Rattle.rule_book.specs.Calendar.{next_gameweek}
use Rattle.manager_book.specs.Deeds.{IsWorkedOut}
use Rattle.manager_book.specs.Managers.{season_of}
use Rattle.season_book.specs.EntryCommands.{deeds_in}
use Rattle.season_entries.proofs.Done.{judged_as, judged_next}
use Rattle.season_entries.proofs.Times.{up_to_next}
use Rattle.season_entries.proofs.judge.judge_named.Goals as goal

pub judge_transfers-requires-clause-later : goal.judge_transfers-requires-clause-later
judge_transfers-requires-clause-later c = up_to_next (next_gameweek c.args.season.now.calendar) c.in-Some.g c.args.managers.now c.args.e c.issued-rows.result.now (sym (c.next.ensures ∙ ap next_gameweek c.calendar.ensures) ∙ c.in-Some.is) c.issued-rows.ensures c.requires.later

pub returns-in-Transfers-clause-judged : goal.returns-in-Transfers-clause-judged
returns-in-Transfers-clause-judged c =
    let worked : IfOk c.judge_transfers.result (IsWorkedOut c.in-Some.g c.args.season.now.players (season_of c.args.managers.now c.args.e) (λ h. deeds_in c.args.season.now h c.args.command.now c.in-Some.g)) = search rules in
    judged_next c.args.season.now (season_of c.args.managers.now c.args.e) c.args.command.now c.in-Some.g c.judge_transfers.result (sym (c.next.ensures ∙ ap next_gameweek c.calendar.ensures) ∙ c.in-Some.is) worked

pub judge_lineup-requires : goal.judge_lineup-requires
judge_lineup-requires c = record { later = up_to_next (next_gameweek c.args.season.now.calendar) c.in-Some.g c.args.managers.now c.args.e c.issued-rows.result.now (sym (c.next.ensures ∙ ap next_gameweek c.calendar.ensures) ∙ c.in-Some.is) c.issued-rows.ensures c.requires.later }

pub returns-in-Lineup-clause-judged : goal.returns-in-Lineup-clause-judged
returns-in-Lineup-clause-judged c =
    judged_as c.args.season.now (season_of c.args.managers.now c.args.e) c.args.command.now c.in-Some.g c.judge_lineup.result (command.Lineup c.in-Lineup.players c.in-Lineup.captain c.in-Lineup.vice) (sym (c.next.ensures ∙ ap next_gameweek c.calendar.ensures) ∙ c.in-Some.is) c.in-Lineup.is
    (subst (λ (rows : List Row). IfOk c.judge_lineup.result (IsWorkedOut c.in-Some.g c.args.season.now.players rows (λ h. deeds_in c.args.season.now h (command.Lineup c.in-Lineup.players c.in-Lineup.captain c.in-Lineup.vice) c.in-Some.g))) c.issued-rows.ensures (c.judge_lineup.ensures.worked c.args.season.now.players))

pub judge_chip-requires : goal.judge_chip-requires
judge_chip-requires c = record { later = up_to_next (next_gameweek c.args.season.now.calendar) c.in-Some.g c.args.managers.now c.args.e c.issued-rows.result.now (sym (c.next.ensures ∙ ap next_gameweek c.calendar.ensures) ∙ c.in-Some.is) c.issued-rows.ensures c.requires.later }

pub returns-in-Chip-clause-judged : goal.returns-in-Chip-clause-judged
returns-in-Chip-clause-judged c =
    judged_as c.args.season.now (season_of c.args.managers.now c.args.e) c.args.command.now c.in-Some.g c.judge_chip.result (command.Chip c.in-Chip.chip) (sym (c.next.ensures ∙ ap next_gameweek c.calendar.ensures) ∙ c.in-Some.is) c.in-Chip.is
    (subst (λ (rows : List Row). IfOk c.judge_chip.result (IsWorkedOut c.in-Some.g c.args.season.now.players rows (λ h. deeds_in c.args.season.now h (command.Chip c.in-Chip.chip) c.in-Some.g))) c.issued-rows.ensures (c.judge_chip.ensures.worked c.args.season.now.players))

pub judge_cancel-requires : goal.judge_cancel-requires
judge_cancel-requires c = record { later = up_to_next (next_gameweek c.args.season.now.calendar) c.in-Some.g c.args.managers.now c.args.e c.issued-rows.result.now (sym (c.next.ensures ∙ ap next_gameweek c.calendar.ensures) ∙ c.in-Some.is) c.issued-rows.ensures c.requires.later }

pub returns-in-CancelChip-clause-judged : goal.returns-in-CancelChip-clause-judged
returns-in-CancelChip-clause-judged c =
    judged_as c.args.season.now (season_of c.args.managers.now c.args.e) c.args.command.now c.in-Some.g c.judge_cancel.result command.CancelChip (sym (c.next.ensures ∙ ap next_gameweek c.calendar.ensures) ∙ c.in-Some.is) c.in-CancelChip.is
    (subst (λ (rows : List Row). IfOk c.judge_cancel.result (IsWorkedOut c.in-Some.g c.args.season.now.players rows (λ h. deeds_in c.args.season.now h command.CancelChip c.in-Some.g))) c.issued-rows.ensures (c.judge_cancel.ensures.worked c.args.season.now.players))
