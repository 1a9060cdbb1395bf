use Rattle.std.proofs.Common.{◌≡◌, ◌≤◌, Ok, Some, rules, subst, ◌∙◌}
use Rattle.json_members.specs.Tokens.{Appends, tokens_of}
use Rattle.json_members.proofs.AppendLemmas.{one, then}
use Rattle.rule_book.specs.Players.{ArePlayers}
use Rattle.rule_book.specs.UpTo.{start_of}
use Rattle.season_book.specs.Windows.{listed}
use Rattle.season_book.specs.HistoryWindow.{chip_row, chips_of}
use Rattle.entry_windows.proofs.Own.{before_stays, of_entry}
use Rattle.entry_windows.proofs.history.write_gameweeks.Goals as goal

pub returns-clause-value : goal.returns-clause-value
returns-clause-value g c = λ entries are row there start.
    let seen = c.args.seen.now in
    let e = c.args.entry in
    let first : 1 ≤ e = search rules in
    let lawful : ArePlayers seen.facts.players = subst ArePlayers c.players.ensures c.len-count.ensures.lawful in
    let chips = of_entry seen.facts seen.managers entries e row
    (λ h. start_of h ≡ Some c.args.first → Appends (Ok c.in_ok-write_chips.field-0) c.key.new.self c.write_chips.new.out (tokens_of (listed (chip_row h) (chips_of seen.facts h)))) lawful first are there
    c.in_ok-write_chips.ensures.value start in
    then (one c.in_ok-begin_object.ensures) (then (one c.in_ok-key.ensures) (then chips (then (one c.in_ok-key-2.ensures)
    (then (c.in_ok-write_current.ensures.value entries are row there start) (then c.in_ok-write_no_list.ensures (one c.end_object.ensures))))))

pub returns-in_err-write_chips-clause-value : goal.returns-in_err-write_chips-clause-value
returns-in_err-write_chips-clause-value g c = λ entries are row there start.
    let seen = c.args.seen.now in
    let e = c.args.entry in
    let first : 1 ≤ e = search rules in
    let lawful : ArePlayers seen.facts.players = subst ArePlayers c.players.ensures c.len-count.ensures.lawful in
    let chips = before_stays seen.facts seen.managers entries e c.args.first row (λ h. tokens_of (listed (chip_row h) (chips_of seen.facts h))) lawful first are there start c.write_chips.ensures.value in
    record {
      tokens = search rules;
      before = chips ∙ c.key.ensures.room.0 ∙ c.begin_object.ensures.room.0;
    }

pub returns-in_err-key-2-clause-value : goal.returns-in_err-key-2-clause-value
returns-in_err-key-2-clause-value g c = λ entries are row there start.
    let seen = c.args.seen.now in
    let e = c.args.entry in
    let first : 1 ≤ e = search rules in
    let lawful : ArePlayers seen.facts.players = subst ArePlayers c.players.ensures c.len-count.ensures.lawful in
    let chips = before_stays seen.facts seen.managers entries e c.args.first row (λ h. tokens_of (listed (chip_row h) (chips_of seen.facts h))) lawful first are there start c.write_chips.ensures.value in
    record {
      tokens = search rules;
      before = c.key-2.ensures.room.0 ∙ chips ∙ c.key.ensures.room.0 ∙ c.begin_object.ensures.room.0;
    }

pub returns-in_err-write_current-clause-value : goal.returns-in_err-write_current-clause-value
returns-in_err-write_current-clause-value g c = λ entries are row there start.
    let seen = c.args.seen.now in
    let e = c.args.entry in
    let first : 1 ≤ e = search rules in
    let lawful : ArePlayers seen.facts.players = subst ArePlayers c.players.ensures c.len-count.ensures.lawful in
    let chips = before_stays seen.facts seen.managers entries e c.args.first row (λ h. tokens_of (listed (chip_row h) (chips_of seen.facts h))) lawful first are there start c.write_chips.ensures.value in
    record {
      tokens = search rules;
      before = (c.write_current.ensures.value entries are row there start).before ∙ c.key-2.ensures.room.0 ∙ chips ∙ c.key.ensures.room.0 ∙ c.begin_object.ensures.room.0;
    }

pub returns-in_err-write_no_list-clause-value : goal.returns-in_err-write_no_list-clause-value
returns-in_err-write_no_list-clause-value g c = λ entries are row there start.
    let seen = c.args.seen.now in
    let e = c.args.entry in
    let first : 1 ≤ e = search rules in
    let lawful : ArePlayers seen.facts.players = subst ArePlayers c.players.ensures c.len-count.ensures.lawful in
    let chips = before_stays seen.facts seen.managers entries e c.args.first row (λ h. tokens_of (listed (chip_row h) (chips_of seen.facts h))) lawful first are there start c.write_chips.ensures.value in
    record {
      tokens = search rules;
      before = c.write_no_list.ensures.before ∙ (c.write_current.ensures.value entries are row there start).before ∙ c.key-2.ensures.room.0 ∙ chips ∙ c.key.ensures.room.0 ∙ c.begin_object.ensures.room.0;
    }
