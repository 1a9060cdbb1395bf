use Rattle.std.proofs.Common.{◌≡◌, ◌≤◌, ℕ, OnOk, sym, subst}
use Rattle.rule_book.specs.Calendar.{next_gameweek}
use Rattle.rule_book.specs.Players.{ArePlayers}
use Rattle.manager_book.specs.Managers.{Managers, season_of}
use Rattle.season_book.specs.declared.command.Command.{Command}
use Rattle.season_entries.specs.Deeds.{AreInTime, IsDeedDone, IsDeedJudged}
use Rattle.season_entries.specs.Earlier.{RowsStayBefore}
use Rattle.season_entries.proofs.After.{books_after, either, in_time_after, where_done}
use Rattle.season_entries.proofs.Done.{done_where_kept}
use Rattle.season_entries.proofs.Earlier.{all_stay}
use Rattle.season_entries.proofs.deeds.do_deed.Goals as goal

number : (e n : ℕ) → n ≡ e → 1 ≤ n → 1 ≤ e
number e n same le = subst (λ k. 1 ≤ k) same le

done : (c : goal.After-keep) (command : Command) → IsDeedJudged c.args.season.now (season_of c.args.managers.now c.args.e) command c.args.deed.now
    → OnOk c.keep.result (IsDeedDone c.args.season.now c.args.e command c.args.managers.now c.keep.new.self)
done c command judged = done_where_kept c.args.season.now c.args.e command c.args.managers.now c.keep.new.self c.args.deed.now c.keep.result
    (subst ArePlayers c.players.ensures c.len-count.ensures.lawful) judged c.keep.ensures.others c.keep.ensures.rows c.keep.ensures.sales c.keep.ensures.history

pub returns-clause-books : goal.returns-clause-books
returns-clause-books c command judged = where_done c.keep.result
    (books_after c.args.season.now c.args.e command c.args.managers.now c.keep.new.self (number c.args.e c.get-number.result c.get-number.ensures.value c.get-number.ensures.range))
    (done c command judged)

pub returns-clause-later : goal.returns-clause-later
returns-clause-later c =
    let next = next_gameweek c.args.season.now.calendar in
    either c.keep.result (done c c.requires.judged.0 c.requires.judged.1) c.keep.ensures.err
    (λ done. in_time_after next c.args.e c.args.managers.now c.keep.new.self (number c.args.e c.get-number.result c.get-number.ensures.value c.get-number.ensures.range) done.same done.later c.requires.later)
    (λ err. subst (λ (m : Managers). AreInTime next m.managers) (sym err) c.requires.later)

pub returns-clause-earlier : goal.returns-clause-earlier
returns-clause-earlier c =
    let next = next_gameweek c.args.season.now.calendar in
    either c.keep.result (done c c.requires.judged.0 c.requires.judged.1) c.keep.ensures.err
    (λ done. done.earlier)
    (λ err. subst (λ (m : Managers). RowsStayBefore next c.args.e c.args.managers.now m) (sym err) (all_stay next c.args.e c.args.managers.now))
