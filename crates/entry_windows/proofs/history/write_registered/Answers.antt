use Rattle.std.proofs.Common.{Some, refl}
use Rattle.season_book.specs.HistoryWindow.{history_data}
use Rattle.entry_windows.proofs.Due.{something_shown}
use Rattle.entry_windows.proofs.history.write_registered.Goals as goal

pub returns-clause-value : goal.returns-clause-value
returns-clause-value g c = λ entries are row there start.
    let due = history_data c.args.seen.now.facts entries (c.args.entry, row) in
    something_shown (Some due) due refl (c.in_ok-write_gameweeks.ensures.value entries are row there start)
