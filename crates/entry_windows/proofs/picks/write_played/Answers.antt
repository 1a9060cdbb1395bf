use Rattle.std.proofs.Common.{Some, refl}
use Rattle.json_members.specs.Tokens.{tokens_of}
use Rattle.season_book.specs.PicksWindow.{picks_data, picks_of}
use Rattle.entry_windows.proofs.Due.{something_shown}
use Rattle.season_views.proofs.Written.{retold}
use Rattle.entry_windows.proofs.picks.write_played.Goals as goal

pub returns-clause-value : goal.returns-clause-value
returns-clause-value g c = λ entries are row there is.
    let e = c.args.entry in
    let due = picks_of c.args.seen.now.facts entries (e, row) c.args.gameweek in
    let race = c.race-race.ensures.value entries are row there in
    let rowed = c.row_of-row.ensures.value entries are row there is race in
    something_shown (Some due) due refl
    (retold (λ i. tokens_of (picks_data e (is i).team (is i).score (rowed i))) c.in_ok-write_gameweek.ensures)
