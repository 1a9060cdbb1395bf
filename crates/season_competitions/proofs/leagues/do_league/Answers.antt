use Rattle.season_book.specs.Book.{caller_number}
use Rattle.season_competitions.proofs.leagues.do_league.Goals as goal

pub returns-in-Draw-clause-done : goal.returns-in-Draw-clause-done
returns-in-Draw-clause-done c = rw c.in-Draw.is (rw (← c.as_slice.ensures) (c.do_draw.ensures.done (caller_number c.args.caller.now)))
