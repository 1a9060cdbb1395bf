use Rattle.season_book.specs.Book.{caller_number}
use Rattle.season_competitions.proofs.leagues.judge_by_rows.Goals as goal

pub returns-in-League : goal.returns-in-League
returns-in-League c = rw c.in-League.is (c.judge_create.ensures c.in-League.kind c.in-League.name c.in-League.code)

pub returns-in-Draw : goal.returns-in-Draw
returns-in-Draw c = rw c.in-Draw.is (rw (← c.as_slice.ensures) (c.judge_draw.ensures (caller_number c.args.caller.now)))
