use Rattle.std.proofs.Common.{◌∙◌, ap, sym}
use Rattle.season_calendar.specs.Kept.{is_there_early}
use Rattle.season_calendar.proofs.Places.{found_at, none_found_at}
use Rattle.season_calendar.proofs.season.kicks_off_early.Goals as goal

pub returns-in-Ok : goal.returns-in-Ok
returns-in-Ok c =
    c.is_early.ensures ∙ ap (is_there_early c.args.t) (sym (found_at c.args.fixtures.now c.args.f c.in-Ok.at c.in-Ok.ensures.found c.index-fixtures-at.result))

pub returns-in-Err : goal.returns-in-Err
returns-in-Err c = ap (is_there_early c.args.t) (sym (none_found_at c.args.fixtures.now c.args.f c.in-Err.field-0 c.in-Err.ensures.absent))
