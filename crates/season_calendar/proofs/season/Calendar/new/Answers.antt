use Rattle.std.proofs.Common.{sym}
use Rattle.season_calendar.proofs.Refused.{rise_by_none}
use Rattle.season_calendar.proofs.season.Calendar.new.Goals as goal

pub begun-requires-clause-deadlines_rise : goal.begun-requires-clause-deadlines_rise
begun-requires-clause-deadlines_rise c = rise_by_none c.args.deadlines.now (sym c.in-None.ensures)
