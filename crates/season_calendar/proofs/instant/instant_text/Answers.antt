use Rattle.season_calendar.proofs.Days.{text_only}
use Rattle.season_calendar.proofs.instant.instant_text.Goals as goal

pub returns-clause-no_other : goal.returns-clause-no_other
returns-clause-no_other c text i =
    text_only text c.write_parts.result c.args.t i (record { parts = c.parts_of.result; civil = c.parts_of.ensures.0; text_is = c.write_parts.ensures; moment = c.parts_of.ensures.1 })
