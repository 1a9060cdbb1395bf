use Rattle.std.proofs.Common.{rules, ◌≡◌, length, arith}
use Rattle.season_calendar.specs.Instants.{HasMarks}
use Rattle.season_calendar.proofs.Days.{text_of_digits}
use Rattle.season_calendar.proofs.instant.read_parts.Goals as goal

pub returns-clause-some : goal.returns-clause-some
returns-clause-some c =
    let text = c.args.text.now in
    let long : length text ≡ 20 = omega arith in
    let marks : HasMarks text = c.has_marks.ensures.0 (search rules) in
    rw (c.from.ensures, c.from-2.ensures) (text_of_digits text c.in_ok-century.century c.in_ok-year.year c.in_ok-month.month c.in_ok-day.day c.in_ok-hour.hour c.in_ok-minute.minute c.in_ok-second.second long marks c.in_ok-century.ensures.some c.in_ok-year.ensures.some c.in_ok-month.ensures.some c.in_ok-day.ensures.some c.in_ok-hour.ensures.some c.in_ok-minute.ensures.some c.in_ok-second.ensures.some)
