use Rattle.std.proofs.Common.{◌≡◌, ◌∙◌, ◌/◌, ◌≤ℤ◌, pos, ap, w16, to_z, of_z, arith}
use Rattle.std.specs.Prelude.{unsigned_abs}
use Rattle.jiff_core.specs.Calendar.{days_from_civil, days_in_month}
use Rattle.jiff_core.proofs.SignedLemmas.{signed_arith, back_small}
use Rattle.season_calendar.proofs.Days.{from_1970, size_of, size-le}
use Rattle.season_calendar.proofs.instant.parts_of.Goals as goal

pub overflow_cast-result : goal.overflow_cast-result
overflow_cast-result c =
    let date = c.date_of-date.result in
    let from = from_1970 date (omega (arith, signed_arith, c.date_of-date.ensures)) in
    let positive : pos 0 ≤ℤ date.year = omega (arith, signed_arith, from) in
    let size = size-le date.year 9999 positive date.year_in.1 in
    let back = back_small w16 date.year (omega (arith, size)) in
    rw back (omega (arith, signed_arith, positive), omega (arith, size))

pub returns : goal.returns
returns c =
    let date = c.date_of-date.result in
    let from = from_1970 date (omega (arith, signed_arith, c.date_of-date.ensures)) in
    let positive : pos 0 ≤ℤ date.year = omega (arith, signed_arith, from) in
    let size = size-le date.year 9999 positive date.year_in.1 in
    let back = back_small w16 date.year (omega (arith, size)) in
    let year : pos (unsigned_abs (to_z w16 (of_z w16 date.year))) ≡ date.year = ap (λ z. pos (unsigned_abs z)) back ∙ size_of date.year positive in (
      record {
        from_1970 = omega (arith, signed_arith, year, from);
        to_9999 = omega (arith, signed_arith, year, date.year_in);
        from_january = date.month_in.0;
        to_december = date.month_in.1;
        from_first = date.day_in.0;
        to_last = omega (arith, date.day_in.1, ap (λ y. days_in_month y date.month) year);
        hours = omega arith;
        minutes = omega arith;
        seconds = omega arith;
      },
      record {
        day = c.get-seconds.result / 86400;
        day_is = ap (λ y. days_from_civil y date.month date.day) year ∙ c.date_of-date.ensures;
        moment_is = omega (arith, c.get-seconds.ensures.value);
      },
    )
