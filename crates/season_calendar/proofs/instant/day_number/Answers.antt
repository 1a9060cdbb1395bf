use Rattle.std.proofs.Common.{◌≡◌, ◌∙◌, ◌≤ℤ◌, pos, ap, sym, w8, w16, w32, arith}
use Rattle.std.proofs.lemmas.Int.{to_z_pos}
use Rattle.jiff_core.specs.Calendar.{days_from_civil}
use Rattle.jiff_core.specs.Date.{epoch_day}
use Rattle.jiff_core.proofs.SignedLemmas.{signed_arith, back_small}
use Rattle.season_calendar.proofs.Days.{not_negative, size_of, size-le}
use Rattle.season_calendar.proofs.instant.day_number.Goals as goal

pub overflow_cast-result : goal.overflow_cast-result
overflow_cast-result c =
    let year : c.in-Ok.date.year ≡ pos c.args.year = c.in-Ok.ensures.value.0 ∙ to_z_pos w16 c.args.year (omega arith) in
    let day : c.to_unix_epoch_day.result ≡ epoch_day c.in-Ok.date = c.to_unix_epoch_day.ensures.value ∙ ap epoch_day c.to_plain.ensures in
    let from : pos 0 ≤ℤ c.to_unix_epoch_day.result = rw day (not_negative c.in-Ok.date (omega (arith, signed_arith, year, c.requires.from_1970))) in
    let size = size-le c.to_unix_epoch_day.result 2932896 from c.to_unix_epoch_day.ensures.bound.1 in
    let back = back_small w32 c.to_unix_epoch_day.result (omega (arith, size)) in
    rw back (omega (arith, signed_arith, from), omega (arith, size))

pub returns-in-Ok-clause-value : goal.returns-in-Ok-clause-value
returns-in-Ok-clause-value c =
    let year : c.in-Ok.date.year ≡ pos c.args.year = c.in-Ok.ensures.value.0 ∙ to_z_pos w16 c.args.year (omega arith) in
    let month : pos c.in-Ok.date.month ≡ pos c.args.month = c.in-Ok.ensures.value.1 ∙ to_z_pos w8 c.args.month (omega arith) in
    let date_day : pos c.in-Ok.date.day ≡ pos c.args.day = c.in-Ok.ensures.value.2 ∙ to_z_pos w8 c.args.day (omega arith) in
    let m : c.in-Ok.date.month ≡ c.args.month = omega (arith, signed_arith) in
    let d : c.in-Ok.date.day ≡ c.args.day = omega (arith, signed_arith) in
    let day : c.to_unix_epoch_day.result ≡ epoch_day c.in-Ok.date = c.to_unix_epoch_day.ensures.value ∙ ap epoch_day c.to_plain.ensures in
    let from : pos 0 ≤ℤ c.to_unix_epoch_day.result = rw day (not_negative c.in-Ok.date (omega (arith, signed_arith, year, c.requires.from_1970))) in
    let size = size-le c.to_unix_epoch_day.result 2932896 from c.to_unix_epoch_day.ensures.bound.1 in
    let back = back_small w32 c.to_unix_epoch_day.result (omega (arith, size)) in
    let date = ap (λ y. days_from_civil y c.args.month c.args.day) (sym year) ∙ (ap (λ n. days_from_civil c.in-Ok.date.year n c.args.day) (sym m) ∙ ap (λ n. days_from_civil c.in-Ok.date.year c.in-Ok.date.month n) (sym d)) in
    rw back (date ∙ (sym day ∙ sym (size_of c.to_unix_epoch_day.result from)), size)
