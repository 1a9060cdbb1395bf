-- Days, dates and their digits.
use Rattle.std.proofs.Common.{◌≡◌, ◌∙◌, sym, ap, refl, ℕ, ◌+◌, ◌*◌, ◌/◌, ◌%◌, ◌<◌, ◌≤◌, List, length, get_or, Option, Some, None, IfSome, arith, ℤ, pos, negsuc, ◌≤ℤ◌}
use Rattle.std.specs.Prelude.{IfNone, unsigned_abs}
use Rattle.std.proofs.lemmas.Int.{by_lt_z}
use Rattle.jiff_core.specs.declared.civil.date.Date.{Date}
use Rattle.jiff_core.specs.Calendar.{day_count, IsCivilDate}
use Rattle.jiff_core.specs.Date.{epoch_day}
use Rattle.jiff_core.proofs.SignedLemmas.{signed_arith}
use Rattle.jiff_core.proofs.CalendarLemmas.{day_count-epoch, days_from_civil-day_count, day_count-lt_year, day_count-day_of_year, days_in_month_bounds}
use Rattle.jiff_core.proofs.DateLemmas.{civil, epoch_day_injective}
use Rattle.season_calendar.specs.declared.instant.Parts.{Parts}
use Rattle.season_calendar.specs.Instants.{IsCivil, IsInstant, IsMomentOf, IsWritten, HasMarks, HasDigits, text_of}
use Rattle.std.proofs.lemmas.Slice.Eq.{text_from_reads}

civil_1970 : IsCivilDate (pos 1970) 1 1
civil_1970 = ((omega (arith, signed_arith), omega (arith, signed_arith)), (omega arith, omega arith), (omega arith, omega (arith, days_in_month_bounds (pos 1970) 1)))

-- the days from 1970 on have no negative number
pub not_negative : (d : Date) → pos 1970 ≤ℤ d.year → pos 0 ≤ℤ epoch_day d
not_negative d from =
    by_lt_z (pos 1970) d.year
    (λ later. omega (arith, signed_arith, day_count-epoch, days_from_civil-day_count d.year d.month d.day, day_count-lt_year (pos 1970) 1 1 d.year d.month d.day civil_1970 d.day_in.0 later))
    (λ within.
    let same : d.year ≡ pos 1970 = omega (arith, signed_arith) in
    omega (arith, signed_arith, day_count-epoch, ap (λ y. day_count y 1 1) same, days_from_civil-day_count d.year d.month d.day, day_count-day_of_year d.year d.month d.day d.day_in.0, d.day_in.0))

-- and the days of no negative number are from 1970 on
pub from_1970 : (d : Date) → pos 0 ≤ℤ epoch_day d → pos 1970 ≤ℤ d.year
from_1970 d from =
    by_lt_z d.year (pos 1970)
    (λ earlier. absurd (omega (arith, signed_arith, day_count-epoch, days_from_civil-day_count d.year d.month d.day, day_count-lt_year d.year d.month d.day (pos 1970) 1 1 (civil d) (omega arith) earlier)))
    (λ late. late)

-- a number from 0 to n, by its size
pub size_of : (z : ℤ) → pos 0 ≤ℤ z → pos (unsigned_abs z) ≡ z
size_of (pos n) h = refl
size_of (negsuc n) h = absurd (omega (arith, signed_arith, h))

pub size-le : (z : ℤ) (n : ℕ) → pos 0 ≤ℤ z → z ≤ℤ pos n → unsigned_abs z ≤ n
size-le (pos k) n h le = omega (arith, signed_arith, le)
size-le (negsuc k) n h le = absurd (omega (arith, signed_arith, h))

-- the date of civil parts
date_at : (p : Parts) → IsCivil p → Date
date_at p c = record {
  year = pos p.year;
  month = p.month;
  day = p.day;
  year_in = (omega (arith, signed_arith), omega (arith, signed_arith, c.to_9999));
  month_in = (c.from_january, c.to_december);
  day_in = (c.from_first, c.to_last);
}

parts_are : (p q : Parts) → p.year ≡ q.year → p.month ≡ q.month → p.day ≡ q.day → p.hour ≡ q.hour → p.minute ≡ q.minute → p.second ≡ q.second → p ≡ q
parts_are p q year month day hour minute second =
    ap (λ (n : ℕ). record p { year = n }) year
    ∙ (ap (λ (n : ℕ). record p { year = q.year; month = n }) month
    ∙ (ap (λ (n : ℕ). record p { year = q.year; month = q.month; day = n }) day
    ∙ (ap (λ (n : ℕ). record p { year = q.year; month = q.month; day = q.day; hour = n }) hour
    ∙ (ap (λ (n : ℕ). record p { year = q.year; month = q.month; day = q.day; hour = q.hour; minute = n }) minute
    ∙ ap (λ (n : ℕ). record q { second = n }) second))))

-- a number below 100 by its two digits
same_digits : (m n : ℕ) → 48 + m / 10 ≡ 48 + n / 10 → 48 + m % 10 ≡ 48 + n % 10 → m ≡ n
same_digits m n tens ones = omega arith

same_year : (m n : ℕ) → m / 100 ≡ n / 100 → m % 100 ≡ n % 100 → m ≡ n
same_year m n century year = omega arith

-- one text has one date and time
pub same_parts : (p q : Parts) → text_of p ≡ text_of q → p ≡ q
same_parts p q e =
    parts_are p q
    (same_year p.year q.year (same_digits (p.year / 100) (q.year / 100) (ap (λ l. get_or l 0 0) e) (ap (λ l. get_or l 1 0) e)) (same_digits (p.year % 100) (q.year % 100) (ap (λ l. get_or l 2 0) e) (ap (λ l. get_or l 3 0) e)))
    (same_digits p.month q.month (ap (λ l. get_or l 5 0) e) (ap (λ l. get_or l 6 0) e))
    (same_digits p.day q.day (ap (λ l. get_or l 8 0) e) (ap (λ l. get_or l 9 0) e))
    (same_digits p.hour q.hour (ap (λ l. get_or l 11 0) e) (ap (λ l. get_or l 12 0) e))
    (same_digits p.minute q.minute (ap (λ l. get_or l 14 0) e) (ap (λ l. get_or l 15 0) e))
    (same_digits p.second q.second (ap (λ l. get_or l 17 0) e) (ap (λ l. get_or l 18 0) e))

-- one date and time has one moment
pub same_moment : (p : Parts) (t u : ℕ) → IsMomentOf p t → IsMomentOf p u → t ≡ u
same_moment p t u a b =
    let day : pos a.day ≡ pos b.day = sym a.day_is ∙ b.day_is in
    let number : a.day ≡ b.day = omega (arith, signed_arith) in
    omega (arith, a.moment_is, b.moment_is)

-- one moment has one date and time
same_time : (a b h i m n s t : ℕ) → h < 24 → i < 24 → m < 60 → n < 60 → s < 60 → t < 60 → a * 86400 + h * 3600 + m * 60 + s ≡ b * 86400 + i * 3600 + n * 60 + t → (a ≡ b) × (h ≡ i) × (m ≡ n) × (s ≡ t)
same_time a b h i m n s t c d e f g k same = (omega arith, omega arith, omega arith, omega arith)

pub same_civil : (p q : Parts) (t : ℕ) → IsCivil p → IsCivil q → IsMomentOf p t → IsMomentOf q t → p ≡ q
unfolding date_at
same_civil p q t c d a b =
    let time = same_time a.day b.day p.hour q.hour p.minute q.minute p.second q.second c.hours d.hours c.minutes d.minutes c.seconds d.seconds (sym a.moment_is ∙ b.moment_is) in
    let date = epoch_day_injective (date_at p c) (date_at q d) (a.day_is ∙ (ap (λ n. pos n) time.0 ∙ sym b.day_is)) in
    let year : p.year ≡ q.year = omega (arith, signed_arith, date.0) in
    parts_are p q year date.1 date.2 time.1 time.2 time.3

-- a moment has one text
pub text_only : (a b : List ℕ) (t : ℕ) → IsInstant a t → IsInstant b t → a ≡ b
text_only a b t i j = i.text_is ∙ (ap text_of (same_civil i.parts j.parts t i.civil j.civil i.moment j.moment) ∙ sym j.text_is)

-- a text of these parts has the moment that they have
pub moment_only : (r : Option ℕ) (p : Parts) (t : ℕ) → IfSome r (λ u. IsCivil p × IsMomentOf p u) → IfNone r (IsCivil p → ⊥) → IsCivil p → IsMomentOf p t → r ≡ Some t
moment_only (Some u) p t some none c m = ap (λ n. Some n) (same_moment p u t some.1 m)
moment_only None p t some none c m = absurd (none c)

-- a text whose marks and digits are right is that of its numbers
pub text_of_digits : (text : List ℕ) (century year month day hour minute second : ℕ) → length text ≡ 20 → HasMarks text → HasDigits text 0 century → HasDigits text 2 year → HasDigits text 5 month → HasDigits text 8 day → HasDigits text 11 hour → HasDigits text 14 minute → HasDigits text 17 second → IsWritten (record { year = century * 100 + year; month = month; day = day; hour = hour; minute = minute; second = second }) × (text ≡ text_of (record { year = century * 100 + year; month = month; day = day; hour = hour; minute = minute; second = second }))
text_of_digits text century year month day hour minute second long marks c y mo d h mi s =
    let first : (century * 100 + year) / 100 ≡ century = omega (arith, y.below) in
    let last : (century * 100 + year) % 100 ≡ year = omega (arith, y.below) in (
      record { year = omega (arith, c.below, y.below); month = mo.below; day = d.below; hour = h.below; minute = mi.below; second = s.below },
      text_from_reads text (text_of (record { year = century * 100 + year; month = month; day = day; hour = hour; minute = minute; second = second })) long (
        c.tens ∙ ap (λ n. 48 + n / 10) (sym first),
        (
          c.ones ∙ ap (λ n. 48 + n % 10) (sym first),
          (
            y.tens ∙ ap (λ n. 48 + n / 10) (sym last),
            (
              y.ones ∙ ap (λ n. 48 + n % 10) (sym last),
              (marks.after_year, (mo.tens, (mo.ones, (marks.after_month, (d.tens, (d.ones, (marks.after_day, (h.tens, (h.ones, (marks.after_hour, (mi.tens, (mi.ones, (marks.after_minute, (s.tens, (s.ones, (marks.after_second, tt)))))))))))))))),
            ),
          ),
        ),
      ),
    )
