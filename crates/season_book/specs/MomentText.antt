-- A moment as text, by the days of the calendar that have come by then.
use Rattle.std.specs.Prelude.{ℕ, ◌+◌, ◌/◌, ◌%◌, ◌∷◌, ◌++◌, [], Bool, List, pos, count_by, int_le}
use Rattle.std.specs.List.{range_with_len}
use Rattle.jiff_core.specs.Calendar.{days_from_civil}
use Rattle.season_calendar.specs.Instants.{two_digits}

-- whether a date has come on a day by its number, where 1970-01-01 is day 0
unfoldable pub has_come : ℕ → ℕ → ℕ → ℕ → Bool
has_come day year month date = int_le (days_from_civil (pos year) month date) (pos day)

-- the year of a day: of so many years from 1970 on, the last that has come
unfoldable pub year_among : ℕ → ℕ → ℕ
year_among many day = 1969 + count_by (λ year. has_come day year 1 1) (range_with_len 1970 many)

-- the month of a day in its year, and the day in its month: the last that has come
unfoldable pub month_in : ℕ → ℕ → ℕ
month_in year day = count_by (λ month. has_come day year month 1) (range_with_len 1 12)

unfoldable pub date_in : ℕ → ℕ → ℕ → ℕ
date_in year month day = count_by (λ date. has_come day year month date) (range_with_len 1 31)

-- a date and a time, as `YYYY-MM-DDTHH:MM:SSZ`
abbrev pub text_in : ℕ → ℕ → ℕ → ℕ → ℕ → ℕ → List ℕ
text_in year month date hour minute second =
    two_digits (year / 100) ++ (two_digits (year % 100) ++ (45 ∷ (two_digits month ++ (45 ∷ (two_digits date ++ (84 ∷ (two_digits hour ++ (58 ∷ (two_digits minute ++ (58 ∷ (two_digits second ++ 90 ∷ [])))))))))))

-- the same after so many seconds of a day, of this year and month
abbrev pub text_on : ℕ → ℕ → ℕ → ℕ → List ℕ
text_on year month day seconds =
    text_in year month (date_in year month day) (seconds / 3600) (seconds / 60 % 60) (seconds % 60)

abbrev pub text_after : ℕ → ℕ → ℕ → List ℕ
text_after year day seconds = text_on year (month_in year day) day seconds

-- a moment from 1970 to 9999, in seconds since 1970-01-01T00:00:00Z
unfoldable pub moment_text : ℕ → List ℕ
moment_text t = text_after (year_among 8030 (t / 86400)) (t / 86400) (t % 86400)
