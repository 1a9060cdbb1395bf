-- Moments as text: a civil date and time, its 20 bytes and its moment.
use Rattle.std.specs.Prelude.{◌≡◌, ◌≤◌, ◌<◌, ◌+◌, ◌*◌, ◌/◌, ◌%◌, ℕ, List, [], ◌∷◌, ◌++◌, pos, slice_index}
use Rattle.jiff_core.specs.Calendar.{days_from_civil, days_in_month}
use Rattle.season_calendar.specs.declared.instant.Parts.{Parts}

-- the parts are a date of the calendar from 1970 to 9999, and a time with seconds from 0 to 59
pub record IsCivil (p : Parts) : Type 0 where
  pub from_1970 : 1970 ≤ p.year
  pub to_9999 : p.year ≤ 9999
  pub from_january : 1 ≤ p.month
  pub to_december : p.month ≤ 12
  pub from_first : 1 ≤ p.day
  pub to_last : p.day ≤ days_in_month (pos p.year) p.month
  pub hours : p.hour < 24
  pub minutes : p.minute < 60
  pub seconds : p.second < 60

-- a number below 100 in two digits
abbrev pub two_digits : ℕ → List ℕ
two_digits n = (48 + n / 10) ∷ (48 + n % 10) ∷ []

-- the parts as `YYYY-MM-DDTHH:MM:SSZ`
abbrev pub text_of : Parts → List ℕ
text_of p =
    two_digits (p.year / 100) ++ (two_digits (p.year % 100) ++ (45 ∷ (two_digits p.month ++ (45 ∷ (two_digits p.day ++ (84 ∷ (two_digits p.hour ++ (58 ∷ (two_digits p.minute ++ (58 ∷ (two_digits p.second ++ 90 ∷ [])))))))))))

-- t is so many seconds after 1970-01-01T00:00:00Z as the parts say: the day of a date is counted from 1970-01-01
pub record IsMomentOf (p : Parts) (t : ℕ) : Type 0 where
  pub day : ℕ
  pub day_is : days_from_civil (pos p.year) p.month p.day ≡ pos day
  pub moment_is : t ≡ day * 86400 + p.hour * 3600 + p.minute * 60 + p.second

-- the text is that of a real date and time from 1970 to 9999, and t is its moment
pub record IsInstant (text : List ℕ) (t : ℕ) : Type 0 where
  pub parts : Parts
  pub civil : IsCivil parts
  pub text_is : text ≡ text_of parts
  pub moment : IsMomentOf parts t

-- the parts fit their digits
pub record IsWritten (p : Parts) : Type 0 where
  pub year : p.year < 10000
  pub month : p.month < 100
  pub day : p.day < 100
  pub hour : p.hour < 100
  pub minute : p.minute < 100
  pub second : p.second < 100

-- what stands between the numbers is right
pub record HasMarks (text : List ℕ) : Type 0 where
  pub after_year : slice_index text 4 ≡ 45
  pub after_month : slice_index text 7 ≡ 45
  pub after_day : slice_index text 10 ≡ 84
  pub after_hour : slice_index text 13 ≡ 58
  pub after_minute : slice_index text 16 ≡ 58
  pub after_second : slice_index text 19 ≡ 90

-- the number n stands in two digits at a place
pub record HasDigits (text : List ℕ) (at n : ℕ) : Type 0 where
  pub below : n < 100
  pub tens : slice_index text at ≡ 48 + n / 10
  pub ones : slice_index text (at + 1) ≡ 48 + n % 10

-- the calendar has this day
pub record IsDay (year month day : ℕ) : Type 0 where
  pub from_january : 1 ≤ month
  pub to_december : month ≤ 12
  pub from_first : 1 ≤ day
  pub to_last : day ≤ days_in_month (pos year) month
