-- The text of a moment is that of the date and time that the moment is.
use Rattle.std.proofs.Common.{◌≡◌, ◌∙◌, sym, ap, ℕ, zero, suc, ◌+◌, ◌-◌, ◌*◌, ◌/◌, ◌%◌, ◌<◌, ◌≤◌, Bool, true, false, List, [], ◌∷◌, ◌++◌, count_by, arith, ℤ, pos, ◌≤ℤ◌, ◌<ℤ◌, IsAscii, lit<, subst}
use Rattle.std.specs.List.{range_with_len}
use Rattle.std.proofs.lemmas.Int.{ints, by_lt_z}
use Rattle.std.proofs.lemmas.List.FromFn.{length-range_with_len, get_or-range_with_len}
use Rattle.jiff_core.specs.Calendar.{day_count, days_from_civil, IsCivilDate}
use Rattle.jiff_core.proofs.SignedLemmas.{signed_arith}
use Rattle.jiff_core.proofs.CalendarLemmas.{days_from_civil-day_count, day_count-day, day_count-day_of_year, day_count-lt_month, day_count-lt_year, days_in_month_bounds}
use Rattle.rule_book.proofs.RankLemmas.{count_prefix}
use Rattle.season_calendar.specs.Instants.{IsInstant, two_digits}
use Rattle.season_book.specs.MomentText.{date_in, has_come, moment_text, month_in, text_in, year_among}

-- of numbers from one on, so many pass a test, where those up to one do and those behind it do not
counted : (test : ℕ → Bool) (from many last : ℕ) → from ≤ last + 1 → last + 1 ≤ from + many → ((n : ℕ) → from ≤ n → n ≤ last → test n ≡ true) → ((n : ℕ) → last < n → n < from + many → test n ≡ false)
    → count_by test (range_with_len from many) ≡ last + 1 - from
counted test from many last low high holds fails =
    count_prefix test (range_with_len from many) (last + 1 - from) (omega (arith, length-range_with_len from many))
    (λ k d less. ap test (get_or-range_with_len from many k d (omega (arith, low, high))) ∙ holds (from + k) (omega arith) (omega (arith, less)))
    (λ k d le within.
    let below : k < many = omega (arith, within, length-range_with_len from many) in
    ap test (get_or-range_with_len from many k d below) ∙ fails (from + k) (omega (arith, le)) (omega (arith, below)))

-- the first of a month that the calendar has
first_civil : (y m : ℕ) → y ≤ 9999 → 1 ≤ m → m ≤ 12 → IsCivilDate (pos y) m 1
first_civil y m year low high =
    ((omega (arith, signed_arith), omega (arith, signed_arith, year)), (low, high), (omega arith, omega (arith, days_in_month_bounds (pos y) m)))

-- a date has come where it is no later than the day's, and not where it is later
module _ (y m d : ℕ) (civil : IsCivilDate (pos y) m d) (day : ℕ) (is : days_from_civil (pos y) m d ≡ pos day) where
  come : (year month date : ℕ) → day_count (pos year) month date ≤ day_count (pos y) m d → has_come day year month date ≡ true
  unfolding has_come
  come year month date le =
      let earlier : days_from_civil (pos year) month date ≤ℤ pos day =
      omega (arith, signed_arith, days_from_civil-day_count (pos year) month date, days_from_civil-day_count (pos y) m d, is, le) in
      grind (arith, ints)

  to_come : (year month date : ℕ) → day_count (pos y) m d < day_count (pos year) month date → has_come day year month date ≡ false
  unfolding has_come
  to_come year month date lt =
      let later : pos day <ℤ days_from_civil (pos year) month date =
      omega (arith, signed_arith, days_from_civil-day_count (pos year) month date, days_from_civil-day_count (pos y) m d, is, lt) in
      grind (arith, ints)

  at_most_9999 : y ≤ 9999
  at_most_9999 = omega (arith, signed_arith, civil.0.1)

  first_date : 1 ≤ d
  first_date = civil.2.0

  year_begun : (year : ℕ) → year ≤ y → day_count (pos year) 1 1 ≤ day_count (pos y) m d
  year_begun year le =
      by_lt_z (pos year) (pos y)
      (λ lt. omega (arith, day_count-lt_year (pos year) 1 1 (pos y) m d (first_civil year 1 (omega (arith, le, at_most_9999)) (omega arith) (omega arith)) first_date lt))
      (λ ge.
      let same : year ≡ y = omega (arith, signed_arith, ge, le) in
      let own : day_count (pos y) 1 1 ≤ day_count (pos y) m d = omega (arith, day_count-day_of_year (pos y) m d first_date, first_date) in
      rw same own)

  year_is : (many : ℕ) → 1970 ≤ y → y < 1970 + many → year_among many day ≡ y
  unfolding year_among
  year_is many low high =
      let years = counted (λ year. has_come day year 1 1) 1970 many y (omega (arith, low)) (omega (arith, high))
      (λ year from le. come year 1 1 (year_begun year le))
      (λ year lt within. to_come year 1 1 (day_count-lt_year (pos y) m d (pos year) 1 1 civil (omega arith) (omega (arith, signed_arith, lt)))) in
      omega (arith, years, low)

  month_begun : (month : ℕ) → 1 ≤ month → month ≤ m → day_count (pos y) month 1 ≤ day_count (pos y) m d
  month_begun month from le =
      by_lt_z (pos month) (pos m)
      (λ lt. omega (arith, day_count-lt_month (pos y) month 1 m d (first_civil y month at_most_9999 from (omega (arith, le, civil.1.1))) first_date (omega (arith, signed_arith, lt))))
      (λ ge.
      let same : month ≡ m = omega (arith, signed_arith, ge, le) in
      let own : day_count (pos y) m 1 ≤ day_count (pos y) m d = omega (arith, day_count-day (pos y) m d 1 first_date (omega arith), first_date) in
      rw same own)

  month_is : month_in y day ≡ m
  unfolding month_in
  month_is =
      let months = counted (λ month. has_come day y month 1) 1 12 m (omega arith) (omega (arith, civil.1.1))
      (λ month from le. come y month 1 (month_begun month from le))
      (λ month lt within. to_come y month 1 (day_count-lt_month (pos y) m d month 1 civil (omega arith) lt)) in
      omega (arith, months)

  date_is : date_in y m day ≡ d
  unfolding date_in
  date_is =
      let dates = counted (λ date. has_come day y m date) 1 31 d (omega arith) (omega (arith, civil.2.1, days_in_month_bounds (pos y) m))
      (λ date from le. come y m date (omega (arith, day_count-day (pos y) m d date first_date from, le)))
      (λ date lt within. to_come y m date (omega (arith, day_count-day (pos y) m d date first_date (omega (arith, lt)), lt))) in
      omega (arith, dates)

-- the text of a moment is that of its instant
pub moment_text_is : (text : List ℕ) (t : ℕ) → IsInstant text t → text ≡ moment_text t
unfolding moment_text
moment_text_is text t i =
    let p = i.parts in
    let c = i.civil in
    let m = i.moment in
    let day : t / 86400 ≡ m.day = omega (arith, m.moment_is, c.hours, c.minutes, c.seconds) in
    let rest : t % 86400 ≡ p.hour * 3600 + p.minute * 60 + p.second = omega (arith, m.moment_is, c.hours, c.minutes, c.seconds) in
    let civil : IsCivilDate (pos p.year) p.month p.day =
    ((omega (arith, signed_arith), omega (arith, signed_arith, c.to_9999)), (c.from_january, c.to_december), (c.from_first, c.to_last)) in
    let year : year_among 8030 (t / 86400) ≡ p.year = ap (year_among 8030) day ∙ year_is p.year p.month p.day civil m.day m.day_is 8030 c.from_1970 (omega (arith, c.to_9999)) in
    let month : month_in (year_among 8030 (t / 86400)) (t / 86400) ≡ p.month = (λ j. month_in (year j) (day j)) ∙ month_is p.year p.month p.day civil m.day m.day_is in
    let date : date_in (year_among 8030 (t / 86400)) (month_in (year_among 8030 (t / 86400)) (t / 86400)) (t / 86400) ≡ p.day =
    (λ j. date_in (year j) (month j) (day j)) ∙ date_is p.year p.month p.day civil m.day m.day_is in
    let hour : t % 86400 / 3600 ≡ p.hour = omega (arith, rest, c.minutes, c.seconds) in
    let minute : t % 86400 / 60 % 60 ≡ p.minute = omega (arith, rest, c.minutes, c.seconds) in
    let second : t % 86400 % 60 ≡ p.second = omega (arith, rest, c.seconds) in
    i.text_is ∙ sym (λ j. text_in (year j) (month j) (date j) (hour j) (minute j) (second j))

-- it is ASCII
module _ (b : ℕ) (rest : List ℕ) (low : b < 128) (others : IsAscii rest) where
  then_ascii : IsAscii (b ∷ rest)
  then_ascii zero = low
  then_ascii (suc k) = others k

none_ascii : IsAscii []
none_ascii k = omega arith

digits_ascii : (n : ℕ) (rest : List ℕ) → n < 100 → IsAscii rest → IsAscii (two_digits n ++ rest)
digits_ascii n rest below others =
    then_ascii (48 + n / 10) ((48 + n % 10) ∷ rest) (omega (arith, below)) (then_ascii (48 + n % 10) rest (omega arith) others)

pub instant_is_ascii : (text : List ℕ) (t : ℕ) → IsInstant text t → IsAscii text
instant_is_ascii text t i =
    let p = i.parts in
    let c = i.civil in
    let day : p.day < 100 = omega (arith, c.to_last, days_in_month_bounds (pos p.year) p.month) in
    let second : List ℕ = two_digits p.second ++ 90 ∷ [] in
    let to_second : List ℕ = 58 ∷ second in
    let minute : List ℕ = two_digits p.minute ++ to_second in
    let to_minute : List ℕ = 58 ∷ minute in
    let hour : List ℕ = two_digits p.hour ++ to_minute in
    let to_hour : List ℕ = 84 ∷ hour in
    let date : List ℕ = two_digits p.day ++ to_hour in
    let to_date : List ℕ = 45 ∷ date in
    let month : List ℕ = two_digits p.month ++ to_date in
    let to_month : List ℕ = 45 ∷ month in
    let year : List ℕ = two_digits (p.year % 100) ++ to_month in
    subst IsAscii (sym i.text_is)
    (digits_ascii (p.year / 100) year (omega (arith, c.to_9999)) (digits_ascii (p.year % 100) to_month (omega arith)
    (then_ascii 45 month (lit< tt) (digits_ascii p.month to_date (omega (arith, c.to_december))
    (then_ascii 45 date (lit< tt) (digits_ascii p.day to_hour day
    (then_ascii 84 hour (lit< tt) (digits_ascii p.hour to_minute (omega (arith, c.hours))
    (then_ascii 58 minute (lit< tt) (digits_ascii p.minute to_second (omega (arith, c.minutes))
    (then_ascii 58 second (lit< tt) (digits_ascii p.second (90 ∷ []) (omega (arith, c.seconds)) (then_ascii 90 [] (lit< tt) none_ascii)))))))))))))
