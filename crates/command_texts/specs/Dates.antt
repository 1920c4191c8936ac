-- Moments on the command line: dates, which are days of UTC, and nanoseconds.
use Rattle.std.specs.Prelude.{◌≡◌, ◌≢◌, ◌⊎◌, ◌<◌, ◌^◌, ◌+◌, ◌-◌, ◌*◌, ◌==◌, ◌&&◌, ℕ, min, if◌then◌else◌}
use Rattle.std.specs.Prelude.{List, length, slice_index, Option, Some, None, option_and_then}
use Rattle.std.specs.Prelude.{Result, Ok, Err}
use Rattle.std.specs.Char.{is_ascii_digit}
use Rattle.amount.specs.Decimal.{decimal_of}
use Rattle.httpdate.specs.Calendar.{IsCivilDate, days_from_civil}
use Rattle.command_texts.specs.declared.date.Date.{Date}
use Rattle.command_texts.specs.declared.fault.Fault.{Fault}
use Rattle.command_texts.specs.declared.fault.Fault.TheVariants.{BadTime}

-- the number of the two digits at this place and the next; nothing where one is no digit
unfoldable pub two_at : List ℕ → ℕ → Option ℕ
two_at text place =
    if is_ascii_digit (slice_index text place) && is_ascii_digit (slice_index text (place + 1))
    then Some ((slice_index text place - 48) * 10 + (slice_index text (place + 1) - 48))
    else None

-- the numbers of a text of the form `YYYY-MM-DD`, whether or not the calendar has the day
unfoldable pub date_in : List ℕ → Option Date
date_in text =
    if (length text == 10) && ((slice_index text 4 == 45) && (slice_index text 7 == 45))
    then option_and_then (λ century. option_and_then (λ year. option_and_then (λ month.
    option_and_then (λ day.
    Some (record { year = century * 100 + year; month = month; day = day }))
    (two_at text 8)) (two_at text 5)) (two_at text 2)) (two_at text 0)
    else None

-- the text is a day from 1970 on
abbrev pub IsDay : List ℕ → Date → Type 0
IsDay text date = (date_in text ≡ Some date) × IsCivilDate date.year date.month date.day

-- the nanoseconds of a day
abbrev pub day_nanos : ℕ
day_nanos = 86400000000000

-- the latest moment
abbrev pub latest : ℕ
latest = 2 ^ 64 - 1

-- the days from 1 January 1970 to the day
abbrev pub days_to : Date → ℕ
days_to date = days_from_civil date.year date.month date.day

-- the first nanosecond of a day, and the last; the latest moment, where the day lies beyond it
abbrev pub first_of_day : Date → ℕ
first_of_day date = min (days_to date * day_nanos) latest

abbrev pub last_of_day : Date → ℕ
last_of_day date = min (days_to date * day_nanos + (day_nanos - 1)) latest

-- the moment that a text means: that of a day, or nanoseconds in canonical decimal
abbrev pub IsMoment : (Date → ℕ) → List ℕ → ℕ → Type 0
IsMoment of_day text moment =
    ((date : Date) × IsDay text date × (moment ≡ of_day date))
    ⊎ ((moment < 2 ^ 64) × (text ≡ decimal_of moment))

-- a text is read as a moment, or it means none
abbrev pub ReadsMoment : (Date → ℕ) → List ℕ → Result ℕ Fault → Type 0
ReadsMoment of_day text (Ok moment) = IsMoment of_day text moment
ReadsMoment of_day text (Err fault) =
    (fault ≡ BadTime)
    × ((date : Date) → ¬ IsDay text date)
    × ((moment : ℕ) → moment < 2 ^ 64 → text ≢ decimal_of moment)
