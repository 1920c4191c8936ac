-- Days and what they are in nanoseconds, computed by the definitions. The seconds are what `date -u`
-- of the GNU core utilities tells of each day.
use Rattle.std.specs.Prelude.{◌≡◌, [], None, Some, codes, refl}
use Rattle.httpdate.proofs.OnLiterals.{httpdate_on_literals}
use Rattle.command_texts.specs.Dates.{date_in, first_of_day, last_of_day, latest, two_at}

-- the days are read as they are written
abbrev reads_days : Type 0
reads_days =
    (date_in (codes "1970-01-01") ≡ Some (record { year = 1970; month = 1; day = 1 }))
    × (date_in (codes "2026-11-24") ≡ Some (record { year = 2026; month = 11; day = 24 }))

pub days_are_read : reads_days
unfolding date_in two_at
days_are_read = (refl, refl)

-- what is no day of this form
pub others_are_none :
    (date_in (codes "2026-11-4") ≡ None)
    × (date_in (codes "2026/11/24") ≡ None)
    × (date_in (codes "+026-11-24") ≡ None)
    × (date_in (codes "2026-11-24 ") ≡ None)
    × (date_in [] ≡ None)
unfolding date_in two_at
others_are_none = (refl, refl, refl, refl, refl)

-- the first nanosecond of a day, and its last
pub day_bounds :
    (first_of_day (record { year = 1970; month = 1; day = 1 }) ≡ 0)
    × (last_of_day (record { year = 1970; month = 1; day = 1 }) ≡ 86399999999999)
    × (first_of_day (record { year = 2000; month = 2; day = 29 }) ≡ 951782400000000000)
    × (first_of_day (record { year = 2026; month = 11; day = 24 }) ≡ 1795478400000000000)
    × (last_of_day (record { year = 2026; month = 11; day = 24 }) ≡ 1795564799999999999)
    × (first_of_day (record { year = 2100; month = 3; day = 1 }) ≡ 4107542400000000000)
unfolding httpdate_on_literals
day_bounds = (refl, refl, refl, refl, refl, refl)

-- a day beyond 2^64 nanoseconds counts as the latest moment
pub far_days :
    (first_of_day (record { year = 2554; month = 7; day = 21 }) ≡ 18446659200000000000)
    × (last_of_day (record { year = 2554; month = 7; day = 21 }) ≡ latest)
unfolding httpdate_on_literals
far_days = (refl, refl)
