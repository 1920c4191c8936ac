use Rattle.std.proofs.Common.{◌≡◌, ◌+◌, ◌-◌, arith}
use Rattle.httpdate.proofs.CalendarLemmas.{days_of_years_closed, days_from_civil_bound}
use Rattle.command_texts.proofs.date.Date.days.Goals as goal

pub returns-clause-value : goal.returns-clause-value
returns-clause-value c =
    let past : c.args.self.year - 1970 + 369 ≡ c.args.self.year - 1601 = omega arith in
    omega (arith, rw past at (days_of_years_closed (c.args.self.year - 1970)))

pub returns-clause-bound : goal.returns-clause-bound
returns-clause-bound c =
    let past : c.args.self.year - 1970 + 369 ≡ c.args.self.year - 1601 = omega arith in
    omega (arith, rw past at (days_of_years_closed (c.args.self.year - 1970)), days_from_civil_bound _ _ _ c.requires)
