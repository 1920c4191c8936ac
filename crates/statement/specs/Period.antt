-- The entries of a statement that lie in a period, and the sums before it and at its end.
use Rattle.std.specs.Prelude.{Bool, ◌&&◌, ◌||◌, nat_le, nat_lt, List, [], ◌∷◌, filter}
use Rattle.records.specs.declared.balances.Balances.{Balances}
use Rattle.records.specs.declared.statement_row.StatementRow.{StatementRow}
use Rattle.statement.specs.declared.period.Period.{Period}

-- whether an entry is earlier than the period
abbrev pub is_before : Period → StatementRow → Bool
is_before period row = nat_lt row.timestamp period.from

-- whether it lies in the period: both bounds are inclusive
abbrev pub is_within : Period → StatementRow → Bool
is_within period row = nat_le period.from row.timestamp && nat_le row.timestamp period.to

-- whether it is earlier than the period, or lies in it
abbrev pub is_reached : Period → StatementRow → Bool
is_reached period row = is_before period row || is_within period row

-- the entries that lie in the period
abbrev pub within : Period → List StatementRow → List StatementRow
within period rows = filter (is_within period) rows

-- no sums
abbrev pub no_balances : Balances
no_balances = record {
  debits = record { pending = 0; posted = 0 };
  credits = record { pending = 0; posted = 0 };
}

-- the sums after the last of these entries, which are oldest first; where there is none, the sums
-- given
abbrev pub sums_after : Balances → List StatementRow → Balances
sums_after sums [] = sums
sums_after sums (row ∷ rows) = sums_after row.balances rows

-- the sums at the beginning of the period: after the last entry that is earlier, else 0
abbrev pub opening : Period → List StatementRow → Balances
opening period rows = sums_after no_balances (filter (is_before period) rows)

-- the sums at its end: after the last entry that is earlier or lies in it, else 0
abbrev pub closing : Period → List StatementRow → Balances
closing period rows = sums_after no_balances (filter (is_reached period) rows)
