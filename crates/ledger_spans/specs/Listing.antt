-- In which order a tenant's rows are listed, and what stands in the directory.
use Rattle.std.specs.Prelude.{ℕ, ℤ, List, [], ◌∷◌, Option, Some, None, take}
use Rattle.std.specs.declared.cmp.Ordering.{Ordering}
use Rattle.sqlite_value.specs.Order.{Row, row_cmp}
use Rattle.rows.specs.declared.all_rows.DirectoryRow.{DirectoryRow}
use Rattle.ledger_layout.specs.declared.file_rows.ClockRow.{ClockRow}
use Rattle.ledger_layout.specs.declared.file_rows.TenantEntry.{TenantEntry}

-- by the first values of their columns, as SQL orders values
abbrev pub by_first : {R : Type 0} → ℕ → (R → Row) → R → R → Ordering
by_first many values a b = row_cmp (take many (values a)) (take many (values b))

-- what the table has of a row of the directory: its number as the rowid, and the rest
abbrev pub entry_of : DirectoryRow → ℤ × TenantEntry
entry_of row = (row.number, record { name = row.name; digest = row.digest })

-- the clock that was found, or none
abbrev pub clocks_in : Option (ℤ × ClockRow) → List ℤ
clocks_in None = []
clocks_in (Some it) = it.1.clock ∷ []
