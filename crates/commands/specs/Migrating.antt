-- Migrations: the version that is asked for, and the faults.
use Rattle.std.specs.Prelude.{◌≡◌, ◌≤◌, ℕ, List}
use Rattle.amount.specs.Decimal.{decimal_of}
use Rattle.migrate.specs.declared.fault.MigrateFault.{MigrateFault}
use Rattle.migrate.specs.declared.fault.MigrateFault.TheVariants as migrating
use Rattle.command_texts.specs.declared.fault.Fault.{Fault}
use Rattle.command_texts.specs.declared.fault.Fault.TheVariants.{NewerSchema, Damaged, Unavailable}

-- the fault that the program tells where a ledger is not migrated
abbrev pub migrate_fault : MigrateFault → Fault
migrate_fault migrating.NewerSchema = NewerSchema
migrate_fault (migrating.Damaged damage) = Damaged
migrate_fault (migrating.Unavailable why) = Unavailable

-- a version of the schema up to the current one, in canonical decimal
abbrev pub IsVersion : List ℕ → Type 0
IsVersion text = (version : ℕ) × (1 ≤ version) × (version ≤ 3) × (text ≡ decimal_of version)
