-- Rows that pass.
use Rattle.std.specs.Prelude.{◌≡◌, ℕ}
use Rattle.records.specs.Machine.{Machine}
use Rattle.records.specs.Valid.{IsValid}
use Rattle.rows.specs.Prescribed.{rows_for}
use Rattle.rows.specs.SameRows.{AreSameRows}
use Rattle.rows.specs.Tables.{history_key, IsAscendingBy}
use Rattle.rows.specs.TypedRows.{TypedRows, FileRows, cells_of}
use Rattle.audit.specs.declared.damage.DamageKind.{DamageKind}
use Rattle.audit.specs.Table.{IsWrong}

-- derived rows in order of key, and failed ids in order
pub record AreInOrder (rows : TypedRows) : Type 0 where
  pub balances : IsAscendingBy (λ row. row.account) rows.balances
  pub statuses : IsAscendingBy (λ row. row.transfer) rows.statuses
  pub history : IsAscendingBy history_key rows.history
  pub failed : IsAscendingBy (λ id. id) rows.failed

-- the rows are those of this machine in this version of the schema
pub record AreRowsOf (version : ℕ) (m : Machine) (rows : FileRows) : Type 0 where
  pub typed : TypedRows
  pub cells : cells_of typed ≡ rows
  pub same : AreSameRows (rows_for version m) typed
  pub in_order : AreInOrder typed

-- they are those of some valid machine
abbrev pub AreSound : ℕ → FileRows → Type 0
AreSound version rows = (m : Machine) × IsValid m × AreRowsOf version m rows

-- such rows have no damage
abbrev pub SoundRowsPass : Type 0
SoundRowsPass =
    (version : ℕ) (rows : FileRows) → AreSound version rows →
    (kind : DamageKind) (place : ℕ) → IsWrong version rows kind place → ⊥
