-- The table of damage: of each kind, at which rows a tenant has it. A place is the number of a row
-- among the tenant's rows of a table, from 0, in order of key.
use Rattle.std.specs.Prelude.{◌≡◌, ℕ, zero, suc, ◌<◌, ◌≤◌, ◌==◌, ◌⊎◌, List, ◌++◌, map, count_by, Option, None, IfSome, IsSomeAnd, slice_get}
use Rattle.records.specs.Machine.{Machine, new_machine}
use Rattle.records.specs.Valid.{IsNextFailed}
use Rattle.rows.specs.Cells.{balance_cells, status_cells, history_cells}
use Rattle.rows.specs.Tables.{history_key}
use Rattle.rows.specs.TypedRows.{TypedRows, FileRows}
use Rattle.running.specs.declared.entry.Entry.{Entry}
use Rattle.running.specs.declared.entry.Entry.TheVariants.{Opened, Moved}
use Rattle.running.specs.Entries.{CanCome, IsFirstRefused, machine_of}
use Rattle.audit.specs.declared.damage.DamageKind.{DamageKind}
use Rattle.audit.specs.declared.damage.DamageKind.TheVariants as kind
use Rattle.audit.specs.Order.{in_order, IsBadRow, Differ}
use Rattle.audit.specs.Shapes.{IsMisshapen}
use Rattle.audit.specs.Told.{TellsRows, account_times, transfer_times, entries_told, machine_told, prescribed}

-- a timestamp above 0, which stands among these once
pub record IsOwnTime (times : List ℕ) (timestamp : ℕ) : Type 0 where
  pub positive : 0 < timestamp
  pub once : count_by (λ other. other == timestamp) times ≤ 1

-- the timestamp of the account at this place is 0 or another account's, or that of the transfer is
-- 0 or another entry's
abbrev pub IsBadTime : TypedRows → ℕ → Type 0
IsBadTime told place =
    let accounts = account_times told in
    let transfers = transfer_times told in
    IsBadRow (IsOwnTime accounts) accounts place
    ⊎ IsBadRow (IsOwnTime (accounts ++ transfers)) transfers place

-- an entry is the row at this place of its table
abbrev pub IsRowOf : TypedRows → ℕ → Entry → Type 0
IsRowOf told place (Opened account) = IsSomeAnd (slice_get told.accounts place) (λ a. a ≡ account)
IsRowOf told place (Moved transfer) = IsSomeAnd (slice_get told.transfers place) (λ t. t ≡ transfer)

-- the first entry that the machine would not have accepted there is the one at this place; an
-- account beyond the latest clock is one too
abbrev pub IsRefusedRow : TypedRows → ℕ → Type 0
IsRefusedRow told place =
    (n : ℕ)
    × IsFirstRefused new_machine (entries_told told) n
    × IsSomeAnd (slice_get (entries_told told) n) (IsRowOf told place)

-- the id in front of a place, if there is one
abbrev pub previous : List ℕ → ℕ → Option ℕ
previous ids zero = None
previous ids (suc place) = slice_get ids place

-- an id that can have failed, above the one in front of it, in a version that keeps failed ids
pub record IsGoodFailed (version : ℕ) (m : Machine) (before : Option ℕ) (id : ℕ) : Type 0 where
  pub kept : 3 ≤ version
  pub apart : IsNextFailed m id
  pub above : IfSome before (λ other. other < id)

-- the failed id at this place is 0, the greatest number, an accepted transfer's, or not above the
-- one in front of it
abbrev pub IsBadFailed : ℕ → Machine → List ℕ → ℕ → Type 0
IsBadFailed version m failed place =
    IsBadRow (IsGoodFailed version m (previous failed place)) failed place

-- where rows whose cells can be read have each kind
abbrev pub IsToldWrong : ℕ → FileRows → TypedRows → DamageKind → ℕ → Type 0
IsToldWrong version rows told kind.Shape place = IsMisshapen rows place
IsToldWrong version rows told kind.Timestamp place = IsBadTime told place
IsToldWrong version rows told kind.Entry place = IsRefusedRow told place
IsToldWrong version rows told kind.Balance place =
    Differ rows.balances
    (map balance_cells (in_order (λ row. row.account) (prescribed version told).balances)) place
IsToldWrong version rows told kind.Status place =
    Differ rows.statuses
    (map status_cells (in_order (λ row. row.transfer) (prescribed version told).statuses)) place
IsToldWrong version rows told kind.History place =
    Differ rows.history
    (map history_cells (in_order history_key (prescribed version told).history)) place
IsToldWrong version rows told kind.Clock place =
    (place ≡ 0) × (CanCome (machine_of (entries_told told)) told.clock → ⊥)
IsToldWrong version rows told kind.FailedId place =
    IsBadFailed version (machine_told told) told.failed place

-- where a tenant's rows, in this version of the schema, have each kind; where some cell cannot be
-- read they tell nothing, and have the first kind alone
abbrev pub IsWrong : ℕ → FileRows → DamageKind → ℕ → Type 0
IsWrong version rows kind.Shape place = IsMisshapen rows place
IsWrong version rows kind place =
    (told : TypedRows) × TellsRows rows told × IsToldWrong version rows told kind place
