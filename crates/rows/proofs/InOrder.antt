-- The lists of a valid machine are in order.
use Rattle.std.proofs.Common.{ℕ, List, [], ◌∷◌}
use Rattle.records.specs.declared.account.Account.{Account}
use Rattle.records.specs.declared.transfer.Transfer.{Transfer}
use Rattle.records.specs.Machine.{Machine}
use Rattle.records.specs.Valid.{IsValid}
use Rattle.engine.specs.Promises.{IsAscending}
use Rattle.engine.proofs.ValidMachineLemmas as engine
use Rattle.rows.specs.Tables.{IsAscendingBy}

-- the engine's words on order, in those of the tables
ascends_by : {A : Type 0} (key : A → ℕ) (xs : List A) → engine.AreAscending key xs → IsAscendingBy key xs
ascends_by key [] up = tt
ascends_by key (x ∷ xs) up = (up.0, ascends_by key xs up.1)

ids_ascend : (ids : List ℕ) → IsAscending ids → IsAscendingBy (λ (id : ℕ). id) ids
ids_ascend [] up = tt
ids_ascend (id ∷ ids) up = (up.0, ids_ascend ids up.1)

abbrev pub opened_at : Account → ℕ
opened_at a = a.timestamp

abbrev pub made_at : Transfer → ℕ
made_at t = t.timestamp

pub accounts_ascend : (m : Machine) → IsValid m → IsAscendingBy opened_at m.accounts
accounts_ascend m valid = ascends_by opened_at m.accounts (engine.accounts_ascend m valid)

pub transfers_ascend : (m : Machine) → IsValid m → IsAscendingBy made_at m.transfers
transfers_ascend m valid = ascends_by made_at m.transfers (engine.transfers_ascend m valid)

pub failed_ascend : (m : Machine) → IsValid m → IsAscendingBy (λ (id : ℕ). id) m.failed
failed_ascend m valid = ids_ascend m.failed (engine.failed_ascend m valid)
