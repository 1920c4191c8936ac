-- Empty lists are a new tenant's.
use Rattle.std.proofs.Common.{◌≡◌, ℕ, List, []}
use Rattle.records.specs.declared.account.Account.{Account}
use Rattle.records.specs.declared.transfer.Transfer.{Transfer}
use Rattle.records.specs.Valid.{IsValid, new_tenant}
use Rattle.plain.specs.PlainTables.{ascending}

pub valid_new :
    (accounts : List Account) (transfers : List Transfer) (failed : List ℕ) → accounts ≡ [] →
    transfers ≡ [] → failed ≡ [] →
    IsValid (record
    { accounts = accounts; transfers = transfers; clock = 0; failed = ascending failed })
valid_new accounts transfers failed no_accounts no_transfers no_failed =
    rw (no_accounts, no_transfers, no_failed) new_tenant
