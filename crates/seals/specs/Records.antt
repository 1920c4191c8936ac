-- A machine's accounts and transfers in one list, in order of timestamp.
use Rattle.std.specs.Prelude.{ℕ, nat_lt, List, [], ◌∷◌, map, if◌then◌else◌}
use Rattle.records.specs.declared.account.Account.{Account}
use Rattle.records.specs.declared.transfer.Transfer.{Transfer}
use Rattle.records.specs.Machine.{Machine}
use Rattle.seals.specs.declared.record.Record.{Record}
use Rattle.seals.specs.declared.record.Record.TheVariants as one
use Rattle.seals.specs.Seals.{first_seal, seal_from}

abbrev pub time_of : Record → ℕ
time_of (one.Account a) = a.timestamp
time_of (one.Transfer t) = t.timestamp

-- an account among records, before those that are later
unfoldable pub with_account_among : Account → List Record → List Record
with_account_among a [] = one.Account a ∷ []
with_account_among a (first ∷ later) =
    if nat_lt a.timestamp (time_of first) then one.Account a ∷ first ∷ later
    else first ∷ with_account_among a later

-- accounts among transfers, each before the records that are later
unfoldable pub in_order : List Account → List Transfer → List Record
in_order [] transfers = map one.Transfer transfers
in_order (a ∷ accounts) transfers = with_account_among a (in_order accounts transfers)

-- the records of a machine, in order of timestamp
abbrev pub records_of : Machine → List Record
records_of m = in_order m.accounts m.transfers

-- the seal of a machine
abbrev pub seal_of : Machine → List ℕ
seal_of m = seal_from first_seal (records_of m)
