-- Accounts among transfers, in order of timestamp.
use Rattle.std.proofs.Common.{◌≡◌, ℕ, suc, ◌+◌, ◌<◌, ◌≤◌, Bool, true, false, List, [], ◌∷◌, ◌++◌, map, length, refl, sym, ap, ◌∙◌, cond, ltb, arith, subst}
use Rattle.std.specs.List.{AllByRecursion}
use Rattle.std.proofs.lemmas.Bool.{lt-ltb, le-ltb}
use Rattle.std.proofs.lemmas.List.{map-append, length-map}
use Rattle.records.specs.declared.account.Account.{Account}
use Rattle.records.specs.declared.transfer.Transfer.{Transfer}
use Rattle.seals.specs.declared.record.Record.{Record}
use Rattle.seals.specs.declared.record.Record.TheVariants as one
use Rattle.seals.specs.Records.{time_of, with_account_among, in_order}

-- a record that is later than the account stays the last one
among_last : (a : Account) (records : List Record) (r : Record) → a.timestamp < time_of r
    → with_account_among a (records ++ r ∷ []) ≡ with_account_among a records ++ r ∷ []
unfolding with_account_among
among_last a [] r earlier = ap (λ b. cond b (one.Account a ∷ r ∷ []) (r ∷ one.Account a ∷ [])) (lt-ltb a.timestamp (time_of r) earlier)
among_last a (first ∷ later) r earlier = at (ltb a.timestamp (time_of first)) (among_last a later r earlier)
  where
    at : (b : Bool) → with_account_among a (later ++ r ∷ []) ≡ with_account_among a later ++ r ∷ [] → cond b (one.Account a ∷ first ∷ (later ++ r ∷ [])) (first ∷ with_account_among a (later ++ r ∷ []))
        ≡ cond b (one.Account a ∷ first ∷ later) (first ∷ with_account_among a later) ++ r ∷ []
    at true rest = refl
    at false rest = ap (λ records. first ∷ records) rest

-- an account that is later than the transfers comes behind them
among_later : (a : Account) (transfers : List Transfer) → AllByRecursion (λ (t : Transfer). t.timestamp < a.timestamp) transfers
    → with_account_among a (map one.Transfer transfers) ≡ map one.Transfer transfers ++ one.Account a ∷ []
unfolding with_account_among
among_later a [] all = refl
among_later a (t ∷ transfers) all =
    ap (λ b. cond b (one.Account a ∷ one.Transfer t ∷ map one.Transfer transfers) (one.Transfer t ∷ with_account_among a (map one.Transfer transfers)))
    (le-ltb a.timestamp t.timestamp (omega (arith, all.0)))
    ∙ ap (λ records. one.Transfer t ∷ records) (among_later a transfers all.1)

pub order_account : (accounts : List Account) (transfers : List Transfer) (a : Account)
    → AllByRecursion (λ (b : Account). b.timestamp < a.timestamp) accounts
    → AllByRecursion (λ (t : Transfer). t.timestamp < a.timestamp) transfers
    → in_order (accounts ++ a ∷ []) transfers ≡ in_order accounts transfers ++ one.Account a ∷ []
unfolding in_order
order_account [] transfers a earlier passed = among_later a transfers passed
order_account (b ∷ accounts) transfers a earlier passed =
    ap (with_account_among b) (order_account accounts transfers a earlier.1 passed)
    ∙ among_last b (in_order accounts transfers) (one.Account a) earlier.0

pub order_transfer : (accounts : List Account) (transfers : List Transfer) (t : Transfer)
    → AllByRecursion (λ (b : Account). b.timestamp < t.timestamp) accounts
    → in_order accounts (transfers ++ t ∷ []) ≡ in_order accounts transfers ++ one.Transfer t ∷ []
unfolding in_order
order_transfer [] transfers t earlier = map-append one.Transfer transfers (t ∷ [])
order_transfer (b ∷ accounts) transfers t earlier =
    ap (with_account_among b) (order_transfer accounts transfers t earlier.1)
    ∙ among_last b (in_order accounts transfers) (one.Transfer t) earlier.0

length_among : (a : Account) (records : List Record) → length (with_account_among a records) ≡ suc (length records)
unfolding with_account_among
length_among a [] = refl
length_among a (first ∷ later) = at (ltb a.timestamp (time_of first)) (length_among a later)
  where
    at : (b : Bool) → length (with_account_among a later) ≡ suc (length later) → length (cond b (one.Account a ∷ first ∷ later) (first ∷ with_account_among a later)) ≡ suc (suc (length later))
    at true rest = refl
    at false rest = ap suc rest

pub length_in_order : (accounts : List Account) (transfers : List Transfer)
    → length (in_order accounts transfers) ≡ length accounts + length transfers
unfolding in_order
length_in_order [] transfers = omega (arith, length-map transfers one.Transfer)
length_in_order (a ∷ accounts) transfers =
    omega (arith, length_among a (in_order accounts transfers), length_in_order accounts transfers)

-- the accounts and the transfers of a list of records
abbrev pub accounts_in : List Record → List Account
accounts_in [] = []
accounts_in (one.Account a ∷ records) = a ∷ accounts_in records
accounts_in (one.Transfer t ∷ records) = accounts_in records

abbrev pub transfers_in : List Record → List Transfer
transfers_in [] = []
transfers_in (one.Account a ∷ records) = transfers_in records
transfers_in (one.Transfer t ∷ records) = t ∷ transfers_in records

accounts_among : (a : Account) (records : List Record)
    → AllByRecursion (λ (b : Account). a.timestamp < b.timestamp) (accounts_in records)
    → accounts_in (with_account_among a records) ≡ a ∷ accounts_in records
unfolding with_account_among
accounts_among a [] all = refl
accounts_among a (one.Account b ∷ records) all =
    ap (λ c. accounts_in (cond c (one.Account a ∷ one.Account b ∷ records) (one.Account b ∷ with_account_among a records)))
    (lt-ltb a.timestamp b.timestamp all.0)
accounts_among a (one.Transfer t ∷ records) all = at (ltb a.timestamp t.timestamp) (accounts_among a records all)
  where
    at : (c : Bool) → accounts_in (with_account_among a records) ≡ a ∷ accounts_in records → accounts_in (cond c (one.Account a ∷ one.Transfer t ∷ records) (one.Transfer t ∷ with_account_among a records))
        ≡ a ∷ accounts_in records
    at true rest = refl
    at false rest = rest

transfers_among : (a : Account) (records : List Record) → transfers_in (with_account_among a records) ≡ transfers_in records
unfolding with_account_among
transfers_among a [] = refl
transfers_among a (one.Account b ∷ records) = at (ltb a.timestamp b.timestamp) (transfers_among a records)
  where
    at : (c : Bool) → transfers_in (with_account_among a records) ≡ transfers_in records → transfers_in (cond c (one.Account a ∷ one.Account b ∷ records) (one.Account b ∷ with_account_among a records))
        ≡ transfers_in records
    at true rest = refl
    at false rest = rest
transfers_among a (one.Transfer t ∷ records) = at (ltb a.timestamp t.timestamp) (transfers_among a records)
  where
    at : (c : Bool) → transfers_in (with_account_among a records) ≡ transfers_in records → transfers_in (cond c (one.Account a ∷ one.Transfer t ∷ records) (one.Transfer t ∷ with_account_among a records))
        ≡ t ∷ transfers_in records
    at true rest = refl
    at false rest = ap (λ transfers. t ∷ transfers) rest

accounts_of_transfers : (transfers : List Transfer) → accounts_in (map one.Transfer transfers) ≡ []
accounts_of_transfers [] = refl
accounts_of_transfers (t ∷ transfers) = accounts_of_transfers transfers

transfers_of_transfers : (transfers : List Transfer) → transfers_in (map one.Transfer transfers) ≡ transfers
transfers_of_transfers [] = refl
transfers_of_transfers (t ∷ transfers) = ap (λ rest. t ∷ rest) (transfers_of_transfers transfers)

-- each account is earlier than those behind it
abbrev pub Ascend : List Account → Type 0
Ascend [] = Unit {0}
Ascend (a ∷ accounts) = AllByRecursion (λ (b : Account). a.timestamp < b.timestamp) accounts × Ascend accounts

pub accounts_in_order : (accounts : List Account) (transfers : List Transfer) → Ascend accounts
    → accounts_in (in_order accounts transfers) ≡ accounts
unfolding in_order
accounts_in_order [] transfers ascend = accounts_of_transfers transfers
accounts_in_order (a ∷ accounts) transfers ascend =
    let rest = accounts_in_order accounts transfers ascend.1 in
    accounts_among a (in_order accounts transfers)
    (subst (AllByRecursion (λ (b : Account). a.timestamp < b.timestamp)) (sym rest) ascend.0)
    ∙ ap (λ more. a ∷ more) rest

pub transfers_in_order : (accounts : List Account) (transfers : List Transfer)
    → transfers_in (in_order accounts transfers) ≡ transfers
unfolding in_order
transfers_in_order [] transfers = transfers_of_transfers transfers
transfers_in_order (a ∷ accounts) transfers =
    transfers_among a (in_order accounts transfers) ∙ transfers_in_order accounts transfers
