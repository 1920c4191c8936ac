-- What a valid machine's lists have: their widths, and their order.
use Rattle.std.proofs.Common.{◌≡◌, ℕ, ◌<◌, Bool, true, false, List, [], ◌∷◌, ◌++◌, map, cond, ltb}
use Rattle.std.specs.List.{AllByRecursion}
use Rattle.std.proofs.lemmas.List.Elements.{recursion_from_All}
use Rattle.records.specs.declared.account.Account.{Account}
use Rattle.records.specs.declared.transfer.Transfer.{Transfer}
use Rattle.records.specs.Machine.{Machine}
use Rattle.records.specs.Valid.{IsValid, new_tenant, later, next_account, next_transfer, next_failed}
use Rattle.records.specs.Widths.{IsAccountInWidth, IsTransferInWidth}
use Rattle.seals.specs.declared.record.Record.{Record}
use Rattle.seals.specs.declared.record.Record.TheVariants as one
use Rattle.seals.specs.Records.{in_order, time_of, with_account_among}
use Rattle.seals.proofs.Order.{Ascend}
use Rattle.seals.proofs.Texts.{IsInWidth}

pub record Lists (m : Machine) : Type 0 where
  pub accounts : AllByRecursion IsAccountInWidth m.accounts
  pub transfers : AllByRecursion IsTransferInWidth m.transfers
  pub ascend : Ascend m.accounts

all_and : {A : Type 0} (P : A → Type 0) (xs : List A) (x : A) → AllByRecursion P xs → P x → AllByRecursion P (xs ++ x ∷ [])
all_and P [] x all is = (is, tt)
all_and P (y ∷ xs) x all is = (all.0, all_and P xs x all.1 is)

ascend_and : (accounts : List Account) (a : Account) → Ascend accounts
    → AllByRecursion (λ (b : Account). b.timestamp < a.timestamp) accounts → Ascend (accounts ++ a ∷ [])
ascend_and [] a ascend earlier = (tt, tt)
ascend_and (b ∷ accounts) a ascend earlier =
    (all_and (λ (c : Account). b.timestamp < c.timestamp) accounts a ascend.0 earlier.0, ascend_and accounts a ascend.1 earlier.1)

pub lists : (m : Machine) → IsValid m → Lists m
lists m new_tenant = record { accounts = tt; transfers = tt; ascend = tt }
lists m (later before clock valid from to) =
    let had = lists before valid in record { accounts = had.accounts; transfers = had.transfers; ascend = had.ascend }
lists m (next_account before a valid next) =
    let had = lists before valid in
    record {
      accounts = all_and IsAccountInWidth before.accounts a had.accounts next.widths;
      transfers = had.transfers;
      ascend = ascend_and before.accounts a had.ascend
          (recursion_from_All (λ (b : Account). b.timestamp < a.timestamp) before.accounts next.timestamp.after_accounts);
    }
lists m (next_transfer before t valid next) =
    let had = lists before valid in
    record {
      accounts = had.accounts;
      transfers = all_and IsTransferInWidth before.transfers t had.transfers next.widths;
      ascend = had.ascend;
    }
lists m (next_failed before id valid next) =
    let had = lists before valid in record { accounts = had.accounts; transfers = had.transfers; ascend = had.ascend }

widths_among : (a : Account) (records : List Record) → IsAccountInWidth a → AllByRecursion IsInWidth records
    → AllByRecursion IsInWidth (with_account_among a records)
unfolding with_account_among
widths_among a [] is all = (is, tt)
widths_among a (first ∷ rest) is all = at (ltb a.timestamp (time_of first)) (widths_among a rest is all.1)
  where
    at : (b : Bool) → AllByRecursion IsInWidth (with_account_among a rest)
        → AllByRecursion IsInWidth (cond b (one.Account a ∷ first ∷ rest) (first ∷ with_account_among a rest))
    at true more = (is, all)
    at false more = (all.0, more)

widths_of_transfers : (transfers : List Transfer) → AllByRecursion IsTransferInWidth transfers
    → AllByRecursion IsInWidth (map one.Transfer transfers)
widths_of_transfers [] all = tt
widths_of_transfers (t ∷ transfers) all = (all.0, widths_of_transfers transfers all.1)

pub widths_in_order : (accounts : List Account) (transfers : List Transfer)
    → AllByRecursion IsAccountInWidth accounts → AllByRecursion IsTransferInWidth transfers
    → AllByRecursion IsInWidth (in_order accounts transfers)
unfolding in_order
widths_in_order [] transfers all rest = widths_of_transfers transfers rest
widths_in_order (a ∷ accounts) transfers all rest =
    widths_among a (in_order accounts transfers) all.0 (widths_in_order accounts transfers all.1 rest)
