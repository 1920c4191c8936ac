-- In a valid machine no entry is later than the clock.
use Rattle.std.proofs.Common.{ℕ, ◌<◌, ◌≤◌, [], ◌∷◌, refl, arith, All}
use Rattle.std.proofs.lemmas.List.Elements.{All-weaker, All-append, All-cons, All-nil}
use Rattle.records.specs.declared.account.Account.{Account}
use Rattle.records.specs.declared.transfer.Transfer.{Transfer}
use Rattle.records.specs.Machine.{Machine}
use Rattle.records.specs.Step.{at_clock}
use Rattle.records.specs.Valid.{IsValid}
use Rattle.records.specs.Valid.IsValid.{new_tenant, later, next_account, next_transfer, next_failed}
use Rattle.chain.specs.InBatch.{IsInBatch}

pub record IsUpToClock (m : Machine) : Type 0 where
  pub accounts : All (λ (a : Account). a.timestamp ≤ m.clock) m.accounts
  pub transfers : All (λ (t : Transfer). t.timestamp ≤ m.clock) m.transfers

pub up_to_clock : {m : Machine} → IsValid m → IsUpToClock m
up_to_clock new_tenant = record {
  accounts = All-nil (λ (a : Account). a.timestamp ≤ 0);
  transfers = All-nil (λ (t : Transfer). t.timestamp ≤ 0);
}
up_to_clock (later m clock valid after bounded) =
    let before = up_to_clock valid in
    record {
      accounts = All-weaker (λ (a : Account). a.timestamp ≤ m.clock) (λ a. a.timestamp ≤ clock)
          (λ a h. omega arith) m.accounts before.accounts;
      transfers = All-weaker (λ (t : Transfer). t.timestamp ≤ m.clock) (λ t. t.timestamp ≤ clock)
          (λ t h. omega arith) m.transfers before.transfers;
    }
up_to_clock (next_account m a valid next) =
    let P = λ (a : Account). a.timestamp ≤ m.clock in
    record {
      accounts = All-append P m.accounts (a ∷ []) (up_to_clock valid).accounts
          (All-cons P a [] next.timestamp.by_clock (All-nil P));
      transfers = (up_to_clock valid).transfers;
    }
up_to_clock (next_transfer m t valid next) =
    let P = λ (t : Transfer). t.timestamp ≤ m.clock in
    record {
      accounts = (up_to_clock valid).accounts;
      transfers = All-append P m.transfers (t ∷ []) (up_to_clock valid).transfers
          (All-cons P t [] next.timestamp.by_clock (All-nil P));
    }
up_to_clock (next_failed m id valid next) =
    record { accounts = (up_to_clock valid).accounts; transfers = (up_to_clock valid).transfers }

-- the machine of a batch, before its first event
pub batch_begins :
    (m : Machine) (clock first : ℕ) → IsValid m → m.clock < first →
    IsInBatch (at_clock m clock) clock first
batch_begins m clock first valid after = record {
  at = refl;
  after_accounts =
      All-weaker (λ (a : Account). a.timestamp ≤ m.clock) (λ a. a.timestamp < first)
      (λ a h. omega arith) m.accounts (up_to_clock valid).accounts;
  after_transfers =
      All-weaker (λ (t : Transfer). t.timestamp ≤ m.clock) (λ t. t.timestamp < first)
      (λ t h. omega arith) m.transfers (up_to_clock valid).transfers;
}
