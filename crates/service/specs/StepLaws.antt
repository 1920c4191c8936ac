-- What the requests of a tenant lead to, one after the other.
use Rattle.std.specs.Prelude.{ℕ, List}
use Rattle.records.specs.declared.account.AccountEvent.{AccountEvent}
use Rattle.records.specs.declared.transfer.TransferEvent.{TransferEvent}
use Rattle.records.specs.Machine.{Machine}
use Rattle.records.specs.Step.{account_rules, transfer_rules, step_machine}

-- batches lead from a machine to another one, and so do steps one after the other
pub record StepLaws (Leads : Machine → Machine → Type 0) : Type 0 where
  pub accounts :
      (m : Machine) (batch : List AccountEvent) (moment : ℕ) →
      Leads m (step_machine account_rules m batch moment)
  pub transfers :
      (m : Machine) (batch : List TransferEvent) (moment : ℕ) →
      Leads m (step_machine transfer_rules m batch moment)
  pub itself : (m : Machine) → Leads m m
  pub onward : (m next last : Machine) → Leads m next → Leads next last → Leads m last
