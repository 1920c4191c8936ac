use Rattle.std.proofs.Common.{refl}
use Rattle.records.specs.Valid.{IsValid}
use Rattle.engine.proofs.laws.account_changes_nothing.Goals as goal

pub returns : goal.returns
returns c m account valid next = record { valid = IsValid.next_account m account valid next; balances = λ id. refl }
