use Rattle.std.proofs.Common.{◌≡◌, Some}
use Rattle.std.proofs.lemmas.List.Elements.{All-weaker}
use Rattle.records.specs.declared.account.Account.{Account}
use Rattle.records.specs.declared.side.Side.TheVariants.{Debit, Credit}
use Rattle.records.specs.Machine.{account_with}
use Rattle.engine.specs.Promises.{KeepsLimit, KeepsLimits}
use Rattle.engine.proofs.FindByIdLemmas.{found_itself}
use Rattle.engine.proofs.SideLemmas.{by_side}
use Rattle.engine.proofs.Sound.{sound}
use Rattle.engine.proofs.laws.limits_hold.Goals as goal

pub returns : goal.returns
returns c m valid =
    let s = sound m valid in
    All-weaker (λ a. account_with a.id m.accounts ≡ Some a) (KeepsLimits m) (λ a found. by_side (λ side. KeepsLimit side m a) (s.limits Debit a.id a found) (s.limits Credit a.id a found)) m.accounts (found_itself (λ (a : Account). a.id) m.accounts s.accounts)
