use Rattle.std.proofs.Common.{◌++◌, subst, sym}
use Rattle.sha2.specs.Hashers.{Holds256}
use Rattle.seals.specs.Seals.{text_of}
use Rattle.seals.proofs.seal.add_record.Goals as goal

pub returns-in-Account : goal.returns-in-Account
unfolding text_of
returns-in-Account c m held =
    subst (λ it. Holds256 c.add_account.new.hasher (m ++ text_of it)) (sym c.in-Account.is)
    (c.add_account.ensures m held)

pub returns-in-Transfer : goal.returns-in-Transfer
unfolding text_of
returns-in-Transfer c m held =
    subst (λ it. Holds256 c.add_transfer.new.hasher (m ++ text_of it)) (sym c.in-Transfer.is)
    (c.add_transfer.ensures m held)
