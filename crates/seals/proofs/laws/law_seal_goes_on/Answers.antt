use Rattle.std.proofs.Common.{◌≡◌, ap, ◌∙◌}
use Rattle.std.proofs.lemmas.List.Elements.{recursion_from_All}
use Rattle.seals.specs.declared.record.Record.TheVariants as one
use Rattle.seals.specs.Records.{records_of}
use Rattle.seals.specs.Seals.{first_seal, seal_from}
use Rattle.seals.proofs.Chains.{seal_from-append}
use Rattle.seals.proofs.Order.{order_account, order_transfer}
use Rattle.seals.proofs.laws.law_seal_goes_on.Goals as goal

pub returns-clause-account : goal.returns-clause-account
returns-clause-account c m a next =
    ap (seal_from first_seal) (order_account m.accounts m.transfers a
    (recursion_from_All _ m.accounts next.timestamp.after_accounts)
    (recursion_from_All _ m.transfers next.timestamp.after_transfers))
    ∙ seal_from-append first_seal (records_of m) (one.Account a)

pub returns-clause-transfer : goal.returns-clause-transfer
returns-clause-transfer c m t next =
    ap (seal_from first_seal) (order_transfer m.accounts m.transfers t
    (recursion_from_All _ m.accounts next.timestamp.after_accounts))
    ∙ seal_from-append first_seal (records_of m) (one.Transfer t)
