use Rattle.std.proofs.Common.{◌∙◌, ap}
use Rattle.amount.specs.Decimal.{decimal_of}
use Rattle.statement.proofs.Rows.{line_is}
use Rattle.statement.proofs.line.line_of.Goals as goal

pub returns-in-Ok-clause-ok : goal.returns-in-Ok-clause-ok
returns-in-Ok-clause-ok c =
    c.in-Ok.ensures
    ∙ line_is c.args.row.now c.as_bytes.result.now c.as_bytes-2.result.now c.side_name.result.now c.kind_name.result.now c.as_bytes-3.result.now
    c.as_bytes-4.result.now c.as_bytes-5.result.now c.as_bytes-6.result.now c.as_bytes-7.result.now
    (c.as_bytes.ensures ∙ c.new-timestamp.ensures ∙ ap decimal_of c.from.ensures) (c.as_bytes-2.ensures ∙ c.new-transfer_id.ensures) c.side_name.ensures c.kind_name.ensures
    (c.as_bytes-3.ensures ∙ c.digits-amount.ensures) (c.as_bytes-4.ensures ∙ c.digits-debits_pending.ensures) (c.as_bytes-5.ensures ∙ c.digits-debits_posted.ensures)
    (c.as_bytes-6.ensures ∙ c.digits-credits_pending.ensures) (c.as_bytes-7.ensures ∙ c.digits-credits_posted.ensures)
