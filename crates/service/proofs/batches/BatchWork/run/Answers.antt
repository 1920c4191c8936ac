use Rattle.std.proofs.Common.{rules, refl, ap, sym, ◌≡◌, ◌∙◌}
use Rattle.std.proofs.lemmas.Result.{IfOk-weaker}
use Rattle.chain.specs.Tables.{State}
use Rattle.records.specs.Step.{account_rules, transfer_rules, step_outcome}
use Rattle.wire.specs.declared.outcome.Outcome.TheVariants as told
use Rattle.service.specs.declared.batches.BatchEvents.{BatchEvents}
use Rattle.service.specs.declared.batches.BatchEvents.TheVariants.{Accounts, Transfers}
use Rattle.service.specs.Replies.{batch_request}
use Rattle.service.specs.Served.{left_by, told_by}
use Rattle.service.proofs.BatchGives.{gives_batch}
use Rattle.service.proofs.batches.BatchWork.run.Goals as goal

pub returns-in_ok-batch-in-Accounts-clause-gives : goal.returns-in_ok-batch-in-Accounts-clause-gives
returns-in_ok-batch-in-Accounts-clause-gives g c live =
    let m = (g.T.Tables.means.state c.args.tables.now).now in
    let moment = c.args.self.moment in
    let events = c.as_slice.result.now in
    let same : Accounts events ≡ c.args.self.events = ap Accounts c.as_slice.ensures ∙ sym c.in-Accounts.is in
    IfOk-weaker c.reply_to_batch.result _ _
    (λ reply shown.
    gives_batch told.AccountResults c.in_ok-batch-in-Accounts.batch (step_outcome account_rules m events moment)
    (batch_request c.args.self.events) moment m _ reply (λ clock results. (_, refl))
    (c.in_ok-batch-in-Accounts.ensures.reply live)
    (shown told.AccountResults (λ clock results outcome is. search rules))
    (ap (λ (es : BatchEvents). told_by m moment (batch_request es)) same)
    (ap (λ (s : State). s.now) (c.in_ok-batch-in-Accounts.ensures.leaves.state live)
    ∙ ap (λ (es : BatchEvents). left_by m moment (batch_request es)) same))
    c.reply_to_batch.ensures

pub returns-in_ok-batch-in-Transfers-clause-gives : goal.returns-in_ok-batch-in-Transfers-clause-gives
returns-in_ok-batch-in-Transfers-clause-gives g c live =
    let m = (g.T.Tables.means.state c.args.tables.now).now in
    let moment = c.args.self.moment in
    let events = c.as_slice-in-Transfers.result.now in
    let same : Transfers events ≡ c.args.self.events = ap Transfers c.as_slice-in-Transfers.ensures ∙ sym c.in-Transfers.is in
    IfOk-weaker c.reply_to_batch-in-Transfers.result _ _
    (λ reply shown.
    gives_batch told.TransferResults c.in_ok-batch-in-Transfers.batch (step_outcome transfer_rules m events moment)
    (batch_request c.args.self.events) moment m _ reply (λ clock results. (_, refl))
    (c.in_ok-batch-in-Transfers.ensures.reply live)
    (shown told.TransferResults (λ clock results outcome is. search rules))
    (ap (λ (es : BatchEvents). told_by m moment (batch_request es)) same)
    (ap (λ (s : State). s.now) (c.in_ok-batch-in-Transfers.ensures.leaves.state live)
    ∙ ap (λ (es : BatchEvents). left_by m moment (batch_request es)) same))
    c.reply_to_batch-in-Transfers.ensures
