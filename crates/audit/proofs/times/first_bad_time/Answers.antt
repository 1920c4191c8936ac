use Rattle.std.proofs.Common.{◌++◌, ap₂, ◌∙◌}
use Rattle.audit.proofs.OwnTimes.{first_bad}
use Rattle.audit.proofs.times.first_bad_time.Goals as goal

pub returns : goal.returns
returns c typed holds =
    let accounts = c.deref.ensures.value ∙ holds.accounts in
    let transfers = c.deref-2.ensures.value ∙ holds.transfers in
    let all = c.deref-6.ensures.value ∙ c.in_ok-all.ensures ∙ ap₂ (λ xs ys. xs ++ ys) accounts transfers in
    first_bad typed c.deref-4.result.now c.deref-3.result.now c.deref-5.result.now c.deref-6.result.now c.in_ok-account.account c.in_ok-transfer.transfer c.first.result
    (c.deref-4.ensures.value ∙ holds.accounts) (c.deref-3.ensures.value ∙ holds.accounts) (c.deref-5.ensures.value ∙ holds.transfers) all c.in_ok-account.ensures c.in_ok-transfer.ensures c.first.ensures
