use Rattle.std.proofs.Common.{sym, ap, ◌∙◌}
use Rattle.std.specs.Option.{option_and_then}
use Rattle.records.specs.declared.side.Side.TheVariants.{Debit, Credit}
use Rattle.records.specs.Machine.{has_id}
use Rattle.records.specs.Facts.{facts_of, account_in, account_id_of}
use Rattle.running.proofs.running.Running.facts.Goals as goal

pub returns : goal.returns
unfolding facts_of
returns c m is =
    let ev = c.args.ev.now in
    let pending = c.pending_transfer-pending.ensures m is in
    let debit = c.account_of-debit.ensures m is ∙ ap (option_and_then (account_in m)) (c.account_id.ensures ∙ ap (account_id_of Debit ev) pending) in
    let credit = c.account_of-credit.ensures m is ∙ ap (option_and_then (account_in m)) (c.account_id-2.ensures ∙ ap (account_id_of Credit ev) pending) in
    λ i. record {
      existing = c.existing-existing.ensures m is i;
      failed = sym (ap (has_id ev.id) is.none_failed) i;
      pending = pending i;
      debit = debit i;
      credit = credit i;
    }
