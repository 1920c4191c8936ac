use Rattle.std.proofs.Common.{◌≡◌, true, Ok, Err, refl, sym, ap, ◌∙◌, rules}
use Rattle.records.specs.declared.unavailable.Unavailable.TheVariants.{Disk as DiskFailed}
use Rattle.stored_ledgers.specs.Outcomes.{IsAfterBatch, batch_answer}
use Rattle.stored_ledgers.specs.Transactions.{Answer}
use Rattle.stored_ledgers.specs.declared.batches.UnknownKey.{UnknownKey}
use Rattle.chain.specs.declared.ledgers.BatchFault.TheVariants.{Unavailable as AreUnavailable}
use Rattle.store.proofs.ReadLemmas.{answers_as, finds_open, serves_open}
use Rattle.store.proofs.store.Store.in_batch.Goals as goal

pub returns-clause-finds : goal.returns-clause-finds
returns-clause-finds g c =
    finds_open g.D.Disk (IsAfterBatch (g.W.Work.gives c.args.work) c.args.digest.now) c.args.self.now.place c.in-Open.tables
    c.in_batch-done.new.tables c.in-Open.is
    c.in_batch-done.ensures.survives

told_disk : {O : Type 0} (done : Answer O UnknownKey)
    → batch_answer done ≡ Err (AreUnavailable DiskFailed) → done ≡ Err DiskFailed
told_disk (Ok (Ok output)) is = absurd (let e = is in cc)
told_disk (Ok (Err unknown)) is = absurd (let e = is in cc)
told_disk (Err why) is = let e = is in cc

pub returns-clause-answers : goal.returns-clause-answers
returns-clause-answers g c =
    let ready : c.args.self.now.ready ≡ true = search rules in
    answers_as g.D.Disk (AreUnavailable DiskFailed) c.args.self.now _ c.in_batch-done.result c.batch_answer.result (
      λ failed. told_disk _ (sym c.batch_answer.ensures ∙ failed),
      λ failed. c.batch_answer.ensures ∙ ap batch_answer failed,
    ) ready
    (serves_open g.D.Disk c.in_batch-done.result c.is_disk_fault.result c.args.self.now _ c.in-Open.tables
    c.in_batch-done.new.tables c.in-Open.is refl ready refl c.is_disk_fault.ensures c.requires
    c.in_batch-done.ensures.serves c.in_batch-done.ensures.survives)
