use Rattle.std.proofs.Common.{subst, rules, arith}
use Rattle.sqlite.specs.State.{HasCleanDisk}
use Rattle.stored_ledgers.specs.Directory.{IsLeastMissing, IsLeastFree}
use Rattle.stored_ledgers.proofs.JoinLemmas.{starts_as_ours}
use Rattle.stored_ledgers.proofs.FreeLemmas.{least_free, if_ok_or}
use Rattle.stored_ledgers.proofs.joining.free_number.Goals as goal

pub returns : goal.returns
returns g c = record {
  value = λ clean.
      let old = g.T.LedgerTables.state c.args.tables.now in
      let before : HasCleanDisk old = omega (arith, c.in_ok-rows.ensures.reads.follows.survives.clean, clean) in
      let reads = c.in_ok-rows.ensures.whole clean (starts_as_ours _ (c.requires before).schema) in
      if_ok_or (IsLeastMissing c.as_slice.result.now) (λ number. IsLeastFree number old.now.trees)
      c.least_missing.result _ c.ok_or.result c.ok_or.ensures.value c.least_missing.ensures
      (λ number least. least_free old.now.trees c.in_ok-rows.rows.items number reads
      (subst (λ rows. IsLeastMissing rows number) c.as_slice.ensures.value least));
  looks = search rules;
}
