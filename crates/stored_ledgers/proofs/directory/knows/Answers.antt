use Rattle.std.proofs.Common.{◌∙◌, rules}
use Rattle.stored_ledgers.proofs.JudgedLemmas.{found_at_rest}
use Rattle.stored_ledgers.proofs.TenantLemmas.{found_tenant}
use Rattle.stored_ledgers.specs.DirectoryLaws.{found_number}
use Rattle.stored_ledgers.proofs.directory.knows.Goals as goal

pub returns : goal.returns
returns g c = record {
  value = λ clean.
      let is = found_at_rest _ _ _ _ c.in_ok-judged.field-0 c.find_tenant-number.ensures
      c.in_ok-judged.ensures.ok.0 c.in_ok-judged.ensures.follows c.requires clean in
      let one = is.0.distinct.digests c.args.digest.now in
      c.is_some.ensures
      ∙ found_tenant c.args.digest.now _ _ (found_number c.args.digest.now _ _ one is.1);
  reads = search rules;
}
