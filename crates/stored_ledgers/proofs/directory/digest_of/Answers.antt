use Rattle.std.proofs.Common.{rules}
use Rattle.stored_ledgers.proofs.JudgedLemmas.{found_at_rest}
use Rattle.stored_ledgers.proofs.TenantLemmas.{digest_found}
use Rattle.stored_ledgers.proofs.directory.digest_of.Goals as goal

pub returns : goal.returns
returns g c = record {
  value = λ clean.
      let is = found_at_rest _ _ _ _ c.in_ok-judged.field-0 c.find_tenant_by_name-row.ensures
      c.in_ok-judged.ensures.ok.0 c.in_ok-judged.ensures.follows c.requires clean in
      digest_found c.args.name.now _ _ _ (is.0.distinct.names c.args.name.now)
      (rw c.as_str.ensures.same at is.1) c.digest_in.ensures;
  reads = search rules;
}
