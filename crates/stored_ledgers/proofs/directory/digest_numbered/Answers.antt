use Rattle.std.proofs.Common.{w64, rules}
use Rattle.std.proofs.lemmas.Int.{to_z-of_z}
use Rattle.stored_ledgers.proofs.JudgedLemmas.{found_at_rest}
use Rattle.stored_ledgers.proofs.NumberedLemmas.{number_found}
use Rattle.stored_ledgers.proofs.directory.digest_numbered.Goals as goal

pub returns : goal.returns
returns g c = record {
  value = λ clean.
      let is = found_at_rest _ _ _ _ c.in_ok-judged.field-0 c.find_tenant_by_number-row.ensures
      c.in_ok-judged.ensures.ok.0 c.in_ok-judged.ensures.follows c.requires clean in
      number_found c.args.number (g.T.LedgerTables.state c.args.tables.now).now.trees _ _
      (is.0.distinct.numbers c.args.number)
      (rw (to_z-of_z w64 c.args.number (search rules)) at is.1) c.digest_in.ensures;
  reads = search rules;
}
