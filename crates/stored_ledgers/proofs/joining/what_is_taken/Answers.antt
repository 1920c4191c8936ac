use Rattle.std.proofs.Common.{sym, ◌∙◌, rules, arith}
use Rattle.sqlite.specs.State.{HasCleanDisk}
use Rattle.stored_ledgers.proofs.JoinLemmas.{digest_told}
use Rattle.stored_ledgers.proofs.JudgedLemmas.{was_found}
use Rattle.stored_ledgers.proofs.TakenLemmas.{picked_some, found_unnamed, found_taken, found_free}
use Rattle.stored_ledgers.proofs.joining.what_is_taken.Goals as goal

pub returns-then-is_some : goal.returns-then-is_some
returns-then-is_some g c = record {
  value = λ clean.
      let seen = was_found _ _ _ c.in_ok-find_tenant_by_name.ensures clean in
      picked_some _ _ c.in_ok-find_tenant_by_name.field-0
      (rw c.as_str.ensures.same at (seen.2 (c.requires seen.0).schema))
      (sym c.is_some.ensures ∙ c.if-is_some.true);
  looks = search rules;
}

pub returns : goal.returns
returns g c = record {
  value = λ clean.
      let mid : HasCleanDisk (g.T.LedgerTables.state c.find_tenant_by_name.new.self) =
      omega (arith, c.in_ok-find_tenant.ensures.reads.follows.survives.clean, clean) in
      let seen = found_unnamed c.args.name.now _ _ _ _ _ _ c.as_str.ensures.same c.is_some.ensures
      c.if-is_some.false c.in_ok-find_tenant_by_name.ensures c.requires mid in
      let picks = c.in_ok-find_tenant.ensures.ok clean in
      digest_told c.args.name.now c.args.digest.now (g.T.LedgerTables.state c.args.tables.now).now.trees _ _ seen.2
      (λ there. found_taken c.args.digest.now _ _ _ seen.0 picks seen.1.schema (sym c.is_some-2.ensures ∙ there))
      (λ none. found_free c.args.digest.now _ _ _ seen.0 picks seen.1.schema (sym c.is_some-2.ensures ∙ none))
      c.then_some.ensures;
  looks = search rules;
}
