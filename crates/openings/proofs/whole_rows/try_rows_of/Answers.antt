use Rattle.std.proofs.Common.{◌∙◌, sym, subst, rules, arith}
use Rattle.rows.specs.TypedRows.{lists_of}
use Rattle.sqlite.specs.Effect.{Database}
use Rattle.sqlite.specs.State.{HasCleanDisk}
use Rattle.openings.specs.Tables.{HasTables, AreTenantRows}
use Rattle.openings.proofs.Passed.{passed}
use Rattle.stored_ledgers.specs.DirectoryLaws.{found_number}
use Rattle.openings.proofs.WholeLemmas.{has_tables}
use Rattle.openings.proofs.whole_rows.try_rows_of.Goals as goal

pub returns-in_default : goal.returns-in_default
returns-in_default g c = record {
  value = λ clean.
      let before : HasCleanDisk (g.T.LedgerTables.state c.args.tables.now) =
      omega (arith, c.in_ok-number.ensures.reads.follows.survives.clean, clean) in
      let ledgers = (c.requires before).2 in
      found_number c.args.digest.now _ c.in_ok-number.field-0
      (ledgers.distinct.digests c.args.digest.now) (c.in_ok-number.ensures.ok clean ledgers.schema)
      ∙ c.in_default.is;
  looks = search rules;
}

pub returns : goal.returns
returns g c = record {
  value = λ clean.
      let first : HasCleanDisk (g.T.LedgerTables.state c.find_tenant.new.self) =
      omega (arith, c.in_ok-read_tenant.ensures.looks.follows.survives.clean, clean) in
      let before : HasCleanDisk (g.T.LedgerTables.state c.args.tables.now) =
      omega (arith, c.in_ok-number.ensures.reads.follows.survives.clean, first) in
      let ledgers = (c.requires before).2 in
      let kept = c.in_ok-number.ensures.reads.same first in
      let there = subst (λ (db : Database). HasTables c.args.version db.schema) (sym kept.0.now_is)
      (has_tables c.args.version _ ledgers.schema) in
      let rows = rw (passed c.in-Some.number (search rules)) at (c.in_ok-read_tenant.ensures.whole clean there) in (
        c.in-Some.number,
        found_number c.args.digest.now _ c.in_ok-number.field-0 (ledgers.distinct.digests c.args.digest.now)
            (c.in_ok-number.ensures.ok first ledgers.schema) ∙ c.in-Some.is,
        subst (λ (db : Database). AreTenantRows c.args.version c.in-Some.number db.trees
            (lists_of c.in_ok-read_tenant.field-0)) kept.0.now_is rows,
      );
  looks = search rules;
}
