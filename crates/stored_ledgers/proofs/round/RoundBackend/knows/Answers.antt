use Rattle.std.proofs.Common.{◌∙◌, arith, rules}
use Rattle.sqlite.specs.State.{HasCleanDisk}
use Rattle.stored_ledgers.specs.DirectoryLaws.{found_number}
use Rattle.stored_ledgers.proofs.TenantLemmas.{found_tenant}
use Rattle.stored_ledgers.proofs.round.RoundBackend.knows.Goals as goal

pub returns-in-Ok-clause-knows : goal.returns-in-Ok-clause-knows
returns-in-Ok-clause-knows g c = record {
  value = λ live.
      let old = g.T.LedgerTables.state c.args.self.now.tables.now in
      let before : HasCleanDisk old =
      omega (arith, c.find_tenant.ensures.reads.follows.survives.clean, live.1.0) in
      let serves = (c.requires live.0 before).0.serves in
      c.is_some.ensures
      ∙ found_tenant c.args.digest.now old.now.trees c.in-Ok.number (found_number c.args.digest.now
      old.now.trees _ (serves.ledgers.distinct.digests c.args.digest.now) (c.in-Ok.ensures.ok live.1.0 serves.ledgers.schema));
  same = search rules;
  failed = search rules;
  finds = search rules;
  follows = search rules;
}
