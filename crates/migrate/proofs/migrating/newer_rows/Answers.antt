use Rattle.std.proofs.Common.{ℕ, All, Err, ap, subst, ◌∙◌, rules}
use Rattle.std.proofs.lemmas.Result.{err_from_is_err_and}
use Rattle.rows.specs.declared.all_rows.TenantOfDigest.{TenantOfDigest}
use Rattle.rows.specs.TypedRows.{lists_of}
use Rattle.audit.specs.Sound.{AreSound}
use Rattle.migrate.specs.Upgrading.{older_schema}
use Rattle.migrate.specs.UpgradingLaws.{older_quiet}
use Rattle.migrate.proofs.FaultLemmas.{refused_by_audit}
use Rattle.migrate.proofs.LedgerLemmas.{no_fault}
use Rattle.migrate.proofs.OlderLemmas.{older_tables}
use Rattle.migrate.proofs.migrating.newer_rows.Goals as goal

pub rows_in-requires : goal.rows_in-requires
rows_in-requires g c clean =
    let older = c.requires.older clean in (
      older.rests.is_open,
      older_quiet (older_schema c.args.version) _ older,
      older_tables c.args.version _ c.requires.less older.rests.schema_is,
    )

pub returns-in_err-check-clause-audited : goal.returns-in_err-check-clause-audited
returns-in_err-check-clause-audited g c =
    let p = err_from_is_err_and c.from_residual-in_err-check.result c.from_residual-in_err-check.ensures.1 in
    refused_by_audit _ _ c.in_ok-older.older (p.1 ∙ ap Err p.2) c.in_ok-older.ensures.version
    c.in_err-check.ensures.damaged c.in_ok-older.ensures.tells.value

pub returns-in_err-check-clause-reads : goal.returns-in_err-check-clause-reads
returns-in_err-check-clause-reads g c = record {
  same = c.in_ok-older.ensures.tells.reads.same;
  is_open = λ clean told. c.in_ok-older.ensures.tells.reads.is_open clean (λ failed. no_fault failed);
  follows = c.in_ok-older.ensures.tells.reads.follows;
}

pub returns-clause-audited : goal.returns-clause-audited
returns-clause-audited g c = record {
  no_newer = λ newer. no_fault newer;
  damaged = search rules;
  sound = λ clean.
      let rows = c.in_ok-older.older in
      let read = c.in_ok-older.ensures.tells.value clean in
      record {
        all = rows;
        read = read;
        sound = subst (λ (v : ℕ). All (λ (tenant : TenantOfDigest). AreSound v (lists_of tenant.rows)) rows.tenants.items)
            read.version_is c.in_ok-check.ensures.sound;
      };
}
