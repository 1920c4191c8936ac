use Rattle.std.proofs.Common.{refl}
use Rattle.sqlite_wal.specs.Files.{image_at}
use Rattle.commands.proofs.UndoneLemmas.{line_not_written, not_migrated}
use Rattle.commands.proofs.over_files.run_migrate.Goals as goal

pub returns : goal.returns
returns g c = record {
  version_first = λ no. absurd (no (
    c.in_ok-version.version,
    c.in_ok-version.ensures.known.0,
    c.in_ok-version.ensures.known.1,
    c.in_ok-version.ensures.ok,
  ));
  fault = tt;
  migrated = record {
    line = c.in_ok-put_schema.ensures.ok;
    version = c.in_ok-version.version;
    is = c.in_ok-version.ensures.ok;
    brought = c.in_ok-ledger.ensures.brought;
  };
  calm = (refl, refl);
  brief = refl;
}

pub returns-in_err-ledger : goal.returns-in_err-ledger
returns-in_err-ledger g c =
    let version = c.in_ok-version in
    not_migrated _ g.O.Drain.written (image_at g.St.Start) c.args.to.now c.args.out
    c.from_residual-in_err-ledger.result c.in_err-ledger.field-0.0 version.version
    c.from_residual-in_err-ledger.ensures.1
    (version.version, version.ensures.known.0, version.ensures.known.1, version.ensures.ok)
    version.ensures.ok c.in_err-ledger.ensures.fault

pub returns-in_err-put_schema : goal.returns-in_err-put_schema
returns-in_err-put_schema g c =
    let version = c.in_ok-version in
    line_not_written _ g.O.Drain.written (image_at g.St.Start) c.args.to.now c.args.out
    c.from_residual-in_err-put_schema.result c.in_err-put_schema.field-0.0
    c.from_residual-in_err-put_schema.ensures.1
    (version.version, version.ensures.known.0, version.ensures.known.1, version.ensures.ok)
    c.in_err-put_schema.ensures.fault
