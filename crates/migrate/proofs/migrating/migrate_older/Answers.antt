use Rattle.std.proofs.Common.{◌≡◌, true, refl, sym, ◌∙◌, arith, rules}
use Rattle.sqlite.specs.Files.{file_state}
use Rattle.migrate.specs.UpgradingLaws.{raised_kept}
use Rattle.migrate.proofs.LedgerLemmas.{leaves_raised, no_fault, older_open, other_answer, raised_migratable}
use Rattle.migrate.proofs.LedgerLemmas.{still_migratable, unless_fault}
use Rattle.migrate.proofs.migrating.migrate_older.Goals as goal

pub raise_rows-raised-requires : goal.raise_rows-raised-requires
raise_rows-raised-requires g c =
    let answers : c.args.ledger.now.ready ≡ true = search rules in
    let older = c.requires.older in
    let known = c.requires.known in
    record {
      less = omega (arith, older, known);
      older = older_open g.D.Disk c.args.ledger.now c.requires.migratable answers (omega (arith, older, known));
    }

pub returns-in-Ok-clause-migratable : goal.returns-in-Ok-clause-migratable
returns-in-Ok-clause-migratable g c =
    let e = rw c.in-Ok.is at c.raise_rows-raised.ensures.whole in
    raised_migratable g.D.Disk _ c.args.ledger.now.version (file_state c.args.ledger.now.conn).now
    c.requires.migratable.known.0 c.requires.older c.requires.known e.raises.raised e.raises.quiet
    (λ clean. e.is_open clean (λ failed. no_fault failed))

pub returns-in-Err-clause-migratable : goal.returns-in-Err-clause-migratable
returns-in-Err-clause-migratable g c =
    let answers : c.args.ledger.now.ready ≡ true = search rules in
    let e = c.raise_rows-raised.ensures.whole in
    let older = c.requires.older in
    let known = c.requires.known in
    still_migratable g.D.Disk c.args.ledger.now _ refl (omega (arith, older, known)) c.requires.migratable answers
    (λ clean. omega (arith, e.raises.survives.clean, clean))
    (rw c.in-Err.is at e.same)
    (λ ready clean. e.is_open clean (unless_fault _ _ c.is_disk_fault.result refl c.is_disk_fault.ensures ready))

pub returns-in-Ok-clause-raises : goal.returns-in-Ok-clause-raises
returns-in-Ok-clause-raises g c =
    let e = rw c.in-Ok.is at c.raise_rows-raised.ensures.whole in
    record {
      sound = rw c.in-Ok.is at c.raise_rows-raised.ensures.audited.sound;
      raised = λ clean. record { sets = c.in-Ok.due; is = e.raises.raised clean };
      refuses = search rules;
    }

pub returns-in-Ok-clause-migrates : goal.returns-in-Ok-clause-migrates
returns-in-Ok-clause-migrates g c =
    let e = rw c.in-Ok.is at c.raise_rows-raised.ensures.whole in
    record {
      version = refl;
      kept = λ clean. raised_kept c.args.to c.in-Ok.due _ _ (e.raises.raised clean);
      damaged = λ _. tt;
      same = λ _. tt;
      stays = tt;
      leaves = leaves_raised g.D.Disk c.args.ledger.now _ c.is_disk_fault.result c.requires.migratable (search rules)
          c.raise_rows-raised.ensures.whole c.is_disk_fault.ensures refl
          (λ failed. absurd (no_fault (sym c.in-Ok.is ∙ failed)), λ told. absurd (no_fault told));
    }

pub returns-in-Err-clause-migrates : goal.returns-in-Err-clause-migrates
returns-in-Err-clause-migrates g c =
    let e = rw c.in-Err.is at c.raise_rows-raised.ensures.whole in
    record {
      version = tt;
      kept = λ _. tt;
      damaged = rw c.in-Err.is at c.raise_rows-raised.ensures.audited.damaged;
      same = λ live. (e.same live).now;
      stays = refl;
      leaves = leaves_raised g.D.Disk c.args.ledger.now _ c.is_disk_fault.result c.requires.migratable (search rules)
          c.raise_rows-raised.ensures.whole c.is_disk_fault.ensures refl
          (λ failed. other_answer _ _ (sym c.in-Err.is ∙ failed), λ told. c.in-Err.is ∙ other_answer _ _ told);
    }
