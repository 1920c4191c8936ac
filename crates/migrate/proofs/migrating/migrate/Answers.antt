use Rattle.std.proofs.Common.{refl, sym, arith, rules}
use Rattle.migrate.proofs.LedgerLemmas.{leaves_unmoved, no_fault}
use Rattle.migrate.proofs.migrating.migrate.Goals as goal

pub returns-then-to-ledger-clause-tells : goal.returns-then-to-ledger-clause-tells
returns-then-to-ledger-clause-tells g c =
    let less = c.if-to-ledger.true in
    record {
      newer = λ _. refl;
      no_newer = λ older. absurd (omega (arith, less, older));
      equal = λ same. absurd (omega (arith, less, same));
      unmoved = λ _. refl;
    }

pub returns-then-to-ledger-2-clause-tells : goal.returns-then-to-ledger-2-clause-tells
returns-then-to-ledger-2-clause-tells g c =
    let same = c.if-to-ledger-2.true in
    record {
      newer = λ less. absurd (omega (arith, less, same));
      no_newer = λ _ newer. no_fault newer;
      equal = search rules;
      unmoved = λ _. refl;
    }

pub returns-then-to-ledger-clause-raises : goal.returns-then-to-ledger-clause-raises
returns-then-to-ledger-clause-raises g c older = absurd (let less = c.if-to-ledger.true in omega (arith, less, older))

pub returns-then-to-ledger-2-clause-raises : goal.returns-then-to-ledger-2-clause-raises
returns-then-to-ledger-2-clause-raises g c older = absurd (let same = c.if-to-ledger-2.true in omega (arith, same, older))

pub returns-then-to-ledger-clause-migrates : goal.returns-then-to-ledger-clause-migrates
returns-then-to-ledger-clause-migrates g c = record {
  version = tt;
  kept = λ _. tt;
  damaged = λ _. tt;
  same = λ _. refl;
  stays = refl;
  leaves = leaves_unmoved g.D.Disk c.args.to c.args.ledger.now _ c.requires.migratable (search rules);
}

pub returns-then-to-ledger-2-clause-migrates : goal.returns-then-to-ledger-2-clause-migrates
returns-then-to-ledger-2-clause-migrates g c = record {
  version = sym c.if-to-ledger-2.true;
  kept = λ _. record { directory = refl; machines = λ number. refl };
  damaged = λ _. tt;
  same = λ _. tt;
  stays = tt;
  leaves = leaves_unmoved g.D.Disk c.args.to c.args.ledger.now _ c.requires.migratable (λ told. no_fault told);
}

pub returns-clause-tells : goal.returns-clause-tells
returns-clause-tells g c =
    let least = c.if-to-ledger.false in
    let other = c.if-to-ledger-2.false in
    record {
      newer = λ less. absurd (omega (arith, less, least));
      no_newer = λ _. c.migrate_older.ensures.no_newer;
      equal = λ same. absurd (other (sym same));
      unmoved = λ most. absurd (other (omega (arith, most, least)));
    }
