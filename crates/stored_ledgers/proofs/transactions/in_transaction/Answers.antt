use Rattle.std.proofs.Common.{rules, arith}
use Rattle.sqlite.specs.State.{HasCleanDisk}
use Rattle.sqlite.proofs.StateLemmas.{survives_then}
use Rattle.stored_ledgers.proofs.transactions.in_transaction.Goals as goal

-- the disk failed in the commit, so all of it may be found
pub returns-in-Err-commit-clause-survives : goal.returns-in-Err-commit-clause-survives
returns-in-Err-commit-clause-survives g c =
    let old = g.T.LedgerTables.state c.args.tables.now in
    let made = g.T.LedgerTables.state c.run.new.tables in
    let failed = g.T.LedgerTables.state c.commit.new.self in
    let new = g.T.LedgerTables.state c.or_disk_fault-in-Err-commit.new.tables in
    let before = survives_then old (g.T.LedgerTables.state c.begin.new.self) made _ _ _
    (λ _ trees none. none) (λ _ trees none. none) c.in_default.ensures.follows.survives
    c.in-Ok-Ok.ensures.follows.survives in
    survives_then old made new _ _ _ (λ _ trees none. absurd none) (λ _ trees left. left) before
    (survives_then made failed new _ _ _
    (λ clean trees is.
    let clean : HasCleanDisk made = omega (
      arith,
      c.in-Err-commit.ensures.survives.clean,
      c.or_disk_fault-in-Err-commit.ensures.over.follows.survives.clean,
      clean,
    ) in record {
      output = c.in-Ok-Ok.output;
      memory = c.run.new.memory;
      after = made.now;
      done = search rules;
      is = is;
    })
    (λ _ trees none. absurd none) c.in-Err-commit.ensures.survives
    c.or_disk_fault-in-Err-commit.ensures.over.follows.survives)

-- the database after the change holds ledgers, so its keys are its own
pub commit-requires : goal.commit-requires
commit-requires g c live =
    let old = g.T.LedgerTables.state c.args.tables.now in
    let made = g.T.LedgerTables.state c.run.new.tables in
    let clean : HasCleanDisk made = live.0 in
    let done : g.C.Change.does c.args.change c.args.memory.now old.now c.in-Ok-Ok.output c.run.new.memory made.now
    = search rules in
    c.law_ledgers_own_their_keys.ensures made.now (g.C.Change.holds _ _ _ _ _ made.now done)
