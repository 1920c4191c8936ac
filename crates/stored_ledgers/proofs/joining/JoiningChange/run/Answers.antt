use Rattle.std.proofs.Common.{◌≡◌, pos, w64, to_z, of_z, subst, ◌∙◌, rules, arith}
use Rattle.std.proofs.lemmas.Int.{to_z-of_z}
use Rattle.sqlite.specs.Effect.{Database}
use Rattle.sqlite.specs.State.{HasCleanDisk}
use Rattle.stored_ledgers.specs.Directory.{IsLeastFree}
use Rattle.stored_ledgers.specs.Joining.{AreTaken}
use Rattle.stored_ledgers.proofs.JoinLemmas.{joined_rows}
use Rattle.stored_ledgers.proofs.JoinedLemmas.{ledgers_joined, same_entries, sets_joined, sets_more}
use Rattle.stored_ledgers.proofs.joining.JoiningChange.run.Goals as goal

pub returns-clause-told : goal.returns-clause-told
returns-clause-told g c live =
    let old = g.T.LedgerTables.state c.args.tables.now in
    let read = g.T.LedgerTables.state c.free_number.new.tables in
    let added = g.T.LedgerTables.state c.add_tenant.new.self in
    let new = g.T.LedgerTables.state c.add_clock.new.self in
    let clean3 : HasCleanDisk added =
    omega (arith, c.in_ok-add_clock.ensures.follows.survives.clean, live.0) in
    let clean2 : HasCleanDisk read =
    omega (arith, c.in_ok-add_tenant.ensures.follows.survives.clean, clean3) in
    let clean1 : HasCleanDisk (g.T.LedgerTables.state c.what_is_taken.new.tables) =
    omega (arith, c.in_ok-number.ensures.looks.follows.survives.clean, clean2) in
    let clean0 : HasCleanDisk old = omega (arith, c.in_ok-taken.ensures.looks.follows.survives.clean, clean1) in
    let serves = (c.requires clean0).needs in
    let same1 = (c.in_ok-taken.ensures.looks.kept clean1).0.now_is in
    let same2 = (c.in_ok-number.ensures.looks.kept clean2).0.now_is in
    let taken = subst (AreTaken c.args.self.name.now c.args.self.digest.now old.now.trees) c.in_default.is
    (c.in_ok-taken.ensures.value clean1) in
    let number = c.in_ok-number.number in
    let least = subst (λ (db : Database). IsLeastFree number db.trees) same1
    (c.in_ok-number.ensures.value clean2) in
    let passed1 : to_z w64 (of_z w64 c.from.result) ≡ pos number =
    to_z-of_z w64 c.from.result (search rules) ∙ c.from.ensures in
    let passed2 : to_z w64 (of_z w64 c.from-2.result) ≡ pos number =
    to_z-of_z w64 c.from-2.result (search rules) ∙ c.from-2.ensures in
    let passed3 : to_z w64 (of_z w64 c.from-3.result) ≡ pos number =
    to_z-of_z w64 c.from-3.result (search rules) ∙ c.from-3.ensures in
    let joins = joined_rows number c.args.self.name.now c.args.self.digest.now old read added new
    (same2 ∙ same1) serves.ledgers
    (rw (passed1, c.as_str.ensures.same) at (c.in_ok-add_tenant.ensures.ok clean3))
    (rw passed2 at (c.in_ok-add_clock.ensures.ok live.0)) in
    let written = rw passed3 at c.in_ok-insert.ensures.updates in (
      (taken, record { number = number; least = least; joins = joins }),
      record {
        ledgers = ledgers_joined number c.args.self.name.now c.args.self.digest.now old.now new.now
            serves.ledgers taken.0 taken.1 least.free joins;
        covered = sets_joined number c.args.self.name.now c.args.self.digest.now old.now new.now
            serves.ledgers taken.0 taken.1 least.free joins c.args.due.now c.insert.new.self c.new.result
            serves.covered written.1 written.2;
      },
    )

pub returns-clause-again : goal.returns-clause-again
returns-clause-again g c live =
    let old = g.T.LedgerTables.state c.args.tables.now in
    let clean3 : HasCleanDisk (g.T.LedgerTables.state c.add_tenant.new.self) =
    omega (arith, c.in_ok-add_clock.ensures.follows.survives.clean, live.0) in
    let clean2 : HasCleanDisk (g.T.LedgerTables.state c.free_number.new.tables) =
    omega (arith, c.in_ok-add_tenant.ensures.follows.survives.clean, clean3) in
    let clean1 : HasCleanDisk (g.T.LedgerTables.state c.what_is_taken.new.tables) =
    omega (arith, c.in_ok-number.ensures.looks.follows.survives.clean, clean2) in
    let clean0 : HasCleanDisk old = omega (arith, c.in_ok-taken.ensures.looks.follows.survives.clean, clean1) in
    let serves = (c.requires clean0).needs in
    let number = c.in_ok-number.number in
    let least = subst (λ (db : Database). IsLeastFree number db.trees)
    (c.in_ok-taken.ensures.looks.kept clean1).0.now_is (c.in_ok-number.ensures.value clean2) in
    let passed : to_z w64 (of_z w64 c.from-3.result) ≡ pos number =
    to_z-of_z w64 c.from-3.result (search rules) ∙ c.from-3.ensures in
    let written = rw passed at c.in_ok-insert.ensures.updates in record {
      ledgers = serves.ledgers;
      covered = sets_more number old.now.trees c.args.due.now c.insert.new.self least.free written.2
          serves.covered;
    }

pub returns-in_err-insert-clause-again : goal.returns-in_err-insert-clause-again
returns-in_err-insert-clause-again g c live =
    let old = g.T.LedgerTables.state c.args.tables.now in
    let clean3 : HasCleanDisk (g.T.LedgerTables.state c.add_tenant.new.self) =
    omega (arith, c.in_ok-add_clock.ensures.follows.survives.clean, live.0) in
    let clean2 : HasCleanDisk (g.T.LedgerTables.state c.free_number.new.tables) =
    omega (arith, c.in_ok-add_tenant.ensures.follows.survives.clean, clean3) in
    let clean1 : HasCleanDisk (g.T.LedgerTables.state c.what_is_taken.new.tables) =
    omega (arith, c.in_ok-number.ensures.looks.follows.survives.clean, clean2) in
    let clean0 : HasCleanDisk old = omega (arith, c.in_ok-taken.ensures.looks.follows.survives.clean, clean1) in
    let serves = (c.requires clean0).needs in record {
      ledgers = serves.ledgers;
      covered = same_entries old.now.trees c.args.due.now c.insert.new.self c.in_err-insert.ensures.err serves.covered;
    }
