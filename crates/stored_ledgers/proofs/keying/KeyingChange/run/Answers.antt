use Rattle.std.proofs.Common.{◌≡◌, w64, to_z, of_z, sym, subst, ◌∙◌, rules, arith}
use Rattle.std.proofs.lemmas.Int.{to_z-of_z}
use Rattle.std.proofs.lemmas.Slice.Eq.{bytes_eq-Decides}
use Rattle.sqlite.specs.Effect.{Database}
use Rattle.sqlite.specs.State.{HasCleanDisk}
use Rattle.stored_tables.specs.BatchLaws.{follows_then}
use Rattle.stored_ledgers.specs.Keying.{IsKeyed}
use Rattle.stored_ledgers.specs.Resting.{CanServe}
use Rattle.stored_ledgers.proofs.KeyLemmas.{found_named, told_apart, same_key, new_key, serves_keyed, other_digest}
use Rattle.stored_ledgers.proofs.TakenLemmas.{found_taken, found_free}
use Rattle.stored_ledgers.proofs.keying.KeyingChange.run.Goals as goal

pub returns-then-eq-clause-told : goal.returns-then-eq-clause-told
returns-then-eq-clause-told g c live =
    let name = c.args.self.name.now in
    let digest = c.args.self.digest.now in
    let row = c.in-Some.row in
    let seen = found_named name _ c.args.due.now _ _ _ row c.as_str.ensures.same c.in-Some.is c.in_ok-row.ensures
    c.requires live.0 in
    let same = (bytes_eq-Decides row.digest digest).0 (sym c.eq.ensures ∙ c.if-eq.true) in
    subst (λ (db : Database). IsKeyed name digest (g.T.LedgerTables.state c.args.tables.now).now db × CanServe c.args.due.now db)
    (sym seen.0) (same_key name digest _ row.number row.digest seen.1.ledgers seen.2 same, seen.1)

pub returns-then-is_some-clause-told : goal.returns-then-is_some-clause-told
returns-then-is_some-clause-told g c live =
    let row = c.in-Some.row in
    let clean : HasCleanDisk (g.T.LedgerTables.state c.find_tenant_by_name.new.self) =
    omega (arith, c.in_ok-find_tenant.ensures.reads.follows.survives.clean, live.0) in
    let seen = found_named c.args.self.name.now _ c.args.due.now _ _ _ row c.as_str.ensures.same c.in-Some.is
    c.in_ok-row.ensures c.requires clean in (
      found_taken c.args.self.digest.now _ _ c.in_ok-find_tenant.field-0 seen.0
          (c.in_ok-find_tenant.ensures.ok live.0) seen.1.ledgers.schema (sym c.is_some.ensures ∙ c.if-is_some.true),
      other_digest c.args.self.name.now c.args.self.digest.now _ row.number row.digest seen.2
          (told_apart _ row.digest c.args.self.digest.now c.eq.ensures c.if-eq.false),
    )

pub returns-in_err-set_digest-clause-follows : goal.returns-in_err-set_digest-clause-follows
returns-in_err-set_digest-clause-follows g c =
    follows_then _ _ _ (follows_then _ _ _ c.in_ok-row.ensures.reads.follows c.in_ok-find_tenant.ensures.reads.follows)
    c.set_digest.ensures.follows

pub returns-clause-told : goal.returns-clause-told
returns-clause-told g c live =
    let name = c.args.self.name.now in
    let digest = c.args.self.digest.now in
    let row = c.in-Some.row in
    let clean2 : HasCleanDisk (g.T.LedgerTables.state c.find_tenant.new.self) =
    omega (arith, c.in_ok-set_digest.ensures.follows.survives.clean, live.0) in
    let clean1 : HasCleanDisk (g.T.LedgerTables.state c.find_tenant_by_name.new.self) =
    omega (arith, c.in_ok-find_tenant.ensures.reads.follows.survives.clean, clean2) in
    let seen = found_named name _ c.args.due.now _ _ _ row c.as_str.ensures.same c.in-Some.is c.in_ok-row.ensures
    c.requires clean1 in
    let same = (c.in_ok-find_tenant.ensures.reads.same clean2).0.now_is ∙ seen.0 in
    let differs = told_apart _ row.digest digest c.eq.ensures c.if-eq.false in
    let none = found_free digest _ _ c.in_ok-find_tenant.field-0 seen.0 (c.in_ok-find_tenant.ensures.ok clean2)
    seen.1.ledgers.schema (sym c.is_some.ensures ∙ c.if-is_some.false) in
    let passed : to_z w64 (of_z w64 row.number) ≡ row.number = to_z-of_z w64 row.number (search rules) in
    let keyed = new_key name digest (g.T.LedgerTables.state c.args.tables.now) (g.T.LedgerTables.state c.find_tenant.new.self)
    (g.T.LedgerTables.state c.set_digest.new.self) row.number row.digest same
    seen.1.ledgers seen.2 differs none (rw passed at (c.in_ok-set_digest.ensures.ok live.0)) in
    (keyed, serves_keyed name digest c.args.due.now _ _ seen.1 keyed)

pub returns-clause-follows : goal.returns-clause-follows
returns-clause-follows g c =
    follows_then _ _ _ (follows_then _ _ _ c.in_ok-row.ensures.reads.follows c.in_ok-find_tenant.ensures.reads.follows)
    c.set_digest.ensures.follows
