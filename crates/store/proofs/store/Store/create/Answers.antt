use Rattle.std.proofs.Common.{sym, subst}
use Rattle.sqlite.specs.Effect.{Database}
use Rattle.ledger_sql.specs.Creating.{IsEmptyLedger}
use Rattle.store.specs.Stores.{IsHonestAt, IsLiveAt, OfDatabaseAt}
use Rattle.std.proofs.lemmas.Result.{err_from_is_err_and}
use Rattle.store.proofs.store.Store.create.Goals as goal

pub over-requires : goal.over-requires
over-requires g c = c.in_ok-tables.ensures.made.serves c.new.result

pub returns-clause-empty : goal.returns-clause-empty
returns-clause-empty g c honest =
    subst (λ place. IsLiveAt {g = g.D.Disk} place × OfDatabaseAt (λ (db : Database). IsEmptyLedger db.trees) place)
    (sym c.over.ensures.over)
    (let clean = subst (λ place. IsHonestAt {g = g.D.Disk} place) c.over.ensures.over honest in
    let made = c.in_ok-tables.ensures.made.made clean in
    ((clean, made.rests.is_open), made.empty))

pub returns-in_err-tables-clause-refused : goal.returns-in_err-tables-clause-refused
returns-in_err-tables-clause-refused g c =
    let p = err_from_is_err_and c.from_residual.result c.from_residual.ensures.1 in
    rw (p.1, p.2) c.in_err-tables.ensures.refused

pub returns-clause-blank : goal.returns-clause-blank
returns-clause-blank g c honest =
    c.in_ok-tables.ensures.made.blank (subst (λ place. IsHonestAt {g = g.D.Disk} place) c.over.ensures.over honest)

pub returns-clause-honest : goal.returns-clause-honest
returns-clause-honest g c honest =
    c.in_ok-tables.ensures.made.honest (subst (λ place. IsHonestAt {g = g.D.Disk} place) c.over.ensures.over honest)
