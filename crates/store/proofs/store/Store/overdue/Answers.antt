use Rattle.std.proofs.Common.{◌≡◌, None, refl, sym, subst, rules}
use Rattle.sqlite.specs.State.{HasCleanDisk}
use Rattle.ledger_sql.specs.Frames.{Live}
use Rattle.stored_ledgers.specs.Directory.{first_digest, with_number}
use Rattle.stored_ledgers.specs.Overdue.{FindsOverdue, FindsNone}
use Rattle.openings.specs.OpenTables.{open_state}
use Rattle.store.specs.Stores.{OfDatabaseAt}
use Rattle.store.proofs.OverdueLemmas.{told_so}
use Rattle.store.proofs.ReadLemmas.{reads_here, reads_open}
use Rattle.store.proofs.store.Store.overdue.Goals as goal

pub find_overdue-found-requires : goal.find_overdue-found-requires
find_overdue-found-requires g c = reads_here g.D.Disk c.args.self.now _ c.in-Open.is (search rules) c.requires

pub returns-clause-reads : goal.returns-clause-reads
returns-clause-reads g c = reads_open g.D.Disk c.find_overdue-found.result c.is_disk_fault.result c.args.self.now _ c.in-Open.tables c.find_overdue-found.new.tables c.in-Open.is refl (search rules) refl c.is_disk_fault.ensures c.requires refl c.find_overdue-found.ensures.reads

pub returns-clause-none : goal.returns-clause-none
returns-clause-none g c =
    let due = c.args.self.now.due in
    let moment = c.args.moment in
    let old = c.args.search.now in
    let new = c.find_overdue-found.new.search in
    told_so (FindsNone due moment old new) (λ n piece. FindsOverdue due moment old new n piece)
    (λ n. HasCleanDisk (open_state c.find_overdue-found.new.tables)
    → first_digest (with_number n (open_state c.in-Open.tables).now.trees) ≡ None)
    (λ n. Live (open_state c.find_overdue-found.new.tables)
    → OfDatabaseAt (λ db. first_digest (with_number n db.trees) ≡ None) c.args.self.now.place)
    (λ n missing live. subst (OfDatabaseAt (λ db. first_digest (with_number n db.trees) ≡ None))
    (sym c.in-Open.is) (missing live.0)) c.find_overdue-found.result c.find_overdue-found.ensures.none
