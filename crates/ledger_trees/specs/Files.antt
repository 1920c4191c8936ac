-- The store of a ledger's file.
use Rattle.std.specs.Prelude.{IsTrue}
use Rattle.sqlite_trees.specs.declared.store.Store.{Ghosts}
use Rattle.sqlite_trees.specs.Tree.{Trees}
use Rattle.sqlite_trees.specs.View.{IsClean}
use Rattle.sqlite_catalog.specs.Listing.{IsSound}
use Rattle.ledger_sql.specs.Schema.{ledger_schema}

-- where the disk was honest, the store's trees are numbered, and whatever a crash leaves of it is a
-- ledger's file that obeys its schema
pub record IsLedgerStore {S : Type 0} (g : Ghosts S) (store : S) : Type 0 where
  pub numbered : IsClean (g.view store) → IsTrue (g.view store).is_numbered
  pub sound : IsClean (g.view store) → (db : Trees) → g.recovers store db
      → IsSound ledger_schema db
