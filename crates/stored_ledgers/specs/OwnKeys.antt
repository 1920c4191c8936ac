-- The keys of the rows of ledgers.
use Rattle.sqlite.specs.Effect.{Database}
use Rattle.ledger_rules.specs.Whole.{IsWhole}
use Rattle.stored_ledgers.specs.Ledger.{HoldsLedgers}

-- in a database that holds ledgers, no two rows have one unique key, and each row's tenant is there,
-- where each row fits its table
abbrev pub LedgersOwnTheirKeys : Type 0
LedgersOwnTheirKeys = (db : Database) → HoldsLedgers db → IsWhole db.trees
