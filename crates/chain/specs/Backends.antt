-- Ledgers as something keeps them, and as they are while they may be called.
use Rattle.chain.specs.Ledgers.{LedgersMeaning}

-- what is kept means: the ledgers, and whether they may be called
pub record BackendMeaning (S : Type 0) : Type 1 where
  pub ledgers : LedgersMeaning S
  pub is_usable : S → Type 0

-- the same ledgers, live only where they may be called
abbrev pub in_use : {S : Type 0} → BackendMeaning S → LedgersMeaning S
in_use t = record {
  tenants = t.ledgers.tenants;
  is_live = λ s. t.ledgers.is_live s × t.is_usable s;
  has_failed = t.ledgers.has_failed;
  follows = λ old new. t.ledgers.follows old new × (t.is_usable new → t.is_usable old);
  may_find = t.ledgers.may_find;
}
