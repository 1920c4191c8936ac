-- Ledgers as they are seen between two messages: between transactions, or inside of a round.
use Rattle.chain.specs.Ledgers.{LedgersMeaning, Tenants, KeepsAll}

-- ledgers with no round open; or the ledgers behind a round, and the machines at a point of it
pub data SeenAt (S : Type 0) : Type 0 where
  Whole : S → SeenAt S
  Within : S → Tenants → SeenAt S

-- the ledgers, or those behind the round
abbrev pub ledgers_seen : {S : Type 0} → SeenAt S → S
ledgers_seen (Whole ledgers) = ledgers
ledgers_seen (Within ledgers machines) = ledgers

abbrev pub machines_seen : {S : Type 0} → LedgersMeaning S → SeenAt S → Tenants
machines_seen t (Whole ledgers) = t.tenants ledgers
machines_seen t (Within ledgers machines) = machines

-- nobody can see what lies behind a point of a round, since nothing is written before its end: it is
-- as if a stop came there
abbrev pub MayBeSeen : {S : Type 0} → LedgersMeaning S → SeenAt S → Tenants → Type 0
MayBeSeen t (Whole ledgers) found = t.may_find ledgers found
MayBeSeen t (Within ledgers machines) found = t.is_live ledgers × KeepsAll machines found

-- what ledgers mean at each such point
abbrev pub seen : {S : Type 0} → LedgersMeaning S → LedgersMeaning (SeenAt S)
seen t = record {
  tenants = machines_seen t;
  is_live = λ point. t.is_live (ledgers_seen point);
  has_failed = λ point. t.has_failed (ledgers_seen point);
  follows = λ old new. t.follows (ledgers_seen old) (ledgers_seen new);
  may_find = MayBeSeen t;
}
