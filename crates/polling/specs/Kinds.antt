-- What a client's next message is, by its beginning, and why the client is put off for it.
use Rattle.std.specs.Prelude.{◌≡◌, ◌⊎◌, ℕ, List, Option, Some, take, nat_eq, codes, IsTrue}
use Rattle.std.specs.List.{starts_with}
use Rattle.ledger_http.specs.Unread.{IsWhole}
use Rattle.clients.specs.Talk.{Talk}
use Rattle.polling.specs.declared.gathering.Kind.{Kind}
use Rattle.polling.specs.declared.gathering.Kind.TheVariants as kind
use Rattle.polling.specs.declared.gathering.Place.{Place}
use Rattle.polling.specs.declared.gathering.Place.TheVariants.{Gathered, Now, Later}

-- the message begins so
abbrev pub BeginsSo : List ℕ → List ℕ → Type 0
BeginsSo message text = IsTrue (starts_with nat_eq message text)

-- accounts or transfers are to be made
abbrev pub IsBatch : List ℕ → Type 0
IsBatch message =
    BeginsSo message (codes "POST /accounts ") ⊎ BeginsSo message (codes "POST /transfers ")

-- a client's next message has come whole, and is such a one
abbrev pub NextIs : (List ℕ → Type 0) → Talk → Type 0
NextIs Is talk =
    (size : ℕ) × IsWhole talk.unread.bytes size × Is (take size talk.unread.bytes)

-- a batch that is put off
abbrev pub IsWaitingBatch : (List ℕ → Type 0) → List ℕ → Type 0
IsWaitingBatch waits message = IsBatch message × waits message

-- a client is deferred only if its next message is whole, and is a batch that the supervisor defers
abbrev pub IsPutOff : (List ℕ → Type 0) → Talk → Type 0
IsPutOff waits talk = NextIs (IsWaitingBatch waits) talk

-- which kind of message these bytes are
abbrev pub IsKind : List ℕ → Kind → Type 0
IsKind message (kind.Batch size) = IsBatch message
IsKind message kind.PutOff = ⊥
IsKind message kind.Page = Unit {0}
IsKind message (kind.Long size) = Unit {0}
IsKind message kind.Other = Unit {0}

-- which kind a client's next message is
abbrev pub IsNextKind : (List ℕ → Type 0) → Talk → Kind → Type 0
IsNextKind waits talk (kind.Batch size) = NextIs IsBatch talk
IsNextKind waits talk kind.PutOff = NextIs (IsWaitingBatch waits) talk
IsNextKind waits talk kind.Page = Unit {0}
IsNextKind waits talk (kind.Long size) = Unit {0}
IsNextKind waits talk kind.Other = Unit {0}

-- what becomes of a client: it is deferred only with a reason
abbrev pub IsPlaced : (List ℕ → Type 0) → Option Talk → Place → Type 0
IsPlaced waits seat Gathered = Unit {0}
IsPlaced waits seat Now = Unit {0}
IsPlaced waits seat Later = (talk : Talk) × (seat ≡ Some talk) × IsPutOff waits talk
