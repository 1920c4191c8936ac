-- The changes of a ledger's tenants, as the program makes and tells them.
use Rattle.std.specs.Prelude.{◌≡◌, ℕ, ⊤, Bool, false, List, Option, None, Some, Result, Ok, Err}
use Rattle.std.specs.Borrow.{Bor}
use Rattle.sqlite_disk.specs.declared.Disk as disk
use Rattle.sqlite_wal.specs.Recovery.{Image}
use Rattle.sqlite.specs.Effect.{Database}
use Rattle.stored_ledgers.specs.declared.joining.AddTenant.{AddTenant}
use Rattle.stored_ledgers.specs.declared.joining.AddTenant.TheVariants as add
use Rattle.stored_ledgers.specs.declared.keying.ChangeKey.{ChangeKey}
use Rattle.stored_ledgers.specs.declared.keying.ChangeKey.TheVariants as key
use Rattle.stored_ledgers.specs.Joining.{HasJoined}
use Rattle.stored_ledgers.specs.Keying.{HasKeyed}
use Rattle.store.specs.declared.store.Store.{Store}
use Rattle.command_texts.specs.declared.fault.Fault.{Fault}
use Rattle.command_texts.specs.declared.fault.Fault.TheVariants.{NameTaken, NoTenant, DigestTaken}
use Rattle.command_texts.specs.declared.fault.Fault.TheVariants.{Unavailable}
use Rattle.command_texts.specs.Lines.{added_line, changed_line}
use Rattle.control.specs.Answers.{IsToAdd, IsToChange, TellsAdded, TellsChanged}
use Rattle.control.specs.Bodies.{IsAddedIn, IsChangedIn}
use Rattle.control.specs.declared.answer.Answer.{Answer}
use Rattle.control.specs.declared.messages.Call.{Call}
use Rattle.commands.specs.Holding.{IsFrom, IsOpenedOrMade}
use Rattle.commands.specs.declared.changing.TenantChange.{TenantChange}
use Rattle.commands.specs.declared.changing.TenantChange.TheVariants.{Adding, Keying}

-- the fault that the program tells where a tenant is not added
abbrev pub add_fault : AddTenant → Fault
add_fault add.NameTaken = NameTaken
add_fault add.DigestTaken = DigestTaken
add_fault (add.Unavailable why) = Unavailable

-- that where a key is not changed
abbrev pub key_fault : ChangeKey → Fault
key_fault key.NoTenant = NoTenant
key_fault key.DigestTaken = DigestTaken
key_fault (key.Unavailable why) = Unavailable

-- what a store has answered is told, a refusal as its fault
abbrev pub IsAnswerTold :
    {Why : Type 0} → (Why → Fault) → (Result ⊤ Why → Type 0) → Result ⊤ Fault → Type 0
IsAnswerTold fault_of IsSo (Ok done) = IsSo (Ok tt)
IsAnswerTold {Why} fault_of IsSo (Err fault) =
    (why : Why) × (fault ≡ fault_of why) × IsSo (Err why)

-- a tenant of the name has joined, or the tenant has the key; or this is why not
abbrev pub IsChangedAs :
    TenantChange → List ℕ → List ℕ → Database → Database → Result ⊤ Fault → Type 0
IsChangedAs Adding name digest old new result =
    IsAnswerTold add_fault (HasJoined name digest old new) result
IsChangedAs Keying name digest old new result =
    IsAnswerTold key_fault (HasKeyed name digest old new) result

-- a service is called to make it
abbrev pub IsCallFor : TenantChange → List ℕ → List ℕ → Call → Type 0
IsCallFor Adding name key call = IsToAdd name key call
IsCallFor Keying name key call = IsToChange name key call

-- a body tells that it is made
abbrev pub IsChangeIn : TenantChange → List ℕ → List ℕ → Type 0
IsChangeIn Adding name body = IsAddedIn name body
IsChangeIn Keying name body = IsChangedIn name body

-- a service has answered so
abbrev pub TellsChange : TenantChange → List ℕ → List ℕ → Answer → Type 0
TellsChange Adding name key answer = TellsAdded name key answer
TellsChange Keying name key answer = TellsChanged name key answer

-- the line that tells it
abbrev pub change_line : TenantChange → List ℕ → List ℕ
change_line Adding name = added_line name
change_line Keying name = changed_line name

-- what has become a new ledger: nothing, or for a new tenant what stands at the path
abbrev pub IsMadeFor : TenantChange → List ℕ → Option (Bor (List ℕ)) → Type 0
IsMadeFor Adding path None = Unit {0}
IsMadeFor Adding path (Some found) = found.now ≡ path
IsMadeFor Keying path made = made ≡ None

-- a store was opened for the change; only for a new tenant one is made
abbrev pub IsOpenedFor :
    {D : Type 0} {g : disk.Ghosts D} → TenantChange → Bool → Image → Store D g → Type 0
IsOpenedFor Adding is_new image store = IsOpenedOrMade is_new image store
IsOpenedFor Keying is_new image store = (is_new ≡ false) × IsFrom image store
