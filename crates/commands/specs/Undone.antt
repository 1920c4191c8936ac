-- Why a command has not done what it was asked to do.
use Rattle.std.specs.Prelude.{◌≡◌, ◌⊎◌, ℕ, Bool, List, Option, None, Err}
use Rattle.sqlite_disk.specs.declared.Disk as disk
use Rattle.sqlite_wal.specs.Recovery.{Image}
use Rattle.amount.specs.Decimal.{decimal_of}
use Rattle.tenants.specs.KeyText.{key_of}
use Rattle.tenants.specs.NameText.{IsTenantName}
use Rattle.command_line.specs.declared.commands.StatementWords.{StatementWords}
use Rattle.command_texts.specs.declared.fault.Fault.{Fault}
use Rattle.command_texts.specs.declared.fault.Fault.TheVariants.{BadAccount, BadKey, BadName}
use Rattle.command_texts.specs.declared.fault.Fault.TheVariants.{BadVersion, Exists, NotServed}
use Rattle.command_texts.specs.declared.fault.Fault.TheVariants.{Output}
use Rattle.control.specs.Told.{IsCallFault}
use Rattle.store.specs.declared.store.Store.{Store}
use Rattle.admin_client.specs.Asking.{IsAccountId, IsAskedInWords, IsUnasked}
use Rattle.commands.specs.Changing.{IsChangedAs, IsOpenedFor}
use Rattle.admin_client.specs.Extracts.{IsAskedTold}
use Rattle.admin_client.specs.GivenKeys.{IsGivenKey, OfDigest, key_text}
use Rattle.commands.specs.Holding.{ComesOf, IsFrom, IsNotBrought}
use Rattle.commands.specs.Openings.{RefusesImage, RefusesOlder}
use Rattle.commands.specs.Migrating.{IsVersion}
use Rattle.commands.specs.Pieces.{machine_named}
use Rattle.admin_client.specs.declared.asked.Asked.{Asked}
use Rattle.commands.specs.declared.changing.TenantChange.{TenantChange}
use Rattle.admin_client.specs.declared.given_key.GivenKey.{GivenKey}

-- something has a name that the copy is to have
abbrev pub IsNotCopied : Fault → Type 0
IsNotCopied fault = fault ≡ Exists

-- the key that a word means is none
abbrev pub IsBadKey : Option (List ℕ) → Type 0
IsBadKey word = (given : GivenKey) × IsGivenKey word given × (key_of (key_text given) ≡ None)

-- the service that has the file was asked and has not answered, or there is none; or what it told
-- could not be written
abbrev pub IsUnanswered : Fault → Type 0
IsUnanswered fault = IsCallFault fault ⊎ (fault ≡ NotServed) ⊎ (fault ≡ Output)

module _ {D : Type 0} (g : disk.Ghosts D) (image : Image) where
  -- the service that has the file was asked and has not answered; or standard output could not be
  -- written; or the file was not opened; or this is why the ledger in it has declined
  abbrev pub IsUndone : (Fault → Type 0) → Fault → Type 0
  IsUndone Declines fault =
      IsCallFault fault ⊎ (fault ≡ Output) ⊎ RefusesImage g image fault ⊎ Declines fault

  -- the change was not made in a ledger that was opened for it, or made
  abbrev pub IsNotMade : TenantChange → List ℕ → List ℕ → Fault → Type 0
  IsNotMade change name digest fault =
      (is_new : Bool) × (store : Store D g)
      × ComesOf (IsOpenedFor change is_new image)
      (λ old new. IsChangedAs change name digest old new (Err fault)) store

  -- a statement of a ledger that was opened is not written, or not to its end
  abbrev pub IsNotWritten :
      {O : Type 0} → (O → Option (List ℕ)) → List ℕ → ℕ → Asked → O → Fault → Type 0
  IsNotWritten {O} written name account asked out fault =
      (store : Store D g)
      × ComesOf (IsFrom image)
      (λ old new. (given : O)
      × IsAskedTold written (machine_named name old.trees) account asked out given (Err fault))
      store

  -- the name is none, or the key is; or so it is, by the key's digest
  abbrev pub IsUndoneWith :
      List ℕ → Option (List ℕ) → (List ℕ → Fault → Type 0) → Fault → Type 0
  IsUndoneWith name key Declines fault =
      ((fault ≡ BadName) × (¬ IsTenantName name)) ⊎ ((fault ≡ BadKey) × IsBadKey key)
      ⊎ IsUndone
      (λ told. (given : GivenKey) × IsGivenKey key given
      × OfDigest given (λ digest. Declines digest told))
      fault

  -- the name is none, or the account's id is, or a bound or the form; or so it is
  abbrev pub IsUndoneAsked :
      {O : Type 0} → (O → Option (List ℕ)) → List ℕ → List ℕ → StatementWords → O → Fault → Type 0
  IsUndoneAsked written name account words out fault =
      ((fault ≡ BadName) × (¬ IsTenantName name)) ⊎ ((fault ≡ BadAccount) × (¬ IsAccountId account))
      ⊎ IsUnasked words fault
      ⊎ IsUndone
      (λ told. (id : ℕ) × (account ≡ decimal_of id) × (asked : Asked) × IsAskedInWords words asked
      × IsNotWritten written name id asked out told)
      fault

  -- the version is none; or the file was not opened, or what was opened not migrated; or standard
  -- output could not be written
  abbrev pub IsNotMigrated : List ℕ → Fault → Type 0
  IsNotMigrated to fault =
      ((fault ≡ BadVersion) × (¬ IsVersion to)) ⊎ RefusesOlder g image fault
      ⊎ ((version : ℕ) × (to ≡ decimal_of version) × IsNotBrought g image version fault)
      ⊎ (fault ≡ Output)
