-- What the program does for its words.
use Rattle.std.specs.Prelude.{◌≡◌, ◌≢◌, ◌⊎◌, ℕ, Bool, true, false, codes, if◌then◌else◌}
use Rattle.std.specs.Prelude.{List, [], ◌∷◌, ◌++◌, decimal}
use Rattle.std.specs.Prelude.{Option, None, Some, Result, Ok, Err, IfOk, IfErr}
use Rattle.sqlite_disk.specs.declared.Disk as disk
use Rattle.sqlite_wal.specs.Recovery.{Image}
use Rattle.std.specs.Io.KnownBytes.{Appends}
use Rattle.clap.specs.declared.error.kind.ErrorKind.TheVariants.{DisplayVersion}
use Rattle.clap.specs.Words.{IsAmong, fault_of, kind_of}
use Rattle.amount.specs.Decimal.{decimal_of}
use Rattle.tenants.specs.KeyText.{key_of}
use Rattle.tenants.specs.NameText.{IsTenantName}
use Rattle.audit.specs.declared.damage.Damage.{Damage}
use Rattle.command_line.specs.Ledgerd.{ledgerd_app}
use Rattle.command_line.specs.Line.{IsCommandOf}
use Rattle.command_line.specs.Values.{text_in}
use Rattle.command_line.specs.Version.{version_text}
use Rattle.command_line.specs.declared.commands.Command.{Command}
use Rattle.command_line.specs.declared.commands.Command.TheVariants as command
use Rattle.command_line.specs.declared.fault.LineFault.{LineFault}
use Rattle.command_line.specs.declared.fault.LineFault.TheVariants.{Refused, Version, Memory}
use Rattle.command_texts.specs.Faults.{status_of}
use Rattle.command_texts.specs.Lines.{IsWritten, damage_line}
use Rattle.command_texts.specs.Lines.{copied_line, fault_line, new_ledger_line, schema_line, stopped_line}
use Rattle.command_line.specs.declared.commands.StatementWords.{StatementWords}
use Rattle.admin_client.specs.Asking.{IsAccountId, IsAskedInWords, MeansPeriod, read_form}
use Rattle.control.specs.Answers.{TellsCopied, TellsStopped}
use Rattle.commands.specs.Changing.{IsMadeFor, TellsChange, change_line}
use Rattle.commands.specs.Copying.{IsPathOf}
use Rattle.commands.specs.Holding.{HasDamaged, HasMigrated, HasOpened, HasTold, HasToldOr}
use Rattle.commands.specs.Holding.{IsBroughtTo, IsDamagedAt, IsFrom}
use Rattle.commands.specs.Migrating.{IsVersion}
use Rattle.commands.specs.Openings.{RefusesImage}
use Rattle.commands.specs.OverFiles.{AreCountsTold, AreTenantsTold, TellsContents, count_form, text_of}
use Rattle.commands.specs.OverFiles.{HasListed, HasMade, HasWrittenStatement, IsWrittenFrom}
use Rattle.commands.specs.Undone.{IsNotCopied, IsNotMade, IsNotMigrated}
use Rattle.commands.specs.Undone.{IsUnanswered, IsUndone, IsUndoneAsked, IsUndoneWith}
use Rattle.admin_client.specs.Served.{IsStatementServed}
use Rattle.admin_client.specs.declared.asked.Asked.{Asked}
use Rattle.commands.specs.declared.changing.TenantChange.{TenantChange}
use Rattle.commands.specs.declared.changing.TenantChange.TheVariants.{Adding, Keying}
use Rattle.statement.specs.declared.period.Period.{Period}
use Rattle.admin_client.specs.GivenKeys.{IsGivenKey, AreLinesTold, OfDigest, key_text}
use Rattle.commands.specs.declared.ended.Ended.{Ended}
use Rattle.commands.specs.declared.ended.Held.TheVariants.{Nothing}
use Rattle.admin_client.specs.declared.given_key.GivenKey.{GivenKey}
use Rattle.command_texts.specs.declared.fault.Fault.{Fault}
use Rattle.command_texts.specs.declared.fault.Fault.TheVariants.{BadName, BadKey, BadAccount}
use Rattle.command_texts.specs.declared.fault.Fault.TheVariants.{BadVersion, BadTime, BadFormat}
use Rattle.command_texts.specs.declared.fault.Fault.TheVariants.{Behind, Output, Unavailable, Unreadable}

-- a word on the command line that is no key
abbrev pub IsNoKey : Option (List ℕ) → Type 0
IsNoKey None = ⊥
IsNoKey (Some word) = (word ≢ codes "-") × (key_of word ≡ None)

-- a line is told, and behind it the key, where no word gives one and it is drawn
abbrev pub TellsKey :
    Option (List ℕ) → Option (List ℕ) → Option (List ℕ) → List ℕ → GivenKey → Type 0
TellsKey word old new line key = IsGivenKey word key × AreLinesTold old new line key

module _ {O D : Type 0} {g : disk.Ghosts D} where
  -- no damage was told, and no file has become a new ledger
  abbrev pub IsCalm : Ended O D g → Type 0
  IsCalm ended = (ended.is_damaged ≡ false) × (ended.made ≡ None)

  -- a line says what is in a ledger that was opened
  abbrev pub SaysWhatIsIn : Ended O D g → Type 0
  SaysWhatIsIn ended = TellsContents ended.held (text_of ended.contents)

  -- it is not told
  abbrev pub IsBrief : Ended O D g → Type 0
  IsBrief ended = ended.contents ≡ None

  -- a tenant is added, or its key changed, and a line tells so
  pub record IsTenantChanged (change : TenantChange) (written : O → Option (List ℕ)) (image : Image)
      (name : List ℕ) (key : Option (List ℕ)) (out : O) (ended : Ended O D g) : Type 0 where
    pub given : GivenKey
    pub line : TellsKey key (written out) (written ended.out) (change_line change name) given
    pub made : OfDigest given (λ digest. HasToldOr (TellsChange change name (key_text given))
        (HasOpened (HasMade image change (text_in ended.made) name digest)) ended.held)

  -- so it is; before the file is opened the name is judged, then the key
  pub record ChangesTenant (change : TenantChange) (written : O → Option (List ℕ)) (image : Image)
      (db name : List ℕ) (key : Option (List ℕ)) (out : O)
      (result : Result (Ended O D g) Fault) : Type 0 where
    pub name_first : ¬ IsTenantName name → result ≡ Err BadName
    pub key_next : IsTenantName name → IsNoKey key → result ≡ Err BadKey
    pub changed : IfOk result (IsTenantChanged change written image name key out)
    pub calm : IfOk result (λ ended. ended.is_damaged ≡ false)
    pub made : IfOk result (λ ended. IsMadeFor change db ended.made)
    pub brief : IfOk result IsBrief
    pub fault : IfErr result (IsUndoneWith g image name key (IsNotMade g image change name))

  -- what the words ask for of an account's statement is written
  pub record IsStatementWritten (written : O → Option (List ℕ)) (image : Image)
      (name account : List ℕ) (words : StatementWords) (out : O) (ended : Ended O D g)
      : Type 0 where
    pub id : ℕ
    pub is : account ≡ decimal_of id
    pub asked : Asked
    pub means : IsAskedInWords words asked
    pub told : HasToldOr (IsStatementServed name id asked (written out) (written ended.out))
        (HasOpened (HasWrittenStatement image (IsWrittenFrom written name id asked out ended.out)))
        ended.held

  -- so it is; before the file is opened the name is judged, then the account's id, then the
  -- period's bounds, and then the form
  pub record WritesStatement (written : O → Option (List ℕ)) (image : Image)
      (name account : List ℕ) (words : StatementWords) (out : O)
      (result : Result (Ended O D g) Fault) : Type 0 where
    pub name_first : ¬ IsTenantName name → result ≡ Err BadName
    pub account_next : IsTenantName name → ¬ IsAccountId account → result ≡ Err BadAccount
    pub period_next : IsTenantName name → IsAccountId account
        → ((period : Period) → ¬ MeansPeriod words period) → result ≡ Err BadTime
    pub form_last : (period : Period) → IsTenantName name → IsAccountId account
        → MeansPeriod words period → read_form (text_in words.format) ≡ Err BadFormat
        → result ≡ Err BadFormat
    pub statement : IfOk result (IsStatementWritten written image name account words out)
    pub calm : IfOk result IsCalm
    pub brief : IfOk result IsBrief
    pub fault : IfErr result (IsUndoneAsked g image written name account words out)

  -- a ledger was audited and is open, and a line tells that all is sound
  pub record TellsSound (written : O → Option (List ℕ)) (image : Image) (out : O)
      (ended : Ended O D g) : Type 0 where
    pub line : Appends (written out) (written ended.out) (codes "ok" ++ 10 ∷ [])
    pub calm : ended.is_damaged ≡ false
    pub sound : HasOpened (IsFrom image) ended.held

  -- a line tells the first damage
  pub record TellsDamage (written : O → Option (List ℕ)) (image : Image) (out : O)
      (ended : Ended O D g) : Type 0 where
    pub damage : Damage
    pub line : Appends (written out) (written ended.out) (damage_line damage)
    pub damaged : ended.is_damaged ≡ true
    pub first : HasDamaged (IsDamagedAt g image damage) ended.held

  -- a file is audited, and a line tells what was found; else the fault is one of the opening, which
  -- has found what it tells of a ledger, or the line could not be written
  pub record Checks (written : O → Option (List ℕ)) (image : Image) (out : O)
      (result : Result (Ended O D g) Fault) : Type 0 where
    pub found : IfOk result (λ ended. (ended.made ≡ None)
        × (TellsSound written image out ended ⊎ TellsDamage written image out ended))
    pub contents : IfOk result SaysWhatIsIn
    pub fault : IfErr result (λ fault. RefusesImage g image fault ⊎ (fault ≡ Output))

  -- a ledger is brought to a version, and a line tells it
  pub record IsMigratedSo (written : O → Option (List ℕ)) (image : Image) (to : List ℕ) (out : O)
      (ended : Ended O D g) : Type 0 where
    pub line : Appends (written out) (written ended.out) (schema_line to)
    pub version : ℕ
    pub is : to ≡ decimal_of version
    pub brought : HasMigrated (IsBroughtTo image version) ended.held

  -- a ledger is brought to a version; before the file is opened the version is judged
  pub record Migrates (written : O → Option (List ℕ)) (image : Image) (to : List ℕ) (out : O)
      (result : Result (Ended O D g) Fault) : Type 0 where
    pub version_first : ¬ IsVersion to → result ≡ Err BadVersion
    pub fault : IfErr result (IsNotMigrated g image to)
    pub migrated : IfOk result (IsMigratedSo written image to out)
    pub calm : IfOk result IsCalm
    pub brief : IfOk result IsBrief

  -- the tenants of a ledger are listed
  pub record ListsTenants (written : O → Option (List ℕ)) (image : Image) (out : O)
      (result : Result (Ended O D g) Fault) : Type 0 where
    pub listed : IfOk result (λ ended.
        HasToldOr (AreTenantsTold (written out) (written ended.out))
        (HasOpened (HasListed image (written out) (written ended.out))) ended.held)
    pub calm : IfOk result IsCalm
    pub contents : IfOk result SaysWhatIsIn
    pub fault : IfErr result (IsUndone g image (λ fault. ⊥))

  -- a line tells how many bytes the copy at a path has, as it was answered, or the ledger that was
  -- copied is open
  pub record IsCopiedSo (written : O → Option (List ℕ)) (image : Image) (to : List ℕ) (out : O)
      (ended : Ended O D g) : Type 0 where
    pub bytes : ℕ
    pub line : Appends (written out) (written ended.out) (copied_line (decimal bytes))
    pub path : List ℕ
    pub is : IsPathOf to path
    pub copied : HasToldOr (TellsCopied path (decimal bytes)) (HasOpened (IsFrom image)) ended.held

  -- so it is
  pub record CopiesFile (written : O → Option (List ℕ)) (image : Image) (to : List ℕ) (out : O)
      (result : Result (Ended O D g) Fault) : Type 0 where
    pub copied : IfOk result (IsCopiedSo written image to out)
    pub calm : IfOk result IsCalm
    pub contents : IfOk result SaysWhatIsIn
    pub fault : IfErr result (IsUndone g image IsNotCopied)

  -- what the service has answered of itself is written
  pub record AsksStatus (written : O → Option (List ℕ)) (as_metrics : Bool) (out : O)
      (result : Result (Ended O D g) Fault) : Type 0 where
    pub told : IfOk result (λ ended. HasTold
        (AreCountsTold (count_form as_metrics) (written out) (written ended.out)) ended.held)
    pub calm : IfOk result IsCalm
    pub brief : IfOk result IsBrief
    pub fault : IfErr result IsUnanswered

  -- the service has answered that it has ended, and a line tells so
  pub record Stops (written : O → Option (List ℕ)) (out : O)
      (result : Result (Ended O D g) Fault) : Type 0 where
    pub line : IfOk result (λ ended. Appends (written out) (written ended.out) stopped_line)
    pub told : IfOk result (λ ended. HasTold TellsStopped ended.held)
    pub calm : IfOk result IsCalm
    pub brief : IfOk result IsBrief
    pub fault : IfErr result IsUnanswered

  -- the versions are written
  pub record TellsVersion (written : O → Option (List ℕ)) (out : O)
      (result : Result (Ended O D g) Fault) : Type 0 where
    pub lines : IfOk result (λ ended. Appends (written out) (written ended.out) version_text)
    pub calm : IfOk result IsCalm
    pub brief : IfOk result IsBrief
    pub fault : IfErr result (λ fault. fault ≡ Output)

  -- nothing is done
  abbrev pub DoesNothing : O → Result (Ended O D g) Fault → Type 0
  DoesNothing out result =
      result
      ≡ Ok (record {
        out = out;
        is_damaged = false;
        made = None;
        contents = None;
        held = Nothing;
      })

  -- what a command comes to, of a file and its log that hold this
  abbrev pub Performs :
      (O → Option (List ℕ)) → Image → Command → O → Result (Ended O D g) Fault → Type 0
  Performs written image command.Lists out result = DoesNothing out result
  Performs written image (command.Serve db address port requests standby limits) out result =
      DoesNothing out result
  Performs written image (command.AddTenant db name key) out result =
      ChangesTenant Adding written image db.now name.now (text_in key) out result
  Performs written image (command.ChangeKey db name key) out result =
      ChangesTenant Keying written image db.now name.now (text_in key) out result
  Performs written image (command.Statement db tenant account asked) out result =
      WritesStatement written image tenant.now account.now asked out result
  Performs written image (command.Check db) out result = Checks written image out result
  Performs written image (command.Migrate db to) out result =
      Migrates written image to.now out result
  Performs written image (command.Lint route) out result = DoesNothing out result
  Performs written image (command.Tenants db) out result = ListsTenants written image out result
  Performs written image (command.Status db prometheus) out result =
      AsksStatus written prometheus out result
  Performs written image (command.Copy db to) out result =
      CopiesFile written image to.now out result
  Performs written image (command.Stop db) out result = Stops written out result
  Performs written image command.Version out result = TellsVersion written out result

-- standard error, before and behind the program
pub record Told : Type 0 where
  pub before : Option (List ℕ)
  pub behind : Option (List ℕ)
  pub has_failed : Bool

abbrev pub told : Option (List ℕ) → Option (List ℕ) → Bool → Told
told before behind has_failed =
    record { before = before; behind = behind; has_failed = has_failed }

-- a fault is told: its status, and its line on standard error
abbrev pub TellsFault : Fault → Told → ℕ → Type 0
TellsFault fault err status =
    (status ≡ status_of fault) × IsWritten err.before err.behind err.has_failed (fault_line fault)

-- so is one of a file; more may stand behind the line: the system's reason, or what can be done about
-- a ledger that lacks commits
abbrev pub TellsFileFault : Fault → Told → ℕ → Type 0
TellsFileFault fault err status =
    (status ≡ status_of fault)
    × ((more : List ℕ) × (fault ≢ Unreadable → fault ≢ Behind → more ≡ [])
    × IsWritten err.before err.behind err.has_failed (fault_line fault ++ more))

-- the line on standard error beside what a command has come to: of a new ledger, by its path, or of
-- what is in one
abbrev pub line_beside : Option (List ℕ) → Option (List ℕ) → Option (List ℕ)
line_beside (Some path) contents = Some (new_ledger_line path)
line_beside None contents = contents

-- that line is printed there, and nothing without one
abbrev pub IsBesideTold : Option (List ℕ) → Told → Type 0
IsBesideTold None err = err.behind ≡ err.before
IsBesideTold (Some line) err = err.has_failed ≡ false → Appends err.before err.behind line

-- The status of a command is 0, or 4 where it found damage, or that of its fault. Standard error has
-- a line for a new ledger, for what is in one, or for the fault, and else nothing.
abbrev pub TellsEnded :
    {O D : Type 0} {g : disk.Ghosts D} → Result (Ended O D g) Fault → Told → ℕ → Type 0
TellsEnded (Ok ended) err status =
    (status ≡ (if ended.is_damaged then 4 else 0))
    × IsBesideTold (line_beside (text_in ended.made) (text_of ended.contents)) err
TellsEnded (Err fault) err status = TellsFileFault fault err status

-- a refusal of the words is told, or that memory runs out for its text
abbrev pub IsRefusalTold : Told → ℕ → Type 0
IsRefusalTold err status = (status ≡ 2) ⊎ TellsFault Unavailable err status

module _ {O D : Type 0} (g : disk.Ghosts D) (written : O → Option (List ℕ)) (image : Image) where
  -- what the program does for words that are read so
  abbrev pub HasRunFor : List (List ℕ) → O → Told → ℕ → Result Command LineFault → Type 0
  HasRunFor words out err status (Ok asked) =
      IsCommandOf words asked
      × ((ended : Result (Ended O D g) Fault) × Performs written image asked out ended
      × TellsEnded ended err status)
  HasRunFor words out err status (Err (Refused error)) =
      IsAmong (kind_of error) (fault_of ledgerd_app words) × IsRefusalTold err status
  HasRunFor words out err status (Err Version) =
      IsAmong DisplayVersion (fault_of ledgerd_app words)
      × ((ended : Result (Ended O D g) Fault) × TellsVersion written out ended
      × TellsEnded ended err status)
  HasRunFor words out err status (Err Memory) = TellsFault Unavailable err status

  -- what the program does for its words
  abbrev pub RunsProgram : List (List ℕ) → O → Told → ℕ → Type 0
  RunsProgram words out err status =
      (line : Result Command LineFault) × HasRunFor words out err status line
