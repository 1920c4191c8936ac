-- What a command has done with the ledger that it has opened, or what the service that has it has
-- answered, and what is told of it.
use Rattle.std.specs.Prelude.{◌≡◌, ℕ, Bool, true, false, List, ◌++◌, map, Option, None, Some, is_some, Ok}
use Rattle.std.specs.Prelude.{String, string_bytes}
use Rattle.std.specs.declared.alloc.Global.{Global}
use Rattle.std.specs.Io.KnownBytes.{Appends}
use Rattle.serde_json.specs.Written.{compact_text}
use Rattle.sqlite_disk.specs.declared.Disk as disk
use Rattle.sqlite_trees.specs.Tree.{Trees}
use Rattle.sqlite_wal.specs.Recovery.{Image}
use Rattle.stored_ledgers.specs.Listing.{AreListed}
use Rattle.stored_ledgers.specs.declared.directory.ListedTenant.{ListedTenant}
use Rattle.store.specs.declared.store.Store.{Store}
use Rattle.commands.specs.Contents.{contents_line}
use Rattle.command_texts.specs.Lines.{tenants_line}
use Rattle.commands.specs.declared.contents.Contents.{Contents}
use Rattle.control.specs.Answers.{TellsCounts, TellsTenants}
use Rattle.control.specs.Listing.{HasLines, rows_data}
use Rattle.control.specs.declared.answer.Answer.{Answer}
use Rattle.control.specs.declared.counting.CountForm.{CountForm}
use Rattle.control.specs.declared.counting.CountForm.TheVariants.{Metric, Plain}
use Rattle.commands.specs.Changing.{IsChangedAs, IsOpenedFor}
use Rattle.admin_client.specs.Extracts.{IsAskedTold}
use Rattle.commands.specs.Holding.{Becomes, ComesOf, IsFrom}
use Rattle.commands.specs.Listing.{row_of}
use Rattle.commands.specs.Pieces.{machine_named}
use Rattle.admin_client.specs.declared.asked.Asked.{Asked}
use Rattle.commands.specs.declared.ended.Held.{Held}
use Rattle.commands.specs.declared.ended.Held.TheVariants as held
use Rattle.commands.specs.declared.changing.TenantChange.{TenantChange}

-- a body lists these tenants
abbrev pub ListsRows : List ListedTenant → List ℕ → Type 0
ListsRows tenants lines = HasLines (compact_text (rows_data (map row_of tenants))) lines

-- the tenants of a database are listed, as CSV
pub record AreListedTold (trees : Trees) (old new : Option (List ℕ)) : Type 0 where
  pub tenants : List ListedTenant
  pub theirs : AreListed trees tenants
  pub lines : List ℕ
  pub listed : ListsRows tenants lines
  pub told : Appends old new (tenants_line ++ lines)

-- the tenants that an answer tells are listed, as CSV
abbrev pub AreTenantsTold : Option (List ℕ) → Option (List ℕ) → Answer → Type 0
AreTenantsTold old new answer =
    (lines : List ℕ) × TellsTenants lines answer × Appends old new (tenants_line ++ lines)

-- the text of a line, if there is one
abbrev pub text_of : Option (String Global) → Option (List ℕ)
text_of None = None
text_of (Some line) = Some (string_bytes line)

-- a line says what is in a file
abbrev pub SaysContents : Option (List ℕ) → Type 0
SaysContents None = ⊥
SaysContents (Some line) = (contents : Contents) × (line ≡ contents_line contents)

module _ {D : Type 0} {g : disk.Ghosts D} where
  -- of a ledger that was opened a line says what is in it, and of any other nothing does
  abbrev pub TellsContents : Held D g → Option (List ℕ) → Type 0
  TellsContents (held.Opened store) line = SaysContents line
  TellsContents other line = line ≡ None

-- how counts are asked for
abbrev pub count_form : Bool → CountForm
count_form true = Metric
count_form false = Plain

-- the counts that an answer tells are written, a line each
abbrev pub AreCountsTold : CountForm → Option (List ℕ) → Option (List ℕ) → Answer → Type 0
AreCountsTold form old new answer =
    (lines : List ℕ) × TellsCounts form lines answer × Appends old new lines

-- what is asked for of the account of the tenant with this name is written
abbrev pub IsWrittenFrom :
    {O : Type 0} → (O → Option (List ℕ)) → List ℕ → ℕ → Asked → O → O → Trees → Type 0
IsWrittenFrom written name account asked old new trees =
    IsAskedTold written (machine_named name trees) account asked old new (Ok tt)

module _ {D : Type 0} {g : disk.Ghosts D} (image : Image) where
  -- the change was made in the ledger that was opened for it, or made where a path is told as a new
  -- ledger's
  abbrev pub HasMade :
      TenantChange → Option (List ℕ) → List ℕ → List ℕ → Store D g → Type 0
  HasMade change made name digest =
      Becomes (IsOpenedFor change (is_some made) image)
      (λ old new. IsChangedAs change name digest old new (Ok tt))

  -- the tenants of the ledger that was opened are listed
  abbrev pub HasListed : Option (List ℕ) → Option (List ℕ) → Store D g → Type 0
  HasListed before behind =
      Becomes (IsFrom image) (λ old new. AreListedTold old.trees before behind)

  -- a statement of the ledger that was opened is written
  abbrev pub HasWrittenStatement : (Trees → Type 0) → Store D g → Type 0
  HasWrittenStatement IsWritten = ComesOf (IsFrom image) (λ old new. IsWritten old.trees)
