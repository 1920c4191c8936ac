-- An account's entries within a span of time, as they are taken one after the other.
use Rattle.std.specs.Prelude.{◌≡◌, ℕ, Bool, true, false, if◌then◌else◌, List, [], ◌∷◌, ◌++◌}
use Rattle.records.specs.declared.query.Span.{Span}
use Rattle.records.specs.Queries.{is_within}
use Rattle.records.specs.Reads.{Entry}
use Rattle.chain.specs.declared.account_entry.AccountEntry.{AccountEntry}
use Rattle.chain.specs.AccountEntries.{account_entry}
use Rattle.ledger_sql.specs.declared.entry_cells.EntryCells.{EntryCells}
use Rattle.stored_tables.specs.declared.entries_within.EntriesWithin.{EntriesWithin}
use Rattle.stored_tables.specs.declared.entries_within.Progress.{Progress}
use Rattle.stored_tables.specs.declared.entries_within.Progress.TheVariants.{Open, Over, Failed}
use Rattle.stored_tables.specs.Entries.{AreCellsOf}

-- none is taken yet
pub record HasNone (span : Span) (taken : EntriesWithin) : Type 0 where
  pub span_is : taken.span ≡ span
  pub empty : taken.entries.items ≡ []
  pub is_open : taken.progress ≡ Open

-- whether no more are wanted
abbrev pub is_closed : Progress → Bool
is_closed Open = false
is_closed Over = true
is_closed (Failed why) = true

-- what one more entry makes of those that were taken: one within the span joins them, and more are
-- wanted; any other ends them
pub record AddsEntry (span : Span) (old : List AccountEntry) (entry : AccountEntry)
    (new : List AccountEntry) (more : Bool) : Type 0 where
  pub entries :
      new ≡ (if is_within span entry.transfer.timestamp then old ++ entry ∷ [] else old)
  pub more_is : more ≡ is_within span entry.transfer.timestamp

-- there is one entry more, or it has failed
abbrev pub TakesNext :
    Span → List AccountEntry → AccountEntry → EntriesWithin → Progress → Type 0
TakesNext span old entry new Open = AddsEntry span old entry new.entries.items true
TakesNext span old entry new Over = AddsEntry span old entry new.entries.items false
TakesNext span old entry new (Failed why) = Unit {0}

-- where more are wanted, the cells of an entry are taken
pub record TakesEntry (old : EntriesWithin) (cells : EntryCells) (new : EntriesWithin) :
    Type 0 where
  pub is_open : old.progress ≡ Open
  pub span_is : new.span ≡ old.span
  pub next : (account : ℕ) (entry : Entry) → AreCellsOf account entry cells
      → TakesNext old.span old.entries.items (account_entry account entry) new new.progress
