-- What a read of one tenant's machine is told.
use Rattle.std.specs.Prelude.{◌≡◌, ◌∷◌, ◌++◌, ℕ, true, List, [], take}
use Rattle.std.specs.Prelude.{Option, Some, None}
use Rattle.std.specs.Prelude.{Result, Ok, Err}
use Rattle.records.specs.declared.unavailable.Unavailable.TheVariants.{Disk}
use Rattle.records.specs.Machine.{Machine}
use Rattle.records.specs.Reads.{AccountAnswer, NoAccount, NoHistory, Found}
use Rattle.records.specs.Queries.{Page}
use Rattle.records.specs.Streams.{TakesRows}
use Rattle.records.specs.declared.row_sink.SinkFault.{SinkFault}
use Rattle.chain.specs.declared.reads.Listed.{Listed}
use Rattle.chain.specs.declared.reads.QueryPage.{QueryPage}
use Rattle.chain.specs.declared.reads.ReadFault.{ReadFault}
use Rattle.chain.specs.declared.reads.ReadFault.TheVariants as fault
use Rattle.chain.specs.Ledgers.{LedgersMeaning, KeepsAll, Finds}

-- what a read shows, and the clock at which it is judged
pub record Seen (A : Type 0) : Type 0 where
  pub clock : ℕ
  pub shown : A

-- an answer about an account, as a read tells it
abbrev pub seen_by : {A : Type 0} → ℕ → AccountAnswer A → Result (Seen A) ReadFault
seen_by clock NoAccount = Err fault.NoAccount
seen_by clock NoHistory = Err fault.NoHistory
seen_by clock (Found shown) = Ok (record { clock = clock; shown = shown })

-- what a tenant, if there is one, answers to a read
abbrev pub seen_in :
    {A : Type 0} → (Machine → AccountAnswer A) → Option Machine → Result (Seen A) ReadFault
seen_in answers None = Err fault.UnknownKey
seen_in answers (Some m) = seen_by m.clock (answers m)

-- what is shown, or nothing
abbrev pub rows_of : {A : Type 0} → Result (Seen (List A)) ReadFault → List A
rows_of (Ok seen) = seen.shown
rows_of (Err why) = []

-- an answer that shows what is seen, or the fault that there is; want of memory, size or disk says
-- nothing of the tenant
abbrev pub IsShown :
    {A X : Type 0} → (X → Seen A) → Result (Seen A) ReadFault → Result X ReadFault → Type 0
IsShown shows seen (Ok answer) = seen ≡ Ok (shows answer)
IsShown shows seen (Err (fault.Unavailable why)) = Unit {0}
IsShown shows seen (Err (fault.Sink why)) = ⊥
IsShown shows seen (Err fault.UnknownKey) = seen ≡ Err fault.UnknownKey
IsShown shows seen (Err fault.NoAccount) = seen ≡ Err fault.NoAccount
IsShown shows seen (Err fault.NoHistory) = seen ≡ Err fault.NoHistory

-- what a list shows
abbrev pub seen_of_list : {A : Type 0} → Listed A → Seen (List A)
seen_of_list listed = record { clock = listed.clock; shown = listed.entries.items }

-- what a page shows
abbrev pub seen_of_page : {A : Type 0} → QueryPage A → Seen (Page A)
seen_of_page page = record {
  clock = page.clock;
  shown = record { entries = page.entries.items; next = page.next };
}

-- a list that is what is seen, or the fault that there is
abbrev pub IsListed :
    {A : Type 0} → Result (Seen (List A)) ReadFault → Result (Listed A) ReadFault → Type 0
IsListed = IsShown seen_of_list

-- a page that is what is seen, or the fault that there is
abbrev pub IsPaged :
    {A : Type 0} → Result (Seen (Page A)) ReadFault → Result (QueryPage A) ReadFault → Type 0
IsPaged = IsShown seen_of_page

-- a list of what a tenant answers, or the fault that there is
abbrev pub IsListOf :
    {A : Type 0} → (Machine → AccountAnswer (List A)) → Option Machine
    → Result (Listed A) ReadFault → Type 0
IsListOf answers tenant result = IsListed (seen_in answers tenant) result

-- a page of what a tenant answers, or the fault that there is
abbrev pub IsPageOf :
    {A : Type 0} → (Machine → AccountAnswer (Page A)) → Option Machine
    → Result (QueryPage A) ReadFault → Type 0
IsPageOf answers tenant result = IsPaged (seen_in answers tenant) result

-- a sink took the rows that are seen, all of them, and nothing else
pub record IsHanded {S A : Type 0} (takes : S → A → S → Type 0)
    (seen : Result (Seen (List A)) ReadFault) (old new : S) : Type 0 where
  pub answer : Seen (List A)
  pub is : seen ≡ Ok answer
  pub taken : TakesRows takes old answer.shown new

-- a sink took a beginning of them
pub record IsBegun {S A : Type 0} (takes : S → A → S → Type 0) (rows : List A) (old new : S) :
    Type 0 where
  pub count : ℕ
  pub taken : TakesRows takes old (take count rows) new

-- a sink took a beginning of them, and refused the next one with this fault
pub record RefusesNext {S A : Type 0} (takes : S → A → S → Type 0)
    (refuses : S → A → SinkFault → S → Type 0) (rows : List A) (why : SinkFault) (old new : S) :
    Type 0 where
  pub front : List A
  pub next : A
  pub rest : List A
  pub whole : front ++ next ∷ rest ≡ rows
  pub last : S
  pub taken : TakesRows takes old front last
  pub refused : refuses last next why new

-- a read that hands rows out: all of them, or none where the tenant or the account is not there, or
-- a beginning before another fault; where that is the sink's, it refused the next row with it
abbrev pub HandsOut :
    {S A : Type 0} → (S → A → S → Type 0) → (S → A → SinkFault → S → Type 0)
    → Result (Seen (List A)) ReadFault → S → S → Result Unit ReadFault → Type 0
HandsOut takes refuses seen old new (Ok done) = IsHanded takes seen old new
HandsOut takes refuses seen old new (Err (fault.Unavailable why)) =
    IsBegun takes (rows_of seen) old new
HandsOut takes refuses seen old new (Err (fault.Sink why)) =
    RefusesNext takes refuses (rows_of seen) why old new
HandsOut takes refuses seen old new (Err fault.UnknownKey) =
    (seen ≡ Err fault.UnknownKey) × (new ≡ old)
HandsOut takes refuses seen old new (Err fault.NoAccount) =
    (seen ≡ Err fault.NoAccount) × (new ≡ old)
HandsOut takes refuses seen old new (Err fault.NoHistory) = ⊥

-- a read is answered, if only by a fault of the tenant's own
abbrev pub IsTold : {A : Type 0} → Result A ReadFault → Type 0
IsTold (Ok answer) = Unit {0}
IsTold (Err (fault.Unavailable why)) = ⊥
IsTold (Err (fault.Sink why)) = ⊥
IsTold (Err fault.UnknownKey) = Unit {0}
IsTold (Err fault.NoAccount) = Unit {0}
IsTold (Err fault.NoHistory) = Unit {0}

-- a read changes no tenant's machine
pub record ReadsOnly {S : Type 0} (t : LedgersMeaning S) (old new : S) : Type 0 where
  pub same : t.is_live new → KeepsAll (t.tenants old) (t.tenants new)
  pub follows : t.follows old new

-- a read of one tenant's machine: it is told so of the tenant, or that the disk failed where the
-- ledgers have failed; and nothing changes
pub record ReadsTenant {S X : Type 0} (t : LedgersMeaning S) (digest : List ℕ)
    (IsSo : Option Machine → Result X ReadFault → Type 0) (old new : S)
    (result : Result X ReadFault) : Type 0 where
  pub told : t.is_live new → IsSo (t.tenants old digest) result
  pub failed : t.has_failed old ≡ true → result ≡ Err (fault.Unavailable Disk)
  pub finds : Finds t (IsTold result) KeepsAll old new
  pub reads : ReadsOnly t old new
