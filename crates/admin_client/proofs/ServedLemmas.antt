-- What is made of entries that a sink takes one after the other.
use Rattle.std.proofs.Common.{◌≡◌, ◌∙◌, ◌||◌, ℕ, ◌+◌, ◌<◌, Bool, List, Option, [], ◌∷◌, ◌++◌, append_assoc, Some, None, ap, false, get_or, length, map, refl, subst, sym, take, true≢false}
use Rattle.std.proofs.Common.{IfErr, Result, Ok, Err, inl, inr}
use Rattle.std.specs.Result.{IsErrAnd}
use Rattle.std.specs.List.{flat_map, last_or}
use Rattle.std.specs.Option.{option_map}
use Rattle.std.proofs.lemmas.List.{append-nil, take_more}
use Rattle.std.proofs.lemmas.List.Concat.{flat_map-append}
use Rattle.chain.specs.AccountEntries.{entry_time, row_of}
use Rattle.chain.specs.declared.account_entry.AccountEntry.{AccountEntry}
use Rattle.control.specs.declared.entries.Entries.{Entries}
use Rattle.control.specs.Told.{IsCallFault}
use Rattle.command_texts.specs.Faults.{sink_fault}
use Rattle.command_texts.specs.declared.fault.Fault.{Fault}
use Rattle.records.specs.Streams.{TakesRows}
use Rattle.records.specs.declared.row_sink.SinkFault.{SinkFault}
use Rattle.records.specs.declared.row_sink.SinkFault.TheVariants.{Memory, Write}
use Rattle.records.specs.declared.transfer.Transfer.{Transfer}
use Rattle.statement.specs.Extract.{Keeps, closing_of, kept_of, opening_of}
use Rattle.statement.specs.Fault.{is_sink_write}
use Rattle.statement.specs.Written.{extract_text}
use Rattle.statement.specs.Writer.{TakesRow}
use Rattle.admin_client.specs.Served.{Gathers, IsFailureTold, IsGathered, WritesEntry, entries_of, last_time, text_by, transfer_within}
use Rattle.admin_client.specs.Served.{IsUnserved}
use Rattle.admin_client.specs.declared.asked.Asked.{Asked}
use Rattle.admin_client.specs.declared.served_statements.Gathered.{Gathered}
use Rattle.admin_client.specs.declared.served_statements.Whole.{Whole}

-- entries behind entries
pub taken_then :
    {S A : Type 0} (takes : S → A → S → Type 0) (s t u : S) (xs ys : List A) → TakesRows takes s xs t
    → TakesRows takes t ys u → TakesRows takes s (xs ++ ys) u
taken_then takes s t u [] ys same more = subst (λ m. TakesRows takes m ys u) (sym same) more
taken_then takes s t u (x ∷ xs) ys taken more =
    (taken.0, taken.1, taken_then takes taken.0 t u xs ys taken.2 more)

-- one entry more of a list
pub taken_more :
    {S A : Type 0} (takes : S → A → S → Type 0) (s t u : S) (xs : List A) (place : ℕ) (x : A)
    → place < length xs → x ≡ get_or xs place x → TakesRows takes s (take place xs) t
    → takes t x u → TakesRows takes s (take (place + 1) xs) u
taken_more {S} {A} takes s t u xs place x within is before taken =
    subst (λ (all : List A). TakesRows takes s all u)
    (sym (take_more xs place x within ∙ ap (λ (y : A). take place xs ++ y ∷ []) (sym is)))
    (taken_then takes s t u (take place xs) (x ∷ []) before (u, taken, refl))

-- the last of a list with one more behind it
last_behind : {A : Type 0} (o : Option A) (xs : List A) (x : A) → last_or o (xs ++ x ∷ []) ≡ Some x
last_behind o [] x = refl
last_behind o (y ∷ ys) x = last_behind (Some y) ys x

-- the time of the last of one entry more of a list
pub last_more :
    (xs : List AccountEntry) (place : ℕ) (x : AccountEntry) → place < length xs → x ≡ get_or xs place x
    → Some (entry_time x) ≡ last_time (take (place + 1) xs)
last_more xs place x within is =
    let front = take place xs in
    ap (option_map entry_time) (sym (last_behind None front x))
    ∙ ap last_time
    (sym (take_more xs place x within ∙ ap (λ (y : AccountEntry). front ++ y ∷ []) (sym is)))

-- the entries of pieces with one more behind them
pub pieces_more :
    (pieces : List Entries) (piece : Entries)
    → entries_of pieces ++ piece.entries.items ≡ entries_of (pieces ++ piece ∷ [])
pieces_more pieces piece =
    ap (λ (entries : List AccountEntry). entries_of pieces ++ entries)
    (sym (append-nil piece.entries.items))
    ∙ sym (flat_map-append (λ (p : Entries). p.entries.items) pieces (piece ∷ []))

-- a whole statement that takes entries writes their lines
pub lines_taken :
    {O : Type 0} (written : O → Option (List ℕ)) (old new : Whole O) (entries : List AccountEntry)
    → TakesRows (WritesEntry written) old entries new
    → TakesRows (TakesRow written) old.writer (map (row_of old.account) entries) new.writer
lines_taken {O} written old new [] same = ap (λ (w : Whole O). w.writer) same
lines_taken written old new (entry ∷ entries) taken = (
  taken.0.writer,
  taken.1.line,
  subst
      (λ (account : ℕ). TakesRows (TakesRow written) taken.0.writer
      (map (row_of account) entries) new.writer)
      taken.1.account (lines_taken written taken.0 new entries taken.2),
)

-- what is gathered of entries keeps their rows
pub rows_kept :
    (old new : Gathered) (entries : List AccountEntry) → TakesRows Gathers old entries new
    → TakesRows Keeps old.extract (map (row_of old.account) entries) new.extract
rows_kept old new [] same = ap (λ (g : Gathered). g.extract) same
rows_kept old new (entry ∷ entries) taken = (
  taken.0.extract,
  taken.1.kept,
  subst
      (λ (account : ℕ). TakesRows Keeps taken.0.extract (map (row_of account) entries) new.extract)
      taken.1.account (rows_kept taken.0 new entries taken.2),
)

-- what is asked for stays what it is
same_within :
    {old new : Gathered} {entry : AccountEntry} → Gathers old entry new
    → transfer_within new.is_wide new.period new.account
    ≡ transfer_within old.is_wide old.period old.account
same_within taken = rw (taken.wide, taken.period, taken.account) refl

-- and their transfers
pub transfers_kept :
    (old new : Gathered) (entries : List AccountEntry) → TakesRows Gathers old entries new
    → new.transfers.items ≡ old.transfers.items
    ++ flat_map (transfer_within old.is_wide old.period old.account) entries
transfers_kept old new [] same =
    ap (λ (g : Gathered). g.transfers.items) (sym same) ∙ sym (append-nil old.transfers.items)
transfers_kept old new (entry ∷ entries) taken =
    transfers_kept taken.0 new entries taken.2
    ∙ ap (λ (made : AccountEntry → List Transfer). taken.0.transfers.items ++ flat_map made entries)
    (same_within taken.1)
    ∙ ap (λ (front : List Transfer). front
    ++ flat_map (transfer_within old.is_wide old.period old.account) entries)
    taken.1.transfers
    ∙ append_assoc old.transfers.items (transfer_within old.is_wide old.period old.account entry) _

-- the text of what is gathered
pub gathered_text :
    (account : ℕ) (asked : Asked) (entries : List AccountEntry) (g : Gathered) (given : List Transfer)
    → given ≡ g.transfers.items → IsGathered account asked entries g
    → extract_text asked.layout (opening_of g.extract) (kept_of g.extract) given (closing_of g.extract)
    ≡ text_by false account asked entries
gathered_text account asked entries g given is all =
    rw (is, all.transfers, all.found.opening, all.found.kept, all.found.closing) refl

-- a refusal that is passed on tells the same of what is written to
pub passed_on :
    {A : Type 0} (result : Result A SinkFault) (why : SinkFault)
    (behind last before : Bool) → IsErrAnd result (λ f. f ≡ why)
    → behind ≡ (is_sink_write {T = A} (Err why) || last) → last ≡ before
    → behind ≡ (is_sink_write result || before)
passed_on (Ok value) why behind last before same failed kept = absurd same
passed_on (Err Write) Write behind last before same failed kept = failed
passed_on (Err Memory) Memory behind last before same failed kept = failed ∙ kept
passed_on (Err Write) Memory behind last before same failed kept =
    absurd (let e : Write ≡ Memory = same in cc)
passed_on (Err Memory) Write behind last before same failed kept =
    absurd (let e : Memory ≡ Write = same in cc)

-- what is written to fails at a refusal, and the fault tells so
pub failure_told :
    {A : Type 0} (result : Result A Fault) (why : SinkFault)
    (behind last before : Bool) → IsErrAnd result (λ f. f ≡ sink_fault why)
    → behind ≡ (is_sink_write {T = A} (Err why) || last) → last ≡ before
    → IsFailureTold before behind result
failure_told (Ok value) why behind last before same failed kept = absurd same
failure_told (Err f) Write behind last before same failed kept = λ well bad. ap Err same
failure_told (Err f) Memory behind last before same failed kept = λ well bad.
    absurd (true≢false (sym bad ∙ failed ∙ kept ∙ well))

-- a refusal is why a service has not told more
pub unserved_by :
    {A : Type 0} (result : Result A Fault) (why : SinkFault)
    → IsErrAnd result (λ f. f ≡ sink_fault why) → IfErr result IsUnserved
unserved_by (Ok value) why same = absurd same
unserved_by (Err f) Write same = inr same
unserved_by (Err f) Memory same = inl (inl same)

-- and so is why a call was not answered
pub unserved_at_call :
    {A : Type 0} (result : Result A Fault) (why : Fault)
    → IsErrAnd result (λ f. f ≡ why) → IsCallFault why → IfErr result IsUnserved
unserved_at_call (Ok value) why same fault = absurd same
unserved_at_call (Err f) why same fault = inl (subst IsCallFault (sym same) fault)
