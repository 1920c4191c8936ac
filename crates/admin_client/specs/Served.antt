-- What a command asks a service for, piece by piece, and what it writes of the entries.
use Rattle.std.specs.Prelude.{◌≡◌, ◌==◌, ◌⊎◌, ◌&&◌, ◌+◌, ◌-◌, ◌^◌, ◌++◌, ◌∷◌, [], ℕ, Bool, true, false, List, Option, Some, None, if◌then◌else◌, map, max, min, option_map}
use Rattle.std.specs.Prelude.{Result, Err}
use Rattle.std.specs.List.{flat_map, last_or}
use Rattle.std.specs.Io.KnownBytes.{Appends}
use Rattle.records.specs.declared.filter.Order.{Order}
use Rattle.records.specs.declared.filter.Order.TheVariants.{Oldest, Newest}
use Rattle.records.specs.declared.transfer.Transfer.{Transfer}
use Rattle.records.specs.Reads.{in_order}
use Rattle.chain.specs.AccountEntries.{entry_time, row_of}
use Rattle.chain.specs.declared.account_entry.AccountEntry.{AccountEntry}
use Rattle.command_texts.specs.declared.fault.Fault.{Fault}
use Rattle.command_texts.specs.declared.fault.Fault.TheVariants.{Output}
use Rattle.statement.specs.Extract.{Keeps}
use Rattle.statement.specs.Period.{closing, is_within, opening}
use Rattle.statement.specs.Text.{statement_text}
use Rattle.statement.specs.Writer.{TakesRow}
use Rattle.statement.specs.Written.{extract_text}
use Rattle.statement.specs.declared.period.Period.{Period}
use Rattle.control.specs.Answers.{TellsEntries}
use Rattle.control.specs.Told.{IsCallFault}
use Rattle.control.specs.declared.answer.Answer.{Answer}
use Rattle.control.specs.declared.entries.Entries.{Entries}
use Rattle.control.specs.declared.piece_asked.PieceAsked.{PieceAsked}
use Rattle.admin_client.specs.Asking.{is_whole}
use Rattle.admin_client.specs.Extracts.{FindsExtract, rows_asked}
use Rattle.admin_client.specs.declared.asked.Asked.{Asked}
use Rattle.admin_client.specs.declared.served_statements.First.{First}
use Rattle.admin_client.specs.declared.served_statements.Gathered.{Gathered}
use Rattle.admin_client.specs.declared.served_statements.Whole.{Whole}

abbrev pub is_newest : Order → Bool
is_newest Oldest = false
is_newest Newest = true

-- what is asked for first: a whole statement in its order, or all up to the period's bounds, oldest
-- first
abbrev pub first_asked : List ℕ → ℕ → Asked → PieceAsked
first_asked tenant account asked = record {
  tenant = tenant;
  account = account;
  from = 0;
  to = if is_whole asked then 2 ^ 64 - 1 else max asked.period.to asked.period.from;
  is_reversed = if is_whole asked then is_newest asked.order else false;
}

-- what is asked for behind a piece whose last entry has this time
abbrev pub piece_behind : PieceAsked → Option ℕ → Option PieceAsked
piece_behind asked None = None
piece_behind asked (Some last) =
    if asked.is_reversed
    then (if last == 0 then None else Some (record asked { to = last - 1 }))
    else (if last == 2 ^ 64 - 1 then None else Some (record asked { from = last + 1 }))

-- the time of the last of some entries
abbrev pub last_time : List AccountEntry → Option ℕ
last_time entries = option_map entry_time (last_or None entries)

-- a piece that goes no further than a clock
abbrev pub up_to : ℕ → PieceAsked → PieceAsked
up_to clock asked = record asked { to = min asked.to clock }

-- pieces come behind one that was asked for: each is what is asked for behind the one before it,
-- and is told, and behind the last there is none to ask for
abbrev pub ComeBehind :
    (PieceAsked → Entries → Type 0) → PieceAsked → Entries → List Entries → Type 0
ComeBehind IsTold asked piece [] = piece_behind asked (last_time piece.entries.items) ≡ None
ComeBehind IsTold asked piece (next ∷ pieces) =
    (behind : PieceAsked) × (piece_behind asked (last_time piece.entries.items) ≡ Some behind)
    × IsTold behind next × ComeBehind IsTold behind next pieces

-- the entries of pieces, one behind the other
abbrev pub entries_of : List Entries → List AccountEntry
entries_of pieces = flat_map (λ piece. piece.entries.items) pieces

-- an answer tells a piece
abbrev pub IsPieceAnswered : PieceAsked → Entries → Type 0
IsPieceAnswered asked piece = (answer : Answer) × TellsEntries asked piece answer

-- something is so of the entries of a first piece and of all behind it, up to its clock, as
-- answers tell them
abbrev pub OfAllPieces : PieceAsked → Entries → (List AccountEntry → Type 0) → Type 0
OfAllPieces asked first P =
    (pieces : List Entries) × ComeBehind IsPieceAnswered (up_to first.clock asked) first pieces
    × P (entries_of (first ∷ pieces))

-- an answer tells the entries of the first piece
pub record IsFirstPiece (tenant : List ℕ) (account : ℕ) (asked : Asked) (first : First)
    (answer : Answer) : Type 0 where
  pub piece : first.asked ≡ first_asked tenant account asked
  pub told : TellsEntries (first_asked tenant account asked) first.entries answer

-- the service that has the file was asked for more and has not answered, or standard output could
-- not be written
abbrev pub IsUnserved : Fault → Type 0
IsUnserved fault = IsCallFault fault ⊎ (fault ≡ Output)

-- where what is written to fails, and had not failed before, that is the fault
abbrev pub IsFailureTold : {A : Type 0} → Bool → Bool → Result A Fault → Type 0
IsFailureTold before behind result = before ≡ false → behind ≡ true → result ≡ Err Output

-- a whole statement takes an entry: the line of it goes out
pub record WritesEntry {O : Type 0} (written : O → Option (List ℕ)) (old : Whole O)
    (entry : AccountEntry) (new : Whole O) : Type 0 where
  pub account : new.account ≡ old.account
  pub line : TakesRow written old.writer (row_of old.account entry) new.writer

-- the transfer of an entry that lies in the period, where wide lines are asked for
abbrev pub transfer_within : Bool → Period → ℕ → AccountEntry → List Transfer
transfer_within is_wide period account entry =
    if is_wide && is_within period (row_of account entry) then entry.transfer ∷ [] else []

-- what is gathered takes an entry: what of it is asked for
pub record Gathers (old : Gathered) (entry : AccountEntry) (new : Gathered) : Type 0 where
  pub account : new.account ≡ old.account
  pub period : new.period ≡ old.period
  pub wide : new.is_wide ≡ old.is_wide
  pub kept : Keeps old.extract (row_of old.account entry) new.extract
  pub transfers : new.transfers.items ≡ old.transfers.items
      ++ transfer_within old.is_wide old.period old.account entry

-- the transfers of the entries that are asked for, oldest first
abbrev pub transfers_asked : ℕ → Asked → List AccountEntry → List Transfer
transfers_asked account asked entries =
    flat_map (transfer_within asked.layout.is_wide asked.period account) entries

-- what of these entries is asked for is gathered, in the order asked
pub record IsGathered (account : ℕ) (asked : Asked) (entries : List AccountEntry) (g : Gathered)
    : Type 0 where
  pub found : FindsExtract asked (map (row_of account) entries) g.extract
  pub transfers : g.transfers.items ≡ in_order asked.order (transfers_asked account asked entries)

-- the text of a statement whose account has these entries: the whole of it, or that of a period
abbrev pub text_by : Bool → ℕ → Asked → List AccountEntry → List ℕ
text_by true account asked entries = statement_text (map (row_of account) entries)
text_by false account asked entries =
    extract_text asked.layout (opening asked.period (map (row_of account) entries))
    (rows_asked asked (map (row_of account) entries))
    (in_order asked.order (transfers_asked account asked entries))
    (closing asked.period (map (row_of account) entries))

abbrev pub served_text : ℕ → Asked → List AccountEntry → List ℕ
served_text account asked entries = text_by (is_whole asked) account asked entries

-- a statement is written of all entries that answers tell, piece behind piece, from the first on
abbrev pub IsStatementServed :
    List ℕ → ℕ → Asked → Option (List ℕ) → Option (List ℕ) → Answer → Type 0
IsStatementServed tenant account asked old new answer =
    (first : Entries) × TellsEntries (first_asked tenant account asked) first answer
    × OfAllPieces (first_asked tenant account asked) first
    (λ entries. Appends old new (served_text account asked entries))
