-- The columns of a statement, in order, and what stands in each.
use Rattle.std.specs.Prelude.{◌≡◌, ℕ, Bool, List, [], ◌∷◌, ◌++◌, codes, if◌then◌else◌}
use Rattle.statement.specs.Text.{kind_name, side_name}
use Rattle.statement.specs.declared.column.Column.{Column}
use Rattle.statement.specs.declared.column.Column.TheVariants.{Timestamp, TransferId, Side, Kind}
use Rattle.statement.specs.declared.column.Column.TheVariants.{Amount, DebitsPending, DebitsPosted}
use Rattle.statement.specs.declared.column.Column.TheVariants.{CreditsPending, CreditsPosted}
use Rattle.statement.specs.declared.column.Column.TheVariants.{OtherAccount, PendingId, Code}
use Rattle.statement.specs.declared.column.Column.TheVariants.{UserData128, UserData64, UserData32}
use Rattle.statement.specs.declared.line_kind.LineKind.{LineKind}
use Rattle.statement.specs.declared.line_kind.LineKind.TheVariants.{Opening, Entry, Closing}
use Rattle.statement.specs.declared.wide_line.Line.{Line}

-- the columns of each statement behind the first, which is the timestamp
abbrev pub narrow_columns : List Column
narrow_columns =
    TransferId ∷ Side ∷ Kind ∷ Amount
    ∷ DebitsPending ∷ DebitsPosted ∷ CreditsPending ∷ CreditsPosted ∷ []

-- those that a wide statement has behind them
abbrev pub more_columns : List Column
more_columns =
    OtherAccount ∷ PendingId ∷ Code ∷ UserData128 ∷ UserData64 ∷ UserData32 ∷ []

-- the columns behind the first
abbrev pub columns_behind : Bool → List Column
columns_behind is_wide = narrow_columns ++ (if is_wide then more_columns else [])

-- the name of a column
abbrev pub column_name : Column → List ℕ
column_name Timestamp = codes "timestamp"
column_name TransferId = codes "transfer_id"
column_name Side = codes "side"
column_name Kind = codes "kind"
column_name Amount = codes "amount"
column_name DebitsPending = codes "debits_pending"
column_name DebitsPosted = codes "debits_posted"
column_name CreditsPending = codes "credits_pending"
column_name CreditsPosted = codes "credits_posted"
column_name OtherAccount = codes "other_account"
column_name PendingId = codes "pending_id"
column_name Code = codes "code"
column_name UserData128 = codes "user_data_128"
column_name UserData64 = codes "user_data_64"
column_name UserData32 = codes "user_data_32"

-- what stands in a column of a line
pub data Cell : Type 0 where
  number : ℕ → Cell
  word : List ℕ → Cell

-- the number of a cell, where it has one
abbrev pub IsNumberIn : Cell → ℕ → Type 0
IsNumberIn (number n) m = m ≡ n
IsNumberIn (word text) m = Unit {0}

-- the side of an entry; no word where a line is none
abbrev pub side_word : LineKind → List ℕ
side_word Opening = []
side_word (Entry side kind) = side_name side
side_word Closing = []

-- what kind of line it is
abbrev pub kind_word : LineKind → List ℕ
kind_word Opening = codes "opening"
kind_word (Entry side kind) = kind_name kind
kind_word Closing = codes "closing"

-- the cell of a line in a column
abbrev pub cell_of : Line → Column → Cell
cell_of line Timestamp = number line.timestamp
cell_of line TransferId = number line.transfer_id
cell_of line Side = word (side_word line.kind)
cell_of line Kind = word (kind_word line.kind)
cell_of line Amount = number line.amount
cell_of line DebitsPending = number line.balances.debits.pending
cell_of line DebitsPosted = number line.balances.debits.posted
cell_of line CreditsPending = number line.balances.credits.pending
cell_of line CreditsPosted = number line.balances.credits.posted
cell_of line OtherAccount = number line.details.other_account
cell_of line PendingId = number line.details.pending_id
cell_of line Code = number line.details.code
cell_of line UserData128 = number line.details.user_data_128
cell_of line UserData64 = number line.details.user_data_64
cell_of line UserData32 = number line.details.user_data_32
