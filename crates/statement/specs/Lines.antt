-- What the lines of a statement tell, before they are written in a form.
use Rattle.std.specs.Prelude.{◌≡◌, ℕ, List, [], ◌∷◌, ◌++◌, if◌then◌else◌, Bool}
use Rattle.records.specs.declared.balances.Balances.{Balances}
use Rattle.records.specs.declared.side.Side.{Side}
use Rattle.records.specs.declared.side.Side.TheVariants.{Debit, Credit}
use Rattle.records.specs.declared.statement_row.StatementRow.{StatementRow}
use Rattle.records.specs.declared.transfer.Transfer.{Transfer}
use Rattle.statement.specs.declared.details.Details.{Details}
use Rattle.statement.specs.declared.line_kind.LineKind.TheVariants.{Opening, Entry, Closing}
use Rattle.statement.specs.declared.wide_line.Line.{Line}

-- the account on the other side
abbrev pub other_account : Side → Transfer → ℕ
other_account Debit transfer = transfer.credit_account_id
other_account Credit transfer = transfer.debit_account_id

-- what a wide line tells of a transfer that has the account on this side
abbrev pub details_of : Side → Transfer → Details
details_of side transfer = record {
  other_account = other_account side transfer;
  pending_id = transfer.pending_id;
  code = transfer.code;
  user_data_128 = transfer.user_data_128;
  user_data_64 = transfer.user_data_64;
  user_data_32 = transfer.user_data_32;
}

-- of no transfer
abbrev pub no_details : Details
no_details = record {
  other_account = 0;
  pending_id = 0;
  code = 0;
  user_data_128 = 0;
  user_data_64 = 0;
  user_data_32 = 0;
}

-- the line of an entry
abbrev pub entry_line : StatementRow → Details → Line
entry_line row details = record {
  kind = Entry row.side row.kind;
  timestamp = row.timestamp;
  transfer_id = row.transfer_id;
  amount = row.amount;
  balances = row.balances;
  details = details;
}

-- the line of the sums before a period: nothing but the sums
abbrev pub opening_line : Balances → Line
opening_line balances = record {
  kind = Opening;
  timestamp = 0;
  transfer_id = 0;
  amount = 0;
  balances = balances;
  details = no_details;
}

-- the line of the sums at its end
abbrev pub closing_line : Balances → Line
closing_line balances = record (opening_line balances) { kind = Closing }

-- what is told of the first of some transfers, and those behind it
abbrev pub IsNextDetails : Side → List Transfer → Details → List Transfer → Type 0
IsNextDetails side [] details rest = (details ≡ no_details) × (rest ≡ [])
IsNextDetails side (transfer ∷ transfers) details rest =
    (details ≡ details_of side transfer) × (rest ≡ transfers)

-- the lines of entries, each with its transfer; where their transfers are not asked for, there are
-- none
abbrev pub entry_lines : List StatementRow → List Transfer → List Line
entry_lines [] transfers = []
entry_lines (row ∷ rows) [] = entry_line row no_details ∷ entry_lines rows []
entry_lines (row ∷ rows) (transfer ∷ transfers) =
    entry_line row (details_of row.side transfer) ∷ entry_lines rows transfers

-- all lines: those of entries, between the sums where they are asked for
abbrev pub all_lines : Bool → Balances → List Line → Balances → List Line
all_lines with_sums before entries behind =
    if with_sums then opening_line before ∷ entries ++ closing_line behind ∷ [] else entries
