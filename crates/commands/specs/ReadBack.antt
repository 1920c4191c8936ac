-- What a service tells of a piece, and what is read of it.
use Rattle.std.specs.Prelude.{◌≡◌, ◌<◌, ◌^◌, ℕ, All, List}
use Rattle.serde_json.specs.Written.{compact_text}
use Rattle.records.specs.Widths.{IsTransferInWidth}
use Rattle.chain.specs.declared.account_entry.AccountEntry.{AccountEntry}
use Rattle.control.specs.Answers.{TellsEntries, body_of}
use Rattle.control.specs.Entries.{entries_data}
use Rattle.control.specs.declared.answer.Answer.{Answer}
use Rattle.control.specs.declared.entries.Entries.{Entries}
use Rattle.control.specs.declared.piece_asked.PieceAsked.{PieceAsked}

-- each number of an entry, in bits
pub record IsEntryInWidth (entry : AccountEntry) : Type 0 where
  pub transfer : IsTransferInWidth entry.transfer
  pub debits_pending : entry.balances.debits.pending < 2 ^ 128
  pub debits_posted : entry.balances.debits.posted < 2 ^ 128
  pub credits_pending : entry.balances.credits.pending < 2 ^ 128
  pub credits_posted : entry.balances.credits.posted < 2 ^ 128

-- where the body of an answer is what a service makes of a clock and entries, the piece that it
-- tells has these
abbrev pub PiecesAreReadBack : Type 0
PiecesAreReadBack =
    (asked : PieceAsked) (piece : Entries) (answer : Answer) → TellsEntries asked piece answer
    → (clock : ℕ) (entries : List AccountEntry) → clock < 2 ^ 64 → All IsEntryInWidth entries
    → body_of answer ≡ compact_text (entries_data clock entries)
    → (piece.clock ≡ clock) × (piece.entries.items ≡ entries)
