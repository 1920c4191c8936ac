-- What the texts mean that read an account's entries.
use Rattle.std.proofs.Common.{ℕ, zero, suc, ◌+◌, None, List, [], ◌∷◌, ◌++◌, codes, true, false, Bool, pos, refl}
use Rattle.sqlite_value.specs.declared.keys.Collation.TheVariants.{Binary}
use Rattle.sqlite_value.specs.declared.value.Value.TheVariants.{Int}
use Rattle.sqlite_schema.specs.declared.schema.Schema.{Schema}
use Rattle.sqlite_sql.specs.declared.ops.BinaryOp.TheVariants.{Compare}
use Rattle.sqlite_sql.specs.declared.ops.CompareOp.{CompareOp}
use Rattle.sqlite_sql.specs.declared.ops.CompareOp.TheVariants.{Eq, Ge, Le}
use Rattle.sqlite_sql.specs.Term.{Term, lit, col, op2}
use Rattle.sqlite_sql.specs.Query.{Query, inner, end}
use Rattle.sqlite_tied.specs.Compute.{everything}
use Rattle.sqlite.specs.Listing.{understood}
use Rattle.ledger_sql.specs.Schema.{ledger_schema}
use Rattle.ledger_sql.specs.Queries.{IsReading}
use Rattle.ledger_sql.proofs.ReadingTexts.{IsQuery}
use Rattle.ledger_sql.proofs.AnswerLemmas.{IsSelectText}

-- so many columns of a table's row, from a place on
abbrev pub columns_at : ℕ → ℕ → ℕ → List Term
columns_at slot place zero = []
columns_at slot place (suc many) = col slot place ∷ columns_at slot (place + 1) many

-- the history of an account on one side of a time, with the transfers of these times
abbrev pub entry_terms : CompareOp → List Term
entry_terms bound =
    op2 (Compare Eq Binary) (col 2 1) (col 0 0)
    ∷ op2 (Compare Eq Binary) (col 2 14) (col 1 3)
    ∷ op2 (Compare Eq Binary) (col 1 1) (col 0 0)
    ∷ op2 (Compare Eq Binary) (col 1 2) (col 0 1)
    ∷ op2 (Compare bound Binary) (col 1 3) (col 0 2)
    ∷ []

-- the limit that is given behind the keys
abbrev pub given_limit : Term
given_limit = col 0 3

abbrev pub entry_query : CompareOp → Bool → Term → Query
entry_query bound descending limit = record {
  from = inner 15 (inner 8 end);
  filter = entry_terms bound;
  group = None;
  project = columns_at 1 2 6 ++ columns_at 2 2 14;
  distinct = false;
  collations = [];
  order = (col 1 3, record { collation = Binary; descending = descending }) ∷ [];
  limit = limit;
  offset = lit (Int (pos 0));
}

abbrev pub IsEntryText : CompareOp → Bool → Term → List ℕ → Schema → Type 0
IsEntryText bound descending limit text s = IsSelectText text s (entry_query bound descending limit)

-- the texts that read an account's entries, by the side of a time that they ask for
abbrev entry_reading : List ℕ → List ℕ
entry_reading side = codes "SELECT history.account, history.timestamp, history.dp, history.dd, history.cp, history.cc, transfer.id, transfer.debit, transfer.credit, transfer.amount, transfer.pending_id, transfer.user_data_128, transfer.user_data_64, transfer.user_data_32, transfer.timeout, transfer.ledger, transfer.code, transfer.flags, transfer.timestamp, transfer.at_clock FROM history JOIN transfer ON transfer.tenant = ?1 AND transfer.timestamp = history.timestamp WHERE history.tenant = ?1 AND history.account = ?2 AND history.timestamp " ++ side

abbrev pub first_from_text : List ℕ
first_from_text = entry_reading (codes ">= ?3 ORDER BY history.timestamp LIMIT ?4")

pub first_from_query : IsQuery ledger_schema.tables (IsEntryText Ge false given_limit) first_from_text
unfolding understood everything IsReading
first_from_query = record { reads = (tt, refl); over = λ _ _ _. record { names = _; is = refl; plain = (refl, refl); unlisted = refl } }

abbrev pub first_until_text : List ℕ
first_until_text = entry_reading (codes "<= ?3 ORDER BY history.timestamp DESC LIMIT ?4")

pub first_until_query : IsQuery ledger_schema.tables (IsEntryText Le true given_limit) first_until_text
unfolding understood everything IsReading
first_until_query = record { reads = (tt, refl); over = λ _ _ _. record { names = _; is = refl; plain = (refl, refl); unlisted = refl } }
