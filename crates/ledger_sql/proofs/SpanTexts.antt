-- What the texts mean that read a tenant's rows in a span of time.
use Rattle.std.proofs.Common.{ℕ, None, List, [], ◌∷◌, codes, true, false, Bool, pos, refl, ◌++◌, cond}
use Rattle.sqlite_value.specs.declared.keys.Collation.TheVariants.{Binary}
use Rattle.sqlite_value.specs.declared.value.Value.TheVariants.{Int}
use Rattle.sqlite_schema.specs.declared.schema.Schema.{Schema}
use Rattle.sqlite_sql.specs.declared.ops.BinaryOp.TheVariants.{Compare}
use Rattle.sqlite_sql.specs.declared.ops.CompareOp.TheVariants.{Ge, Le}
use Rattle.sqlite_sql.specs.Term.{Term, lit, col, op2}
use Rattle.sqlite_sql.specs.Query.{Query, inner, end}
use Rattle.sqlite_tied.specs.Compute.{everything}
use Rattle.sqlite.specs.Listing.{understood}
use Rattle.ledger_sql.specs.Schema.{ledger_schema}
use Rattle.ledger_sql.specs.Queries.{IsReading}
use Rattle.ledger_sql.proofs.EntryTexts.{given_limit}
use Rattle.ledger_sql.proofs.AnswerLemmas.{IsSelectText}
use Rattle.ledger_sql.proofs.KeyLemmas.{is_param, columns_from}
use Rattle.ledger_sql.proofs.ReadingTexts.{IsQuery}
use Rattle.ledger_sql.proofs.SelectTexts.{account_reading, transfer_reading}

-- a tenant's rows between two times, whose timestamp is the column at a place
abbrev pub span_terms : ℕ → List Term
span_terms time =
    is_param 1 0 ∷ op2 (Compare Ge Binary) (col 1 time) (col 0 1) ∷ op2 (Compare Le Binary) (col 1 time) (col 0 2) ∷ []

-- so many columns of them, in order of time or backwards
abbrev pub span_query : ℕ → ℕ → ℕ → Bool → Query
span_query tree time width descending = record {
  from = inner tree end;
  filter = span_terms time;
  group = None;
  project = columns_from 2 width;
  distinct = false;
  collations = [];
  order = (col 1 time, record { collation = Binary; descending = descending }) ∷ [];
  limit = given_limit;
  offset = lit (Int (pos 0));
}

abbrev pub IsSpanText : ℕ → ℕ → ℕ → Bool → List ℕ → Schema → Type 0
IsSpanText tree time width descending text s = IsSelectText text s (span_query tree time width descending)

-- what the texts ask more, in either order
abbrev pub span_asked : Bool → List ℕ
span_asked descending = codes " AND timestamp >= ?2 AND timestamp <= ?3 ORDER BY timestamp" ++ cond descending (codes " DESC LIMIT ?4") (codes " LIMIT ?4")

pub span_accounts : (descending : Bool) → IsQuery ledger_schema.tables (IsSpanText 5 9 8 descending) (account_reading (span_asked descending))
unfolding understood everything IsReading
span_accounts = elim [
  | true ↦ record { reads = (tt, refl); over = λ _ _ _. record { names = _; is = refl; plain = (refl, refl); unlisted = refl } }
  | false ↦ record { reads = (tt, refl); over = λ _ _ _. record { names = _; is = refl; plain = (refl, refl); unlisted = refl } }
]

pub span_transfers : (descending : Bool) → IsQuery ledger_schema.tables (IsSpanText 8 14 14 descending) (transfer_reading (span_asked descending))
unfolding understood everything IsReading
span_transfers = elim [
  | true ↦ record { reads = (tt, refl); over = λ _ _ _. record { names = _; is = refl; plain = (refl, refl); unlisted = refl } }
  | false ↦ record { reads = (tt, refl); over = λ _ _ _. record { names = _; is = refl; plain = (refl, refl); unlisted = refl } }
]
