-- What an extract keeps of the rows that it takes.
use Rattle.std.proofs.Common.{◌≡◌, ◌∙◌, ◌∷◌, ◌++◌, Bool, true, false, cond, List, [], ap, refl, sym, append_assoc, append-nil}
use Rattle.std.specs.Prelude.{filter}
use Rattle.records.specs.Streams.{TakesRows}
use Rattle.records.specs.declared.balances.Balances.{Balances}
use Rattle.records.specs.declared.statement_row.StatementRow.{StatementRow}
use Rattle.statement.specs.Extract.{Keeps, RowsMakeAnExtract, closing_of, kept_of, opening_of, period_of}
use Rattle.statement.specs.Period.{is_before, is_reached, is_within, sums_after}
use Rattle.statement.specs.declared.extract.Extract.{Extract}
use Rattle.statement.specs.declared.period.Period.{Period}

-- sums that a row sets, or leaves
sums_step : (b : Bool) (sums : Balances) (row : StatementRow) (rows : List StatementRow)
    → sums_after (cond b row.balances sums) rows ≡ sums_after sums (cond b (row ∷ rows) rows)
sums_step true sums row rows = refl
sums_step false sums row rows = refl

-- rows that a row is added to, or not
rows_step : (b : Bool) (kept : List StatementRow) (row : StatementRow) (rows : List StatementRow)
    → (kept ++ cond b (row ∷ []) []) ++ rows ≡ kept ++ cond b (row ∷ rows) rows
rows_step true kept row rows = append_assoc kept (row ∷ []) rows
rows_step false kept row rows = ap (λ (xs : List StatementRow). xs ++ rows) (append-nil kept)

kept_from : (p : Period) (s t : Extract) (rows : List StatementRow) → period_of s ≡ p → TakesRows Keeps s rows t
    → (opening_of t ≡ sums_after (opening_of s) (filter (is_before p) rows))
    × (closing_of t ≡ sums_after (closing_of s) (filter (is_reached p) rows))
    × (kept_of t ≡ kept_of s ++ filter (is_within p) rows)
kept_from p s t [] is taken = (
  sym (ap opening_of taken),
  sym (ap closing_of taken),
  sym (append-nil (kept_of s) ∙ ap kept_of taken),
)
kept_from p s t (row ∷ rows) is taken =
    let m = taken.0 in
    let k : Keeps s row m = taken.1 in
    let later = kept_from p m t rows (k.period ∙ is) taken.2 in
    let opens : opening_of m ≡ cond (is_before p row) row.balances (opening_of s) =
    k.opening ∙ ap (λ (q : Period). cond (is_before q row) row.balances (opening_of s)) is in
    let closes : closing_of m ≡ cond (is_reached p row) row.balances (closing_of s) =
    k.closing ∙ ap (λ (q : Period). cond (is_reached q row) row.balances (closing_of s)) is in
    let keeps : kept_of m ≡ kept_of s ++ cond (is_within p row) (row ∷ []) [] =
    k.rows ∙ ap (λ (q : Period). kept_of s ++ cond (is_within q row) (row ∷ []) []) is in (
      later.0 ∙ ap (λ (b : Balances). sums_after b (filter (is_before p) rows)) opens
          ∙ sums_step (is_before p row) (opening_of s) row (filter (is_before p) rows),
      later.1 ∙ ap (λ (b : Balances). sums_after b (filter (is_reached p) rows)) closes
          ∙ sums_step (is_reached p row) (closing_of s) row (filter (is_reached p) rows),
      later.2 ∙ ap (λ (xs : List StatementRow). xs ++ filter (is_within p) rows) keeps
          ∙ rows_step (is_within p row) (kept_of s) row (filter (is_within p) rows),
    )

pub rows_make : RowsMakeAnExtract
rows_make p new last rows empty taken =
    let all = kept_from p new last rows empty.period taken in
    record {
      opening = all.0 ∙ ap (λ (b : Balances). sums_after b (filter (is_before p) rows)) empty.opening;
      closing = all.1 ∙ ap (λ (b : Balances). sums_after b (filter (is_reached p) rows)) empty.closing;
      rows = all.2 ∙ ap (λ (xs : List StatementRow). xs ++ filter (is_within p) rows) empty.rows;
    }
