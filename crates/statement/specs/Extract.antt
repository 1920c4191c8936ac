-- What is seen of an extract, and what it keeps of the entries that it takes.
use Rattle.std.specs.Prelude.{◌≡◌, ◌++◌, ◌∷◌, [], true, List, if◌then◌else◌}
use Rattle.records.specs.Streams.{TakesRows}
use Rattle.records.specs.declared.balances.Balances.{Balances}
use Rattle.records.specs.declared.row_sink.SinkFault.{SinkFault}
use Rattle.records.specs.declared.row_sink.SinkFault.TheVariants.{Memory}
use Rattle.records.specs.declared.statement_row.StatementRow.{StatementRow}
use Rattle.statement.specs.Period.{closing, is_before, is_reached, is_within, no_balances, opening, within}
use Rattle.statement.specs.declared.period.Period.{Period}
use Rattle.statement.specs.declared.extract.Extract.{Extract}

-- its period
abbrev pub period_of : Extract → Period
period_of e = e.period

-- the sums before the period
abbrev pub opening_of : Extract → Balances
opening_of e = e.opening

-- the sums at its end
abbrev pub closing_of : Extract → Balances
closing_of e = e.closing

-- the entries that it keeps
abbrev pub kept_of : Extract → List StatementRow
kept_of e = e.rows.items

-- it has taken no entry
pub record IsEmptyOver (p : Period) (e : Extract) : Type 0 where
  pub period : period_of e ≡ p
  pub opening : opening_of e ≡ no_balances
  pub closing : closing_of e ≡ no_balances
  pub rows : kept_of e ≡ []

-- it takes an entry: it keeps one that lies in the period, and the sums after one that is earlier
-- than the period, or lies in it
pub record Keeps (old : Extract) (row : StatementRow) (new : Extract) : Type 0 where
  pub period : period_of new ≡ period_of old
  pub opening : opening_of new
      ≡ (if is_before (period_of old) row then row.balances else opening_of old)
  pub closing : closing_of new
      ≡ (if is_reached (period_of old) row then row.balances else closing_of old)
  pub rows : kept_of new
      ≡ kept_of old ++ (if is_within (period_of old) row then row ∷ [] else [])

-- it refuses an entry: one that lies in the period, for want of memory; it is as it was
pub record RefusesEntry (old : Extract) (row : StatementRow) (why : SinkFault) (new : Extract) :
    Type 0 where
  pub within : is_within (period_of old) row ≡ true
  pub memory : why ≡ Memory
  pub period : period_of new ≡ period_of old
  pub opening : opening_of new ≡ opening_of old
  pub closing : closing_of new ≡ closing_of old
  pub rows : kept_of new ≡ kept_of old

-- it is what lies in the period of a whole statement
pub record IsExtractOf (p : Period) (statement : List StatementRow) (e : Extract) : Type 0 where
  pub opening : opening_of e ≡ opening p statement
  pub closing : closing_of e ≡ closing p statement
  pub rows : kept_of e ≡ within p statement

-- an extract that has taken a whole statement, oldest first, is what lies in its period
abbrev pub RowsMakeAnExtract : Type 0
RowsMakeAnExtract =
    (period : Period) (new last : Extract) (rows : List StatementRow) → IsEmptyOver period new
    → TakesRows Keeps new rows last → IsExtractOf period rows last
