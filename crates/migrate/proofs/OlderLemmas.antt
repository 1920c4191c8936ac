-- What a file of an older version has.
use Rattle.std.proofs.Common.{◌≡◌, ◌≢◌, ◌<◌, ℕ, cond, drop, [], inl, inr, ap, ◌∙◌, arith}
use Rattle.std.proofs.lemmas.Bool.Decides.{eqb_tells}
use Rattle.sqlite_schema.specs.declared.schema.Schema.{Schema}
use Rattle.ledger_sql.specs.Effects.{StartsAs}
use Rattle.ledger_sql.specs.Schema.{after_schema, list_schema, balance_schema}
use Rattle.migrate.specs.Upgrading.{older_schema}
use Rattle.openings.specs.Tables.{HasTables}

-- the schema of an older version has its tables
pub older_tables : (version : ℕ) (schema : Schema) → version < 3 → schema ≡ older_schema version → HasTables version schema
older_tables version schema less is = elim (eqb_tells version 1) [
  | inl one ↦
      let lists : schema ≡ list_schema = is ∙ ap (λ b. cond b list_schema balance_schema) one.0 in
      let first : version ≡ 1 = one.1 in
      record {
        lists = ([], ap (λ (s : Schema). s.tables) lists);
        derived = λ two. absurd (omega (arith, two, first));
        failed = λ three. absurd (omega (arith, three, less));
      }
  | inr other ↦
      let balances : schema ≡ balance_schema = is ∙ ap (λ b. cond b list_schema balance_schema) other.0 in
      record {
        lists = (drop 5 balance_schema.tables, ap (λ (s : Schema). s.tables) balances);
        derived = λ two. ([], ap (λ (s : Schema). s.tables) balances);
        failed = λ three. absurd (omega (arith, three, less));
      }
]

-- and begins with the table of the version
pub older_starts : (version : ℕ) (schema : Schema) → schema ≡ older_schema version → StartsAs after_schema.tables schema
older_starts version schema is = elim (eqb_tells version 1) [
  | inl one ↦
      let lists : schema ≡ list_schema = is ∙ ap (λ b. cond b list_schema balance_schema) one.0 in
      (drop 1 list_schema.tables, ap (λ (s : Schema). s.tables) lists)
  | inr other ↦
      let balances : schema ≡ balance_schema = is ∙ ap (λ b. cond b list_schema balance_schema) other.0 in
      (drop 1 balance_schema.tables, ap (λ (s : Schema). s.tables) balances)
]

-- which of the two it is
pub older_lists : (version : ℕ) → version ≡ 1 → older_schema version ≡ list_schema
older_lists version one = ap older_schema one

pub older_balances : (version : ℕ) → version ≢ 1 → older_schema version ≡ balance_schema
older_balances version other = elim (eqb_tells version 1) [
  | inl one ↦ absurd (other one.1)
  | inr not ↦ ap (λ b. cond b list_schema balance_schema) not.0
]
