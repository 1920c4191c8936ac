-- What the CREATEs do.
use Rattle.std.proofs.Common.{◌≡◌, ℕ, List, [], codes, false, cond, None, Ok, refl, sym, ap, subst, ◌∙◌}
use Rattle.sqlite_tied.specs.Compute.{everything}
use Rattle.sqlite_resolve.specs.Compile.{table_defined_by}
use Rattle.sqlite_schema.specs.declared.schema.Schema.{Schema}
use Rattle.sqlite_schema.specs.declared.schema.Table.{Table}
use Rattle.sqlite_schema.specs.declared.command.Command.TheVariants.{CreateTable}
use Rattle.sqlite_catalog.specs.Change.{created, next_tree, KeepsRows}
use Rattle.sqlite.specs.Effect.{Database}
use Rattle.sqlite.specs.Does.{Tally, lacks_sequence}
use Rattle.sqlite.specs.Listing.{understood}
use Rattle.sqlite.specs.State.{State, HasCleanDisk, Writes, Executes}
use Rattle.sqlite.proofs.Callers.{IsPlain, command_of, statement_of, runs_as}
use Rattle.ledger_sql.specs.Creating.{IsMaking, Makes}
use Rattle.ledger_sql.specs.Schema.{no_schema, after_schema, after_tenant, after_clock, after_account, list_schema, after_balance, after_status, balance_schema, schema_table, tenant_table, clock_table, account_table, transfer_table, balance_table, status_table, history_table, failed_table}
use Rattle.ledger_sql.proofs.WriteLemmas.{WritesBy, statement_writes}
use Rattle.ledger_sql.proofs.RunLemmas.{went, same_value}

-- the text makes this table over that schema
pub record IsCreateText (sql : List ℕ) (was : Schema) (table : Table) : Type 0 where
  pub is : command_of (understood was sql) ≡ CreateTable
  pub statement : statement_of sql (understood was sql) ≡ sql
  pub plain : IsPlain (understood was sql)
  pub defined : table_defined_by sql ≡ Ok table
  pub uncounted : lacks_sequence (created was table) ≡ false

module _ (sql : List ℕ) (was : Schema) (table : Table) (text : IsCreateText sql was table) (old new : State) where
  makes : IsMaking was old → (count : ℕ) → Executes sql [] old new (Ok count) → Makes was table old new
  makes over count h =
      let has = over.schema_is in
      let w = subst (λ t. Writes old new None CreateTable t [] count) text.statement (runs_as sql [] old new was has CreateTable text.is text.plain count h) in
      let all = went w.changed in
      let first = went all.1 in
      let made = first.1 in
      let both : Ok made.table ≡ Ok table = sym made.defined ∙ text.defined in
      let same : made.table ≡ table = same_value both in
      let schema : first.0.schema ≡ created was table = made.is ∙ ap (λ s. created s made.table) has ∙ ap (created was) same in
      let plain : lacks_sequence first.0.schema ≡ false = ap lacks_sequence schema ∙ text.uncounted in
      let now : new.now ≡ first.0 = ap (λ (p : Tally × Database). p.1) (same_value all.2) ∙ same_value (rw plain at first.2) in
      record {
        schema = ap (λ (d : Database). d.schema) now ∙ schema;
        empty = ap (λ (d : Database). d.trees (next_tree was)) now ∙ subst (λ s. first.0.trees (next_tree s) ≡ []) has made.empty;
        others = subst (λ (d : Database). KeepsRows was.tables old.now.trees d.trees) (sym now) (subst (λ (s : Schema). KeepsRows s.tables old.now.trees first.0.trees) has made.others);
        shown = record { was_open = w.shown.was_open; is_open = w.shown.is_open; now_is = refl; committed_is = w.shown.committed_is ∙ ap (λ b. cond b old.committed new.now) over.mode; mode = w.shown.mode ∙ over.mode };
        marks = w.marks;
      }

  -- the contract of a function that makes a table
  pub table_made : (HasCleanDisk old → IsMaking was old) → WritesBy sql [] (Makes was table) old new
  table_made over =
      statement_writes sql [] old new (Makes was table) CreateTable tt (λ m. record { was_open = m.shown.was_open; committed = m.shown.committed_is; unmarked = λ _ outside. absurd (let e = sym m.shown.mode ∙ outside in cc) })
      (λ clean. ((over clean).mode, (was, (over clean).schema_is, text.is, text.plain))) (λ clean. makes (over clean))

-- the texts that make the tables, each behind those before it
pub record CreateTexts : Type 0 where
  pub schema : IsCreateText (codes "CREATE TABLE schema (one INTEGER PRIMARY KEY NOT NULL CHECK (one = 1), version INTEGER NOT NULL) STRICT") no_schema schema_table
  pub tenant : IsCreateText (codes "CREATE TABLE tenant (no INTEGER PRIMARY KEY NOT NULL, name TEXT NOT NULL UNIQUE, digest BLOB NOT NULL UNIQUE CHECK (length(digest) = 32)) STRICT") after_schema tenant_table
  pub clock : IsCreateText (codes "CREATE TABLE clock (tenant INTEGER PRIMARY KEY NOT NULL REFERENCES tenant (no), clock INTEGER NOT NULL) STRICT") after_tenant clock_table
  pub account : IsCreateText (codes "CREATE TABLE account (tenant INTEGER NOT NULL REFERENCES tenant (no), id BLOB NOT NULL CHECK (length(id) = 16), user_data_128 BLOB NOT NULL CHECK (length(user_data_128) = 16), user_data_64 BLOB NOT NULL CHECK (length(user_data_64) = 8), user_data_32 INTEGER NOT NULL, ledger INTEGER NOT NULL, code INTEGER NOT NULL, flags INTEGER NOT NULL, timestamp INTEGER NOT NULL, PRIMARY KEY (tenant, id), UNIQUE (tenant, timestamp)) STRICT") after_clock account_table
  pub transfer : IsCreateText (codes "CREATE TABLE transfer (tenant INTEGER NOT NULL REFERENCES tenant (no), id BLOB NOT NULL CHECK (length(id) = 16), debit BLOB NOT NULL CHECK (length(debit) = 16), credit BLOB NOT NULL CHECK (length(credit) = 16), amount BLOB NOT NULL CHECK (length(amount) = 16), pending_id BLOB NOT NULL CHECK (length(pending_id) = 16), user_data_128 BLOB NOT NULL CHECK (length(user_data_128) = 16), user_data_64 BLOB NOT NULL CHECK (length(user_data_64) = 8), user_data_32 INTEGER NOT NULL, timeout INTEGER NOT NULL, ledger INTEGER NOT NULL, code INTEGER NOT NULL, flags INTEGER NOT NULL, timestamp INTEGER NOT NULL, at_clock INTEGER NOT NULL, PRIMARY KEY (tenant, id), UNIQUE (tenant, timestamp)) STRICT") after_account transfer_table
  pub balance : IsCreateText (codes "CREATE TABLE balance (tenant INTEGER NOT NULL REFERENCES tenant (no), account BLOB NOT NULL CHECK (length(account) = 16), dp BLOB NOT NULL CHECK (length(dp) = 16), dd BLOB NOT NULL CHECK (length(dd) = 16), cp BLOB NOT NULL CHECK (length(cp) = 16), cc BLOB NOT NULL CHECK (length(cc) = 16), PRIMARY KEY (tenant, account)) STRICT") list_schema balance_table
  pub status : IsCreateText (codes "CREATE TABLE status (tenant INTEGER NOT NULL REFERENCES tenant (no), transfer BLOB NOT NULL CHECK (length(transfer) = 16), state INTEGER NOT NULL, due INTEGER NOT NULL, PRIMARY KEY (tenant, transfer)) STRICT") after_balance status_table
  pub history : IsCreateText (codes "CREATE TABLE history (tenant INTEGER NOT NULL REFERENCES tenant (no), account BLOB NOT NULL CHECK (length(account) = 16), timestamp INTEGER NOT NULL, dp BLOB NOT NULL CHECK (length(dp) = 16), dd BLOB NOT NULL CHECK (length(dd) = 16), cp BLOB NOT NULL CHECK (length(cp) = 16), cc BLOB NOT NULL CHECK (length(cc) = 16), PRIMARY KEY (tenant, account, timestamp)) STRICT") after_status history_table
  pub failed : IsCreateText (codes "CREATE TABLE failed (tenant INTEGER NOT NULL REFERENCES tenant (no), id BLOB NOT NULL CHECK (length(id) = 16), PRIMARY KEY (tenant, id)) STRICT") balance_schema failed_table

pub creating : CreateTexts
unfolding understood everything
creating = record {
  schema = record { is = refl; statement = refl; plain = (refl, refl); defined = refl; uncounted = refl };
  tenant = record { is = refl; statement = refl; plain = (refl, refl); defined = refl; uncounted = refl };
  clock = record { is = refl; statement = refl; plain = (refl, refl); defined = refl; uncounted = refl };
  account = record { is = refl; statement = refl; plain = (refl, refl); defined = refl; uncounted = refl };
  transfer = record { is = refl; statement = refl; plain = (refl, refl); defined = refl; uncounted = refl };
  balance = record { is = refl; statement = refl; plain = (refl, refl); defined = refl; uncounted = refl };
  status = record { is = refl; statement = refl; plain = (refl, refl); defined = refl; uncounted = refl };
  history = record { is = refl; statement = refl; plain = (refl, refl); defined = refl; uncounted = refl };
  failed = record { is = refl; statement = refl; plain = (refl, refl); defined = refl; uncounted = refl };
}
