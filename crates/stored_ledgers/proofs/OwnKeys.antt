-- In a database that holds ledgers each row's keys are its own.
use Rattle.std.proofs.Common.{◌≡◌, ◌&&◌, ◌<◌, ◌≤◌, ◌^◌, ℕ, ℤ, Bool, true, not, List, [], ◌∷◌, drop, filter, length, Some, None, refl, sym, ap, subst, ◌∙◌, IsTrue, arith}
use Rattle.std.specs.List.{AllByRecursion, list_any}
use Rattle.std.proofs.lemmas.Bool.{and_from, and_parts, or_right}
use Rattle.std.proofs.lemmas.List.{length-map}
use Rattle.std.proofs.lemmas.Slice.Eq.{bytes_eq-Decides}
use Rattle.amount.specs.Column.{column_of}
use Rattle.records.specs.declared.account.Account.{Account}
use Rattle.records.specs.declared.transfer.Transfer.{Transfer}
use Rattle.rows.specs.declared.balance_row.BalanceRow.{BalanceRow}
use Rattle.rows.specs.declared.status_row.StatusRow.{StatusRow}
use Rattle.rows.specs.Cells.{account_cells, transfer_cells, balance_cells, status_cells, history_cells}
use Rattle.rows.specs.Tables.{history_key}
use Rattle.rows.specs.Widths.{IsStorableAccount, IsStorableBalance, IsStorableHistory, IsStorableStatus, IsStorableTransfer}
use Rattle.sqlite_value.specs.declared.keys.Collation.TheVariants.{Binary}
use Rattle.sqlite_value.specs.declared.value.Value.TheVariants.{Int, Text, Blob}
use Rattle.sqlite_value.specs.Keys.{plain, first_key, joined}
use Rattle.sqlite_value.specs.Order.{Row, column}
use Rattle.sqlite_trees.specs.Tree.{Trees, rowid}
use Rattle.sqlite_trees.specs.View.{is_int as is_whole}
use Rattle.sqlite_trees.proofs.ListLemmas.{filter-map}
use Rattle.sqlite.specs.Effect.{Database}
use Rattle.sqlite_schema.specs.Names.{same_name}
use Rattle.sqlite_schema.specs.Rules.{agree, clashes, equal, has_null, has_parent, is_held, parent_key}
use Rattle.sqlite_schema.specs.declared.schema.Among.TheVariants.{All}
use Rattle.sqlite_schema.specs.declared.schema.Table.{Table}
use Rattle.sqlite_rules.specs.Keys.{have_parents}
use Rattle.sqlite_rules.specs.Lists.{Has}
use Rattle.sqlite_rules.proofs.ListLemmas.{all_has, has_kept, some_from, test_from}
use Rattle.ledger_sql.specs.Schema.{ledger_schema, tenant_tree, to_tenant}
use Rattle.ledger_sql.specs.Schema.{account_table, transfer_table, balance_table, status_table, history_table, failed_table}
use Rattle.ledger_sql.specs.TableRows.{directory_rows, is_blob, is_own, is_text}
use Rattle.ledger_sql.specs.Values.{account_values, balance_values, history_values, id_values, status_values, transfer_values}
use Rattle.ledger_rules.specs.Rows.{AreLedgerRows, FitsAlone}
use Rattle.ledger_rules.specs.Whole.{KeysAreOwn}
use Rattle.stored_ledgers.specs.Ledger.{HasNoRows, HoldsLedgers}
use Rattle.stored_ledgers.specs.OwnKeys.{LedgersOwnTheirKeys}
use Rattle.stored_ledgers.proofs.KeyValues.{IsKeyOf, no_clash, number_equals, same_blobs, same_texts}
use Rattle.stored_ledgers.proofs.OneRow.{same_has}
use Rattle.stored_ledgers.proofs.OwnTables.{MachineLaws, accounts_by_id, accounts_by_time, balances, by_account, by_balance, by_clock, by_failed, by_history, by_status, by_transfer, entry, failed, history, int_of, listed, parent, statuses, transfers_by_id, transfers_by_time}
use Rattle.stored_ledgers.proofs.TableKeys.{history_tells, id_tells, tenant_column, tenant_key, tenant_of, time_tells}
use Rattle.stored_ledgers.proofs.TenantLemmas.{is_number}

-- each reference of a ledger's table is to the rowid of the directory
parent_is : (place : ℕ) → parent_key ledger_schema.tables (to_tenant place) ≡ Some (tenant_tree, 0 ∷ [], plain)
unfolding same_name joined
parent_is place = refl

agrees_there : (parent row : Row) (place : ℕ) (tenant : ℤ) → column parent 0 ≡ Int tenant
    → column row place ≡ Int tenant → agree plain (0 ∷ []) parent (place ∷ []) row ≡ true
unfolding first_key
agrees_there parent row place tenant is refers =
    subst (λ v. (equal Binary v (column row place) && true) ≡ true) (sym is)
    (subst (λ v. (equal Binary (Int tenant) v && true) ≡ true) (sym refers)
    (subst (λ b. (b && true) ≡ true) (sym (number_equals tenant)) refl))

-- a table at its tree
abbrev placed : Table → ℕ → Table
placed table tree = record table { tree = tree }

module _ (laws : MachineLaws) (db : Database) (holds : HoldsLedgers db) (fit : AreLedgerRows db.trees) where
  abbrev trees : Trees
  trees = db.trees

  -- no two rows of the directory pass such a test
  one_listed : (p : Row → Bool) → length (filter p (directory_rows trees)) ≤ 1 → (x y : Row) → Has (trees tenant_tree) x → Has (trees tenant_tree) y
      → p (listed laws db holds x) ≡ true → p (listed laws db holds y) ≡ true → y ≡ x
  one_listed p few x y here there passes also =
      let q : Row → Bool = λ r. p (listed laws db holds r) in
      same_has (filter q (trees tenant_tree)) x y
      (omega (arith, few, ap length (filter-map p (listed laws db holds) (trees tenant_tree)), length-map (filter q (trees tenant_tree)) (listed laws db holds)))
      (has_kept q (trees tenant_tree) x here passes) (has_kept q (trees tenant_tree) y there also)

  names : IsKeyOf (trees tenant_tree) (2 ∷ [])
  unfolding first_key
  names x y here there agrees =
      let a = entry laws db holds x here in
      let b = entry laws db holds y there in
      let same = same_texts b.name a.name
      (subst (λ v. equal Binary v (Text a.name) ≡ true) b.named (subst (λ v. equal Binary (column y 2) v ≡ true) a.named
      (and_parts (equal Binary (column y 2) (column x 2)) true agrees).0)) in
      one_listed (λ row. is_text a.name (column row 1)) (holds.distinct.names a.name) x y here there
      (ap (is_text a.name) a.named ∙ (bytes_eq-Decides a.name a.name).1 refl)
      (ap (is_text a.name) b.named ∙ (bytes_eq-Decides b.name a.name).1 same)

  digests : IsKeyOf (trees tenant_tree) (3 ∷ [])
  unfolding first_key
  digests x y here there agrees =
      let a = entry laws db holds x here in
      let b = entry laws db holds y there in
      let same = same_blobs b.digest a.digest
      (subst (λ v. equal Binary v (Blob a.digest) ≡ true) b.known (subst (λ v. equal Binary (column y 3) v ≡ true) a.known
      (and_parts (equal Binary (column y 3) (column x 3)) true agrees).0)) in
      one_listed (λ row. is_blob a.digest (column row 2)) (holds.distinct.digests a.digest) x y here there
      (ap (is_blob a.digest) a.known ∙ (bytes_eq-Decides a.digest a.digest).1 refl)
      (ap (is_blob a.digest) b.known ∙ (bytes_eq-Decides b.digest a.digest).1 same)

  -- rows that name tenants who have rows have their parents
  are_referred : (place : ℕ) (rows : List Row)
      → ((x : Row) → Has rows x → (n : ℤ) × (column x place ≡ Int n) × (HasNoRows n trees → ⊥))
      → have_parents All ledger_schema.tables trees (to_tenant place ∷ []) rows ≡ true
  are_referred place rows each =
      and_from _ true (test_from (λ row. has_parent ledger_schema.tables trees row (to_tenant place)) rows (λ x here.
      let own = each x here in
      let above = parent laws db holds own.0 own.2 in
      or_right (has_null (place ∷ []) x) (is_held trees (place ∷ []) x (parent_key ledger_schema.tables (to_tenant place)))
      (subst (λ key. is_held trees (place ∷ []) x key ≡ true) (sym (parent_is place))
      (some_from (λ r. agree plain (0 ∷ []) r (place ∷ []) x) (trees tenant_tree) above.0 above.1
      (agrees_there above.0 x place own.0 above.2 own.1))))) refl

  of_tenants : (t : Table) → t.key ≡ None → t.columns ≡ tenant_column ∷ drop 1 t.columns → AllByRecursion (FitsAlone t) (trees t.tree)
      → ((n : ℤ) (x : Row) → Has (trees t.tree) x → is_own n x ≡ true → HasNoRows n trees → ⊥)
      → have_parents All ledger_schema.tables trees (to_tenant 1 ∷ []) (trees t.tree) ≡ true
  of_tenants t unkeyed first fits there =
      are_referred 1 (trees t.tree) (λ x here.
      let n = tenant_of trees t (drop 1 t.columns) unkeyed first fits x here in
      (n.0, n.1, there n.0 x here (is_number (column x 1) n.0 n.1)))

  of_clocks : have_parents All ledger_schema.tables trees (to_tenant 0 ∷ []) (trees 4) ≡ true
  of_clocks =
      are_referred 0 (trees 4) (λ x here.
      let n = int_of (column x 0) (all_has (λ r. IsTrue (is_whole (rowid r))) (trees 4) x holds.numbered.1.1.0.whole here) in
      (n.0, n.1, by_clock laws db holds n.0 x here (is_number (column x 0) n.0 n.1)))

  -- the keys of each table of tenants
  account_ids : IsKeyOf (trees 5) (1 ∷ 2 ∷ [])
  account_ids =
      tenant_key trees (placed account_table 5) (drop 1 account_table.columns) refl refl fit.1.1.1.0
      (λ a. account_values (account_cells a)) (λ (a : Account). a.id) IsStorableAccount (0 ∷ [])
      (id_tells laws.one (λ a. account_values (account_cells a)) (λ (a : Account). a.id) IsStorableAccount (λ a fits. fits.widths.id) (λ a. refl)) 8
      (accounts_by_id laws db holds) (2 ∷ []) (λ x y same. same)

  account_times : IsKeyOf (trees 5) (1 ∷ 9 ∷ [])
  account_times =
      tenant_key trees (placed account_table 5) (drop 1 account_table.columns) refl refl fit.1.1.1.0
      (λ a. account_values (account_cells a)) (λ (a : Account). a.timestamp) IsStorableAccount (7 ∷ [])
      (time_tells (λ a. account_values (account_cells a)) (λ (a : Account). a.timestamp) IsStorableAccount 7 (λ a. refl)) 8
      (accounts_by_time laws db holds) (9 ∷ []) (λ x y same. same)

  transfer_ids : IsKeyOf (trees 8) (1 ∷ 2 ∷ [])
  transfer_ids =
      tenant_key trees (placed transfer_table 8) (drop 1 transfer_table.columns) refl refl fit.1.1.1.1.0
      (λ t. transfer_values (transfer_cells t)) (λ (t : Transfer). t.id) IsStorableTransfer (0 ∷ [])
      (id_tells laws.one (λ t. transfer_values (transfer_cells t)) (λ (t : Transfer). t.id) IsStorableTransfer (λ t fits. fits.widths.id) (λ t. refl)) 14
      (transfers_by_id laws db holds) (2 ∷ []) (λ x y same. same)

  transfer_times : IsKeyOf (trees 8) (1 ∷ 14 ∷ [])
  transfer_times =
      tenant_key trees (placed transfer_table 8) (drop 1 transfer_table.columns) refl refl fit.1.1.1.1.0
      (λ t. transfer_values (transfer_cells t)) (λ (t : Transfer). t.timestamp) IsStorableTransfer (12 ∷ [])
      (time_tells (λ t. transfer_values (transfer_cells t)) (λ (t : Transfer). t.timestamp) IsStorableTransfer 12 (λ t. refl)) 14
      (transfers_by_time laws db holds) (14 ∷ []) (λ x y same. same)

  balance_ids : IsKeyOf (trees 11) (1 ∷ 2 ∷ [])
  balance_ids =
      tenant_key trees (placed balance_table 11) (drop 1 balance_table.columns) refl refl fit.1.1.1.1.1.0
      (λ row. balance_values (balance_cells row)) (λ (row : BalanceRow). row.account) IsStorableBalance (0 ∷ [])
      (id_tells laws.one (λ row. balance_values (balance_cells row)) (λ (row : BalanceRow). row.account) IsStorableBalance (λ row fits. fits.account) (λ row. refl)) 5
      (balances laws db holds) (2 ∷ []) (λ x y same. same)

  status_ids : IsKeyOf (trees 13) (1 ∷ 2 ∷ [])
  status_ids =
      tenant_key trees (placed status_table 13) (drop 1 status_table.columns) refl refl fit.1.1.1.1.1.1.0
      (λ row. status_values (status_cells row)) (λ (row : StatusRow). row.transfer) IsStorableStatus (0 ∷ [])
      (id_tells laws.one (λ row. status_values (status_cells row)) (λ (row : StatusRow). row.transfer) IsStorableStatus (λ row fits. fits.transfer) (λ row. refl)) 3
      (statuses laws db holds) (2 ∷ []) (λ x y same. same)

  history_ids : IsKeyOf (trees 15) (1 ∷ 2 ∷ 3 ∷ [])
  history_ids =
      tenant_key trees (placed history_table 15) (drop 1 history_table.columns) refl refl fit.1.1.1.1.1.1.1.0
      (λ row. history_values (history_cells row)) history_key IsStorableHistory (0 ∷ 1 ∷ []) (history_tells laws.one) 6
      (history laws db holds) (2 ∷ 3 ∷ []) (λ x y same. same)

  failed_ids : IsKeyOf (trees 17) (1 ∷ 2 ∷ [])
  failed_ids =
      tenant_key trees (placed failed_table 17) (drop 1 failed_table.columns) refl refl fit.1.1.1.1.1.1.1.1.0
      (λ id. id_values (column_of id)) (λ id. id) (λ id. id < 2 ^ 128) (0 ∷ [])
      (id_tells laws.one (λ id. id_values (column_of id)) (λ id. id) (λ id. id < 2 ^ 128) (λ id fits. fits) (λ id. refl)) 1
      (failed laws db holds) (2 ∷ []) (λ x y same. same)

  -- one key, and two
  one_key : (rows : List Row) (places : List ℕ) → IsKeyOf rows places → (not (list_any (clashes plain places rows) rows) && true) ≡ true
  one_key rows places key = and_from _ true (no_clash rows places key) refl

  two_keys : (rows : List Row) (ps qs : List ℕ) → IsKeyOf rows ps → IsKeyOf rows qs
      → (not (list_any (clashes plain ps rows) rows) && (not (list_any (clashes plain qs rows) rows) && true)) ≡ true
  two_keys rows ps qs p q = and_from _ _ (no_clash rows ps p) (one_key rows qs q)

  pub keys_are_own : KeysAreOwn trees
  keys_are_own = (
    record { unique = refl; referred = refl },
    (
      record { unique = two_keys (trees 1) (2 ∷ []) (3 ∷ []) names digests; referred = refl },
      (
        record { unique = refl; referred = of_clocks },
        (
          record { unique = two_keys (trees 5) (1 ∷ 2 ∷ []) (1 ∷ 9 ∷ []) account_ids account_times; referred = of_tenants (placed account_table 5) refl refl fit.1.1.1.0 (by_account laws db holds) },
          (
            record { unique = two_keys (trees 8) (1 ∷ 2 ∷ []) (1 ∷ 14 ∷ []) transfer_ids transfer_times; referred = of_tenants (placed transfer_table 8) refl refl fit.1.1.1.1.0 (by_transfer laws db holds) },
            (
              record { unique = one_key (trees 11) (1 ∷ 2 ∷ []) balance_ids; referred = of_tenants (placed balance_table 11) refl refl fit.1.1.1.1.1.0 (by_balance laws db holds) },
              (
                record { unique = one_key (trees 13) (1 ∷ 2 ∷ []) status_ids; referred = of_tenants (placed status_table 13) refl refl fit.1.1.1.1.1.1.0 (by_status laws db holds) },
                (
                  record { unique = one_key (trees 15) (1 ∷ 2 ∷ 3 ∷ []) history_ids; referred = of_tenants (placed history_table 15) refl refl fit.1.1.1.1.1.1.1.0 (by_history laws db holds) },
                  (record { unique = one_key (trees 17) (1 ∷ 2 ∷ []) failed_ids; referred = of_tenants (placed failed_table 17) refl refl fit.1.1.1.1.1.1.1.1.0 (by_failed laws db holds) }, tt),
                ),
              ),
            ),
          ),
        ),
      ),
    ),
  )

pub ledgers_own_their_keys : MachineLaws → LedgersOwnTheirKeys
ledgers_own_their_keys laws db holds fit = keys_are_own laws db holds fit
