-- A sound tenant is sound in each reading, so that nothing in it is damaged.
use Rattle.std.proofs.Common.{◌≡◌, ◌^◌, ◌<◌, ℕ, ℤ, pos, All, List, [], ◌∷◌, map, true, is_lt, inl, inr, sym, ap, subst, ◌∙◌, arith}
use Rattle.std.specs.List.{AllByRecursion, AllZip}
use Rattle.std.specs.List.Sorted.{IsPermutation}
use Rattle.std.specs.Ordering.{nat_cmp, int_cmp, ordering_then}
use Rattle.std.proofs.lemmas.Bool.Decides.{leb_tells, nat_tests}
use Rattle.std.proofs.lemmas.List.Sorted.{IsPermutation-sym, IsPermutation-trans}
use Rattle.amount.specs.Column.{KeepsOrder, column_of}
use Rattle.rows.specs.declared.balance_row.BalanceRow.{BalanceRow}
use Rattle.rows.specs.declared.status_row.StatusRow.{StatusRow}
use Rattle.rows.specs.declared.history_row.HistoryRow.{HistoryRow}
use Rattle.rows.specs.Cells.{account_cells, transfer_cells, balance_cells, status_cells, history_cells}
use Rattle.rows.specs.Prescribed.{rows_for}
use Rattle.rows.specs.Tables.{history_key}
use Rattle.rows.specs.TypedRows.{FileRows, TypedRows, cells_of, lists_of}
use Rattle.rows.specs.Widths.{AreStorable, IsStorableBalance, IsStorableHistory, IsStorableStatus}
use Rattle.audit.specs.Sound.{AreSound, SoundRowsPass}
use Rattle.rows.specs.declared.all_rows.AllRows.{AllRows}
use Rattle.rows.specs.declared.all_rows.DirectoryRow.{DirectoryRow}
use Rattle.rows.specs.declared.all_rows.TenantOfDigest.{TenantOfDigest}
use Rattle.std.proofs.lemmas.List.Elements.{All-from_recursion, recursion_from_All}
use Rattle.openings.specs.Opened.{IsSoundIn}
use Rattle.openings.specs.Told.{SoundHasNoDamage}
use Rattle.openings.specs.Whole.{AreAllRows, IsReadFor}
use Rattle.sqlite_trees.specs.Tree.{Trees}
use Rattle.ledger_sql.specs.Reading.{balance_cmp, history_cmp, id_cmp, status_cmp}
use Rattle.ledger_sql.specs.TableRows.{account_rows, balance_rows, clock_rows, failed_rows, history_rows, status_rows, transfer_rows}
use Rattle.ledger_sql.specs.Values.{account_values, balance_values, clock_values, history_values, id_values, status_values, transfer_values}
use Rattle.openings.specs.Tables.{AreTenantRows}
use Rattle.openings.proofs.HeldMachines.{only_one, same_numbers}
use Rattle.openings.proofs.OpenedLedger.{RowsFit}
use Rattle.openings.proofs.SoundAgain.{OneOrder, Typed, read_again, read_since}
use Rattle.openings.proofs.ToldLemmas.{read_named}

-- what is known of the rows of valid machines, and of rows that are read in order
pub record Known : Type 0 where
  pub fit : RowsFit
  pub order : KeepsOrder
  pub balances : OneOrder BalanceRow
  pub statuses : OneOrder StatusRow
  pub history : OneOrder HistoryRow
  pub failed : OneOrder ℕ

is_less : (a b : ℕ) → a < b → is_lt (nat_cmp a b) ≡ true
is_less a b less = grind (arith, nat_tests)

-- lesser numbers are lesser columns
columns_less : KeepsOrder → (a b : ℕ) → a < 2 ^ 128 → b < 2 ^ 128 → a < b → is_lt (id_cmp (column_of a) (column_of b)) ≡ true
columns_less order a b fits_a fits_b less = ap is_lt (order a b fits_a fits_b) ∙ is_less a b less

first_less : (a b t u : ℕ) → a < b → is_lt (ordering_then (nat_cmp a b) (int_cmp (pos t) (pos u))) ≡ true
first_less a b t u less = grind (arith, nat_tests)

second_less : (a b t u : ℕ) → a ≡ b → t < u → is_lt (ordering_then (nat_cmp a b) (int_cmp (pos t) (pos u))) ≡ true
second_less a b t u same less = grind (arith, nat_tests)

-- by account and then by time
history_less : KeepsOrder → (x y : HistoryRow) → IsStorableHistory x → IsStorableHistory y → history_key x < history_key y
    → is_lt (history_cmp (history_cells x) (history_cells y)) ≡ true
history_less order x y fits_x fits_y less =
    subst (λ (o : _). is_lt (ordering_then o (int_cmp (pos x.timestamp) (pos y.timestamp))) ≡ true)
    (sym (order x.account y.account fits_x.account fits_y.account))
    (elim (leb_tells y.account x.account) [
      | inl le ↦
          second_less x.account y.account x.timestamp y.timestamp
          (omega (arith, le.1, less, fits_x.timestamp, fits_y.timestamp))
          (omega (arith, le.1, less, fits_x.timestamp, fits_y.timestamp))
      | inr gt ↦ first_less x.account y.account x.timestamp y.timestamp (omega (arith, gt.1))
    ])

module _ (known : Known) (version : ℕ) (tenant : ℤ) (trees : Trees) (a b : FileRows)
    (read : AreTenantRows version tenant trees a) (second : AreTenantRows version tenant trees b)
    (sound : AreSound version a) where
  abbrev typed : TypedRows
  typed = sound.2.typed

  fits : AreStorable (rows_for version sound.0)
  fits = known.fit version sound.0 sound.1

  first : AreTenantRows version tenant trees (cells_of typed)
  first = subst (AreTenantRows version tenant trees) (sym sound.2.cells) read

  clocks_same : pos typed.clock ∷ [] ≡ b.clocks
  clocks_same =
      let is = only_one (clock_rows tenant trees) (clock_values (pos typed.clock)) first.clocks.all in
      sym (read_named b.clocks (pos typed.clock)
      (only_one (map clock_values b.clocks) (clock_values (pos typed.clock))
      (subst (λ rows. IsPermutation (map clock_values b.clocks) rows) is
      (IsPermutation-sym (clock_rows tenant trees) (map clock_values b.clocks) second.clocks.all))))

  accounts : Typed account_cells typed.accounts b.accounts
  accounts =
      read_again account_values (λ c d same. let e : record c { id = c.id } ≡ record d { id = d.id } = cc in e) account_cells
      (account_rows tenant trees) typed.accounts b.accounts first.accounts.all second.accounts.all

  transfers : Typed transfer_cells typed.transfers b.transfers
  transfers =
      read_again transfer_values (λ c d same. let e : record c { id = c.id } ≡ record d { id = d.id } = cc in e) transfer_cells
      (transfer_rows tenant trees) typed.transfers b.transfers first.transfers.all second.transfers.all

  balances_same : map balance_cells typed.balances ≡ b.balances
  balances_same =
      read_since balance_values (λ c d same. let e : record c { account = c.account } ≡ record d { account = d.account } = cc in e)
      balance_cells balance_cmp (λ row. row.account) IsStorableBalance
      (λ t u fit_t fit_u. columns_less known.order t.account u.account fit_t.account fit_u.account) known.balances
      (balance_rows tenant trees) (rows_for version sound.0).balances typed.balances sound.2.same.balances fits.balances
      sound.2.in_order.balances 2 version b.balances first.balances second.balances

  statuses_same : map status_cells typed.statuses ≡ b.statuses
  statuses_same =
      read_since status_values (λ c d same. let e : record c { transfer = c.transfer } ≡ record d { transfer = d.transfer } = cc in e)
      status_cells status_cmp (λ row. row.transfer) IsStorableStatus
      (λ t u fit_t fit_u. columns_less known.order t.transfer u.transfer fit_t.transfer fit_u.transfer) known.statuses
      (status_rows tenant trees) (rows_for version sound.0).statuses typed.statuses sound.2.same.statuses fits.statuses
      sound.2.in_order.statuses 2 version b.statuses first.statuses second.statuses

  history_same : map history_cells typed.history ≡ b.history
  history_same =
      read_since history_values (λ c d same. let e : record c { account = c.account } ≡ record d { account = d.account } = cc in e)
      history_cells history_cmp history_key IsStorableHistory
      (history_less known.order) known.history (history_rows tenant trees) (rows_for version sound.0).history typed.history
      sound.2.same.history fits.history
      sound.2.in_order.history 2 version b.history first.history second.history

  failed_same : map column_of typed.failed ≡ b.failed
  failed_same =
      read_since id_values (λ c d same. cc) column_of id_cmp (λ id. id) (λ id. id < 2 ^ 128)
      (λ t u fit_t fit_u. columns_less known.order t u fit_t fit_u) known.failed (failed_rows tenant trees)
      (rows_for version sound.0).failed typed.failed sound.2.same.failed fits.failed
      sound.2.in_order.failed 3 version b.failed first.failed second.failed

  -- a tenant that is sound in one reading is so in another
  sound_again : AreSound version b
  sound_again = (
    sound.0,
    sound.1,
    record {
      typed = record typed { accounts = accounts.0; transfers = transfers.0 };
      cells = λ i. record {
        clocks = clocks_same i;
        accounts = accounts.2 i;
        transfers = transfers.2 i;
        balances = balances_same i;
        statuses = statuses_same i;
        history = history_same i;
        failed = failed_same i;
      };
      same = record {
        clock = sound.2.same.clock;
        accounts = IsPermutation-trans _ typed.accounts accounts.0 sound.2.same.accounts accounts.1;
        transfers = IsPermutation-trans _ typed.transfers transfers.0 sound.2.same.transfers transfers.1;
        balances = sound.2.same.balances;
        statuses = sound.2.same.statuses;
        history = sound.2.same.history;
        failed = sound.2.same.failed;
      };
      in_order = record {
        balances = sound.2.in_order.balances;
        statuses = sound.2.in_order.statuses;
        history = sound.2.in_order.history;
        failed = sound.2.in_order.failed;
      };
    },
  )

module _ (known : Known) (version : ℕ) (trees : Trees) where
  -- each reading of a tenant's rows is sound
  abbrev IsSoundTenant : ℤ → Type 0
  IsSoundTenant number = (rows : FileRows) → AreTenantRows version number trees rows → AreSound version rows

  each_sound : (rows : List DirectoryRow) (tenants : List TenantOfDigest) → AllZip (IsReadFor version trees) rows tenants
      → AllByRecursion (λ tenant. AreSound version (lists_of tenant.rows)) tenants
      → AllByRecursion (λ row. IsSoundTenant row.number) rows
  each_sound [] [] read sound = tt
  each_sound [] (tenant ∷ tenants) read sound = tt
  each_sound (row ∷ rows) [] read sound = absurd read
  each_sound (row ∷ rows) (tenant ∷ tenants) read sound = (
    λ other again. sound_again known version row.number trees (lists_of tenant.rows) other read.0.rows again sound.0,
    each_sound rows tenants read.1 sound.1,
  )

  so_each : (rows : List DirectoryRow) (tenants : List TenantOfDigest) → AllZip (IsReadFor version trees) rows tenants
      → AllByRecursion (λ row. IsSoundTenant row.number) rows
      → AllByRecursion (λ tenant. AreSound version (lists_of tenant.rows)) tenants
  so_each [] [] read sound = tt
  so_each [] (tenant ∷ tenants) read sound = absurd read
  so_each (row ∷ rows) [] read sound = tt
  so_each (row ∷ rows) (tenant ∷ tenants) read sound =
      (sound.0 (lists_of tenant.rows) read.0.rows, so_each rows tenants read.1 sound.1)

  -- so all rows of a sound database are sound, however they are read
  all_sound : (all : AllRows) → IsSoundIn version trees → AreAllRows version trees all
      → All (λ tenant. AreSound version (lists_of tenant.rows)) all.tenants.items
  all_sound all sound read =
      let first = each_sound sound.all.directory.items sound.all.tenants.items sound.read.tenants
      (recursion_from_All (λ (tenant : TenantOfDigest). AreSound version (lists_of tenant.rows)) sound.all.tenants.items sound.sound) in
      let again = same_numbers trees sound.all all sound.read read IsSoundTenant first in
      All-from_recursion (λ (tenant : TenantOfDigest). AreSound version (lists_of tenant.rows)) all.tenants.items
      (so_each all.directory.items all.tenants.items read.tenants again)

pub no_damage : Known → SoundRowsPass → SoundHasNoDamage
no_damage known pass version damage trees sound has =
    let is = has.first.is in
    let here = all_sound known version trees has.all sound has.read is.0 is.1 is.2 in
    pass version (lists_of is.1.rows) (subst (λ (t : TenantOfDigest). AreSound version (lists_of t.rows)) is.3 here)
    damage.kind damage.place is.4.1
