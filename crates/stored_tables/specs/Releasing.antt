-- How transfers that are due at a later clock are released, one after the other.
use Rattle.std.specs.Prelude.{◌≡◌, ◌<◌, ◌≤◌, ◌^◌, ℕ, ℤ, false, List, ◌++◌, All}
use Rattle.std.specs.Prelude.{Some, IsSome, IfSome, IsPermutation}
use Rattle.sqlite_trees.specs.Tree.{Trees}
use Rattle.sqlite.specs.State.{State}
use Rattle.records.specs.declared.transfer.Transfer.{Transfer}
use Rattle.records.specs.declared.balances.Balances.{Balances}
use Rattle.records.specs.declared.side.Side.TheVariants.{Debit, Credit}
use Rattle.records.specs.Machine.{Machine, has_id, transfer_with}
use Rattle.records.specs.Step.{at_clock}
use Rattle.records.specs.Valid.{IsValid}
use Rattle.engine.specs.After.{balances_released}
use Rattle.rows.specs.declared.balance_row.BalanceRow.{BalanceRow}
use Rattle.rows.specs.declared.status_row.StatusRow.{StatusRow}
use Rattle.rows.specs.TypedRows.{TypedRows}
use Rattle.rows.specs.Changes.{with_expired}
use Rattle.rows.specs.Keyed.{row_with}
use Rattle.rows.specs.Prescribed.{rows_for}
use Rattle.rows.specs.Settling.{rows_released, due_ids}
use Rattle.rows.specs.Tables.{HasDistinctKeys}
use Rattle.rows.specs.Widths.{IsStorableTransfer, IsStorableBalance, IsStorableStatus}
use Rattle.ledger_sql.specs.Effects.{WritesInside}
use Rattle.stored_tables.specs.Covers.{DueTest, Covers}
use Rattle.stored_tables.specs.Frames.{AreNumbered}
use Rattle.stored_tables.specs.Holds.{HoldsRows}
use Rattle.stored_tables.specs.Kept.{Kept, with_balances, HoldsKept, MovesKept, ChangesKept}
use Rattle.stored_tables.specs.Moves.{MovesRows, ChangesRows, IsStatusOf}
use Rattle.stored_tables.specs.declared.expiry.Expiry.{Expiry}

-- rows that fit a file and are told apart by their keys
pub record AreApart (rows : TypedRows) : Type 0 where
  pub transfers_fit : All IsStorableTransfer rows.transfers
  pub transfers : HasDistinctKeys (λ row. row.id) rows.transfers
  pub balances_fit : All IsStorableBalance rows.balances
  pub balances : HasDistinctKeys (λ row. row.account) rows.balances
  pub statuses_fit : All IsStorableStatus rows.statuses
  pub statuses : HasDistinctKeys (λ row. row.transfer) rows.statuses

-- in a table whose keys tell its rows apart, the one of this account fits a file
pub record HasAccounts (account : ℕ) (rows : List BalanceRow) : Type 0 where
  pub ids : All (λ row. row.account < 2 ^ 128) rows
  pub distinct : HasDistinctKeys (λ row. row.account) rows
  pub fits : IfSome (row_with (λ row. row.account) account rows) IsStorableBalance

-- this transfer can expire: it has a status, and its two accounts have these balances
pub record CanExpire (t : Transfer) (debit credit : Balances) (rows : TypedRows) : Type 0 where
  pub apart : AreApart rows
  pub found : transfer_with t.id rows.transfers ≡ Some t
  pub debit_found :
      row_with (λ row. row.account) t.debit_account_id rows.balances
      ≡ Some (record { account = t.debit_account_id; balances = debit })
  pub credit_found :
      row_with (λ row. row.account) t.credit_account_id rows.balances
      ≡ Some (record { account = t.credit_account_id; balances = credit })
  pub has_status : IsSome (row_with (λ row. row.transfer) t.id rows.statuses)

-- what its expiry leaves: it, and the balances of its two accounts without its amount
abbrev pub expiry_of : Transfer → Balances → Balances → Expiry
expiry_of t debit credit = record {
  transfer = t;
  debit = balances_released Debit debit t.amount;
  credit = balances_released Credit credit t.amount;
}

-- what is found is the tenant's transfer with this id; the balances of its account with this id
abbrev pub IsTransferOf : ℤ → ℕ → Trees → Transfer → Type 0
IsTransferOf tenant id trees found =
    (rows : TypedRows) → HoldsRows tenant rows trees → All IsStorableTransfer rows.transfers →
    HasDistinctKeys (λ row. row.id) rows.transfers →
    transfer_with id rows.transfers ≡ Some found

abbrev pub AreBalancesOf : ℤ → ℕ → Trees → Balances → Type 0
AreBalancesOf tenant account trees found =
    (rows : TypedRows) → HoldsRows tenant rows trees → HasAccounts account rows.balances →
    row_with (λ row. row.account) account rows.balances
    ≡ Some (record { account = account; balances = found })

-- the balances of the account, with what is kept
abbrev pub AreKeptBalancesOf : ℤ → Kept → ℕ → Trees → Balances → Type 0
AreKeptBalancesOf tenant kept account trees found =
    (rows : TypedRows) (balances : Balances) → AreApart rows → HoldsKept tenant kept rows trees →
    row_with (λ row. row.account) account rows.balances
    ≡ Some (record { account = account; balances = balances }) → found ≡ balances

-- what was read of a transfer that can expire
abbrev pub IsExpiry : ℤ → Kept → ℕ → Trees → Expiry → Type 0
IsExpiry tenant kept id trees expiry =
    (t : Transfer) (debit credit : Balances) (rows : TypedRows) →
    CanExpire t debit credit rows → t.id ≡ id → HoldsKept tenant kept rows trees →
    expiry ≡ expiry_of t debit credit

-- what is kept once it has expired
abbrev pub with_expiry : Expiry → Kept → Kept
with_expiry expiry kept =
    with_balances expiry.transfer.credit_account_id expiry.credit
    (with_balances expiry.transfer.debit_account_id expiry.debit kept)

-- this is the tenant's status row of its transfer
abbrev pub HasStatusRow : ℤ → StatusRow → State → Type 0
HasStatusRow tenant row s = IsStatusOf tenant row.transfer s.now.trees (Some row)

-- the transfer with this id has expired, if it could
pub record Expires (tenant : ℤ) (id : ℕ) (was is : Kept) (old new : State) : Type 0 where
  pub inside : WritesInside old new
  pub writes :
      (t : Transfer) (debit credit : Balances) → t.id ≡ id →
      ChangesKept tenant was is (CanExpire t debit credit) (with_expired t debit credit) old new

-- of the transfers that are due at the clock these were released, and the others are left
pub record AreReleased (clock : ℕ) (m : Machine) (done : List ℕ) : Type 0 where
  pub split :
      IsPermutation (due_ids clock (rows_for 3 m))
      (done ++ due_ids clock (rows_released m done))
  pub apart : AreApart (rows_released m done)

-- the transfer with this id is not left, nor is one that was not left before
pub record IsLess (clock id : ℕ) (m : Machine) (done more : List ℕ) : Type 0 where
  pub gone : has_id id (due_ids clock (rows_released m more)) ≡ false
  pub fewer :
      (other : ℕ) → has_id other (due_ids clock (rows_released m done)) ≡ false →
      has_id other (due_ids clock (rows_released m more)) ≡ false

-- one step of it
pub record ReleasesOne (tenant : ℤ) (clock id : ℕ) (was is : Kept) (old new : State) : Type 0 where
  pub inside : WritesInside old new
  pub step :
      (m : Machine) (done : List ℕ) → IsValid m → AreReleased clock m done →
      AreNumbered old.now.trees → HoldsKept tenant was (rows_released m done) old.now.trees →
      (more : List ℕ)
      × AreReleased clock m more
      × IsLess clock id m done more
      × MovesKept tenant is (rows_released m more) old.now new.now

-- all that is due is released, where the set has it and the tenant's clock is at the past moment or
-- later
pub record ReleasesDue (tenant : ℤ) (past clock : ℕ) (has : DueTest) (old new : State) :
    Type 0 where
  pub inside : WritesInside old new
  pub all :
      (m : Machine) → IsValid m → past ≤ m.clock → Covers has m → AreNumbered old.now.trees →
      HoldsRows tenant (rows_for 3 m) old.now.trees →
      (done : List ℕ)
      × IsPermutation (due_ids clock (rows_for 3 m)) done
      × MovesRows tenant (rows_released m done) old.now new.now

-- the clock is later, and what was due at it has expired
abbrev pub MovesClock : ℤ → ℕ → ℕ → DueTest → State → State → Type 0
MovesClock tenant past clock has old new =
    (m : Machine) → IsValid m → past ≤ m.clock → m.clock ≤ clock → Covers has m →
    ChangesRows tenant (λ rows. rows ≡ rows_for 3 m) (λ rows. rows_for 3 (at_clock m clock)) old new
