-- What is read before a transfer expires.
use Rattle.std.proofs.Common.{◌≡◌, ℕ, ◌<◌, ◌^◌, ℤ, eqb, List, Option, Some, None, option_map, Result, Ok, Err, IfOk, IfSome, IsTrue, inl, refl, sym, ap, subst, ◌∙◌}
use Rattle.std.specs.Option.{ok_or, unwrap_or}
use Rattle.std.proofs.lemmas.List.Elements.{All-weaker, recursion_from_All}
use Rattle.std.proofs.lemmas.Option.{same_Some}
use Rattle.amount.specs.Column.{column_of, IsOneToOne}
use Rattle.sqlite_value.specs.Order.{Row}
use Rattle.sqlite_trees.specs.Tree.{Trees}
use Rattle.sqlite_trees.proofs.ListLemmas.{all_weaker}
use Rattle.sqlite.specs.Effect.{Database}
use Rattle.sqlite.specs.State.{State, HasCleanDisk, IsUnchanged}
use Rattle.records.specs.declared.balances.Balances.{Balances}
use Rattle.records.specs.declared.side.Side.TheVariants.{Debit, Credit}
use Rattle.records.specs.declared.transfer.Transfer.{Transfer}
use Rattle.records.specs.Balances.{balances_in}
use Rattle.records.specs.Machine.{Machine, transfer_with}
use Rattle.engine.specs.After.{balances_released}
use Rattle.rows.specs.declared.balance_row.BalanceRow.{BalanceRow}
use Rattle.rows.specs.Cells.{balance_cells}
use Rattle.rows.specs.Keyed.{row_with}
use Rattle.rows.specs.Prescribed.{rows_for}
use Rattle.rows.specs.Widths.{IsStorableBalance}
use Rattle.ledger_sql.specs.Calls.{LeavesRead}
use Rattle.ledger_sql.specs.Effects.{IsLedger, IsInside, Picks}
use Rattle.ledger_sql.specs.TableRows.{balance_rows, has_id, with_id}
use Rattle.ledger_sql.specs.Values.{balance_values}
use Rattle.stored_tables.specs.BatchLaws.{follows_itself}
use Rattle.stored_tables.specs.Holds.{HoldsMachine}
use Rattle.stored_tables.specs.Kept.{Kept}
use Rattle.stored_tables.specs.Releasing.{AreApart, HasAccounts, AreBalancesOf, AreKeptBalancesOf, IsTransferOf, IsExpiry}
use Rattle.stored_tables.proofs.KeptRows.{look_under}
use Rattle.stored_tables.proofs.RowMoves.{found_key, found_all, found_row, if_found, tells_id}
use Rattle.stored_tables.proofs.RowsTell.{balances_told as balances_told_by}
use Rattle.stored_tables.proofs.SameValues.{CellsTellRows, same_balance}
use Rattle.stored_tables.proofs.Statements.{Alone}

-- what is there is told
pub told_or : {A E : Type 0} (found : Option A) (e : E) (r : Result A E) → r ≡ ok_or found e → (P : A → Type 0) → ((x : A) → found ≡ Some x → P x) → IfOk r P
told_or {A} {E} found e r is P all = subst (λ r. IfOk r P) (sym is) (told found all)
  where
    told : (found : Option A) → ((x : A) → found ≡ Some x → P x) → IfOk (ok_or found e) P
    told None all = tt
    told (Some x) all = all x refl

abbrev account_of : BalanceRow → ℕ
account_of row = row.account

-- the row of an account has its id
with_account_id : (account : ℕ) (rows : List BalanceRow) (row : BalanceRow) → row_with account_of account rows ≡ Some row → row_with account_of account rows ≡ Some (record { account = account; balances = row.balances })
with_account_id account rows row found =
    let same = found_key account_of account rows row found in
    found ∙ (λ i. Some (record { account = same i; balances = row.balances }))

-- the balance row that was found is the one of the account
pub balances_told : (tenant : ℤ) (account : ℕ) (trees : Trees) → CellsTellRows → IsOneToOne → Alone BalanceRow → account < 2 ^ 128 → (found : Option BalanceRow) (row : BalanceRow) → found ≡ Some row → IfSome found IsStorableBalance
    → Picks (with_id (column_of account) (balance_rows tenant trees)) (option_map (λ (row : BalanceRow). balance_values (balance_cells row)) found) → AreBalancesOf tenant account trees row.balances
balances_told tenant account trees cells one alone narrow found row is fits picks = λ rows held has.
    let values : BalanceRow → Row = λ x. balance_values (balance_cells x) in
    let tells =
    all_weaker (λ (x : BalanceRow). x.account < 2 ^ 128) (λ x. has_id (column_of account) (values x) ≡ eqb x.account account) (λ x p. tells_id one x.account account p narrow) rows.balances
    (recursion_from_All (λ (x : BalanceRow). x.account < 2 ^ 128) rows.balances has.ids) in
    let same =
    found_row values account_of account (has_id (column_of account)) rows.balances tells (balance_rows tenant trees) held.balances (alone account_of account rows.balances has.distinct) IsStorableBalance (same_balance cells) found
    has.fits fits picks in
    with_account_id account rows.balances row (sym same ∙ is)

-- they are those that the tenant's machine has
pub balances_held : (tenant : ℤ) (account : ℕ) (m : Machine) (trees : Trees) (found : Balances) → HoldsMachine tenant m trees → AreApart (rows_for 3 m) → AreBalancesOf tenant account trees found → found ≡ balances_in m account
balances_held tenant account m trees found held apart told =
    let stored = (rows_for 3 m).balances in
    let each = recursion_from_All IsStorableBalance stored apart.balances_fit in
    let has : HasAccounts account stored = record {
      ids = All-weaker IsStorableBalance (λ row. row.account < 2 ^ 128) (λ row fit. fit.account) stored apart.balances_fit;
      distinct = apart.balances;
      fits = if_found IsStorableBalance account_of account stored each;
    } in
    balances_told_by m account (record { account = account; balances = found }) (told (rows_for 3 m) held.rows has)

module _ (tenant : ℤ) (kept : Kept) (account : ℕ) (trees : Trees) where
  -- what is kept of an account are its balances
  pub kept_told : (found : Balances) → kept account ≡ Some found → AreKeptBalancesOf tenant kept account trees found
  kept_told found some = λ rows balances apart held there.
      let it = look_under kept account held.stored (record { account = account; balances = balances }) (ap (row_with account_of account) held.balances ∙ there) in
      let kept_is : kept it.under.account ≡ Some found = ap kept it.account ∙ some in
      sym (ap (λ o. unwrap_or o it.under.balances) kept_is) ∙ ap (λ (row : BalanceRow). row.balances) it.is

  -- of another account they are stored
  pub stored_told : (found : Balances) → kept account ≡ None → AreBalancesOf tenant account trees found → AreKeptBalancesOf tenant kept account trees found
  stored_told found none told = λ rows balances apart held there.
      let row : BalanceRow = record { account = account; balances = balances } in
      let it = look_under kept account held.stored row (ap (row_with account_of account) held.balances ∙ there) in
      let none_kept : kept it.under.account ≡ None = ap kept it.account ∙ none in
      let own : it.under ≡ row = (λ i. record { account = it.under.account; balances = unwrap_or (sym none_kept i) it.under.balances }) ∙ it.is in
      let stored : row_with account_of account held.stored ≡ Some row = it.found ∙ ap Some own in
      let fits : IsStorableBalance row = found_all IsStorableBalance account_of account rows.balances row (recursion_from_All IsStorableBalance rows.balances apart.balances_fit) there in
      let has : HasAccounts account held.stored = record { ids = held.ids; distinct = held.distinct; fits = subst (λ o. IfSome o IsStorableBalance) (sym stored) fits } in
      ap (λ (row : BalanceRow). row.balances) (same_Some _ _ (sym (told (record rows { balances = held.stored }) held.holds has) ∙ stored))

-- what was read is what the expiry leaves
pub expiry_told : (tenant : ℤ) (kept : Kept) (id : ℕ) (s0 s1 s2 : State) (t : Transfer) (debit credit less_debit less_credit : Balances) → IsUnchanged s0 s1 → IsUnchanged s1 s2 → IsTransferOf tenant id s0.now.trees t
    → AreKeptBalancesOf tenant kept t.debit_account_id s1.now.trees debit → AreKeptBalancesOf tenant kept t.credit_account_id s2.now.trees credit → less_debit ≡ balances_released Debit debit t.amount → less_credit ≡ balances_released Credit credit t.amount
    → IsExpiry tenant kept id s0.now.trees (record { transfer = t; debit = less_debit; credit = less_credit })
expiry_told tenant kept id s0 s1 s2 t debit credit less_debit less_credit same then told of_debit of_credit debit_is credit_is = λ u first second rows can own held.
    let of_first : AreKeptBalancesOf tenant kept t.debit_account_id s0.now.trees debit = subst (λ (db : Database). AreKeptBalancesOf tenant kept t.debit_account_id db.trees debit) same.0.now_is of_debit in
    let of_second : AreKeptBalancesOf tenant kept t.credit_account_id s0.now.trees credit = subst (λ (db : Database). AreKeptBalancesOf tenant kept t.credit_account_id db.trees credit) (then.0.now_is ∙ same.0.now_is) of_credit in
    let is : t ≡ u = same_Some _ _ (sym (told (record rows { balances = held.stored }) held.holds can.apart.transfers_fit can.apart.transfers) ∙ ap (λ k. transfer_with k rows.transfers) (sym own) ∙ can.found) in
    let is_first : debit ≡ first = of_first rows first can.apart held (subst (λ (v : Transfer). row_with account_of v.debit_account_id rows.balances ≡ Some (record { account = v.debit_account_id; balances = first })) (sym is) can.debit_found) in
    let is_second : credit ≡ second = of_second rows second can.apart held (subst (λ (v : Transfer). row_with account_of v.credit_account_id rows.balances ≡ Some (record { account = v.credit_account_id; balances = second })) (sym is) can.credit_found) in
    let left : less_debit ≡ balances_released Debit first u.amount = debit_is ∙ (λ i. balances_released Debit (is_first i) (is i).amount) in
    let right : less_credit ≡ balances_released Credit second u.amount = credit_is ∙ (λ i. balances_released Credit (is_second i) (is i).amount) in
    λ i. record { transfer = is i; debit = left i; credit = right i }

-- a look at what is kept reads nothing
pub nothing_read : {A E : Type 0} (x : A) (s : State) → (HasCleanDisk s → IsTrue s.is_open) → LeavesRead {A = A} {E = E} s s (Ok x)
nothing_read x s opened =
    let same : HasCleanDisk s → IsUnchanged s s = λ clean. let it = opened clean in (record { was_open = it; is_open = it; now_is = refl; committed_is = refl; mode = refl }, record { changes = refl; last_rowid = refl }, refl) in
    record { same = same; kept = λ clean. inl (same clean); follows = follows_itself s }

-- where a ledger was read there is one
pub still_ledger : (s0 s1 : State) → IsUnchanged s0 s1 → IsLedger s0.now.schema → IsLedger s1.now.schema
still_ledger s0 s1 same = subst (λ (db : Database). IsLedger db.schema) (sym same.0.now_is)

-- and a transaction over one
pub inside_still : (s0 s1 : State) → IsUnchanged s0 s1 → IsInside s0 → IsInside s1
inside_still s0 s1 same inside = record { schema = still_ledger s0 s1 same inside.schema; mode = same.0.mode ∙ inside.mode }

-- so is what was found of an account of which nothing is kept
pub told_stored : {E : Type 0} (tenant : ℤ) (kept : Kept) (account : ℕ) (trees : Trees) → kept account ≡ None → (r : Result Balances E) → IfOk r (AreBalancesOf tenant account trees) → IfOk r (AreKeptBalancesOf tenant kept account trees)
told_stored tenant kept account trees none (Ok found) told = stored_told tenant kept account trees found none told
told_stored tenant kept account trees none (Err e) told = tt
