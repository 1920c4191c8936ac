-- Different rows have different cells.
use Rattle.std.proofs.Common.{◌≡◌, ◌<◌, ◌^◌, ℕ, ℤ, pos, negsuc, eqb, cond, List, [], ◌∷◌, map, Option, Some, None, refl, sym, ap, ap₂, ◌∙◌, arith}
use Rattle.std.specs.List.{All}
use Rattle.std.specs.Int.{w64, from_be_bytes}
use Rattle.std.proofs.lemmas.List.Elements.{All-head, All-tail}
use Rattle.std.proofs.lemmas.Nat.{from_be_bytes-to_be_bytes_8}
use Rattle.amount.specs.Column.{column_of}
use Rattle.records.specs.declared.account.Account.{Account}
use Rattle.records.specs.declared.transfer.Transfer.{Transfer}
use Rattle.records.specs.declared.balances.Balances.{Balances}
use Rattle.records.specs.declared.facts.PendingState.{PendingState}
use Rattle.records.specs.declared.facts.PendingState.TheVariants.{Open, Posted, Voided, Expired}
use Rattle.rows.specs.declared.balance_row.BalanceRow.{BalanceRow}
use Rattle.rows.specs.declared.status_row.StatusRow.{StatusRow}
use Rattle.rows.specs.declared.history_row.HistoryRow.{HistoryRow}
use Rattle.rows.specs.declared.account_cells.AccountCells.{AccountCells}
use Rattle.rows.specs.declared.transfer_cells.TransferCells.{TransferCells}
use Rattle.rows.specs.declared.balance_cells.BalanceCells.{BalanceCells}
use Rattle.rows.specs.declared.status_cells.StatusCells.{StatusCells}
use Rattle.rows.specs.declared.history_cells.HistoryCells.{HistoryCells}
use Rattle.rows.specs.StatusNumbers.{state_number, due_number, IsStorableDue}
use Rattle.rows.specs.Cells.{short_column_of, account_cells, transfer_cells, balance_cells, status_cells, history_cells}
use Rattle.rows.specs.TypedRows.{TypedRows, FileRows, cells_of}
use Rattle.rows.specs.Widths.{IsStorableAccount, IsStorableTransfer, AreBalancesInWidth, IsStorableBalance, IsStorableStatus, IsStorableHistory, AreStorable}

-- numbers in whole numbers and in short blobs
abbrev natural : ℤ → ℕ
natural (pos n) = n
natural (negsuc n) = 0

whole_one : (a b : ℕ) → pos a ≡ pos b → a ≡ b
whole_one a b e = ap natural e

short_one : (a b : ℕ) → a < 2 ^ 64 → b < 2 ^ 64 → short_column_of a ≡ short_column_of b → a ≡ b
unfolding short_column_of
short_one a b p q e = sym (from_be_bytes-to_be_bytes_8 a p) ∙ ap (from_be_bytes w64) e ∙ from_be_bytes-to_be_bytes_8 b q

-- states and due times
abbrev state_at : ℕ → PendingState
state_at n = cond (eqb n 0) Open (cond (eqb n 1) Posted (cond (eqb n 2) Voided Expired))

state_back : (state : PendingState) → state_at (natural (state_number state)) ≡ state
state_back Open = refl
state_back Posted = refl
state_back Voided = refl
state_back Expired = refl

state_one : (a b : PendingState) → state_number a ≡ state_number b → a ≡ b
state_one a b e = sym (state_back a) ∙ ap (λ n. state_at (natural n)) e ∙ state_back b

due_one : (a b : Option ℕ) → IsStorableDue a → IsStorableDue b → due_number a ≡ due_number b → a ≡ b
due_one None None p q e = refl
due_one None (Some b) p q e = absurd (omega (arith, ap natural e, q.0))
due_one (Some a) None p q e = absurd (omega (arith, ap natural e, p.0))
due_one (Some a) (Some b) p q e = ap (λ (n : ℕ). Some n) (ap natural e)

-- lists of them
same_cons : {A : Type 0} (x y : A) (xs ys : List A) → (x ∷ xs) ≡ (y ∷ ys) → (x ≡ y) × (xs ≡ ys)
same_cons x y xs ys e = (cc, cc)

map_one : {A B : Type 0} (P : A → Type 0) (f : A → B) → ((x y : A) → P x → P y → f x ≡ f y → x ≡ y) → (xs ys : List A) → All P xs → All P ys → map f xs ≡ map f ys → xs ≡ ys
map_one P f one [] [] p q e = refl
map_one P f one [] (y ∷ ys) p q e = absurd (grind arith)
map_one P f one (x ∷ xs) [] p q e = absurd (grind arith)
map_one P f one (x ∷ xs) (y ∷ ys) p q e =
    let parts = same_cons (f x) (f y) (map f xs) (map f ys) e in
    ap₂ ◌∷◌ (one x y (All-head P x xs p) (All-head P y ys q) parts.0) (map_one P f one xs ys (All-tail P x xs p) (All-tail P y ys q) parts.1)

-- given that long blobs are so
module _ (one : (a b : ℕ) → a < 2 ^ 128 → b < 2 ^ 128 → column_of a ≡ column_of b → a ≡ b) where
  account_one : (a b : Account) → IsStorableAccount a → IsStorableAccount b → account_cells a ≡ account_cells b → a ≡ b
  account_one a b p q e =
      let id = one a.id b.id p.widths.id q.widths.id (ap (λ (c : AccountCells). c.id) e) in
      let data_128 = one a.user_data_128 b.user_data_128 p.widths.user_data_128 q.widths.user_data_128 (ap (λ (c : AccountCells). c.user_data_128) e) in
      let data_64 = short_one a.user_data_64 b.user_data_64 p.widths.user_data_64 q.widths.user_data_64 (ap (λ (c : AccountCells). c.user_data_64) e) in
      let data_32 = whole_one a.user_data_32 b.user_data_32 (ap (λ (c : AccountCells). c.user_data_32) e) in
      let ledger = whole_one a.ledger b.ledger (ap (λ (c : AccountCells). c.ledger) e) in
      let code = whole_one a.code b.code (ap (λ (c : AccountCells). c.code) e) in
      let flags = whole_one a.flags.0 b.flags.0 (ap (λ (c : AccountCells). c.flags) e) in
      let timestamp = whole_one a.timestamp b.timestamp (ap (λ (c : AccountCells). c.timestamp) e) in
      λ i. record {
        id = id i;
        user_data_128 = data_128 i;
        user_data_64 = data_64 i;
        user_data_32 = data_32 i;
        ledger = ledger i;
        code = code i;
        flags = record { 0 = flags i };
        timestamp = timestamp i;
      }

  transfer_one : (a b : Transfer) → IsStorableTransfer a → IsStorableTransfer b → transfer_cells a ≡ transfer_cells b → a ≡ b
  transfer_one a b p q e =
      let id = one a.id b.id p.widths.id q.widths.id (ap (λ (c : TransferCells). c.id) e) in
      let debit = one a.debit_account_id b.debit_account_id p.widths.debit_account_id q.widths.debit_account_id (ap (λ (c : TransferCells). c.debit) e) in
      let credit = one a.credit_account_id b.credit_account_id p.widths.credit_account_id q.widths.credit_account_id (ap (λ (c : TransferCells). c.credit) e) in
      let amount = one a.amount b.amount p.widths.amount q.widths.amount (ap (λ (c : TransferCells). c.amount) e) in
      let pending = one a.pending_id b.pending_id p.widths.pending_id q.widths.pending_id (ap (λ (c : TransferCells). c.pending_id) e) in
      let data_128 = one a.user_data_128 b.user_data_128 p.widths.user_data_128 q.widths.user_data_128 (ap (λ (c : TransferCells). c.user_data_128) e) in
      let data_64 = short_one a.user_data_64 b.user_data_64 p.widths.user_data_64 q.widths.user_data_64 (ap (λ (c : TransferCells). c.user_data_64) e) in
      let data_32 = whole_one a.user_data_32 b.user_data_32 (ap (λ (c : TransferCells). c.user_data_32) e) in
      let timeout = whole_one a.timeout b.timeout (ap (λ (c : TransferCells). c.timeout) e) in
      let ledger = whole_one a.ledger b.ledger (ap (λ (c : TransferCells). c.ledger) e) in
      let code = whole_one a.code b.code (ap (λ (c : TransferCells). c.code) e) in
      let flags = whole_one a.flags.0 b.flags.0 (ap (λ (c : TransferCells). c.flags) e) in
      let timestamp = whole_one a.timestamp b.timestamp (ap (λ (c : TransferCells). c.timestamp) e) in
      let at = whole_one a.at b.at (ap (λ (c : TransferCells). c.at_clock) e) in
      λ i. record {
        id = id i;
        debit_account_id = debit i;
        credit_account_id = credit i;
        amount = amount i;
        pending_id = pending i;
        user_data_128 = data_128 i;
        user_data_64 = data_64 i;
        user_data_32 = data_32 i;
        timeout = timeout i;
        ledger = ledger i;
        code = code i;
        flags = record { 0 = flags i };
        timestamp = timestamp i;
        at = at i;
      }

  balances_one : (a b : Balances) → AreBalancesInWidth a → AreBalancesInWidth b → column_of a.debits.pending ≡ column_of b.debits.pending → column_of a.debits.posted ≡ column_of b.debits.posted → column_of a.credits.pending ≡ column_of b.credits.pending → column_of a.credits.posted ≡ column_of b.credits.posted → a ≡ b
  balances_one a b p q dp dd cp cc =
      let debits_pending = one a.debits.pending b.debits.pending p.debits_pending q.debits_pending dp in
      let debits_posted = one a.debits.posted b.debits.posted p.debits_posted q.debits_posted dd in
      let credits_pending = one a.credits.pending b.credits.pending p.credits_pending q.credits_pending cp in
      let credits_posted = one a.credits.posted b.credits.posted p.credits_posted q.credits_posted cc in
      λ i. record { debits = record { pending = debits_pending i; posted = debits_posted i }; credits = record { pending = credits_pending i; posted = credits_posted i } }

  balance_one : (a b : BalanceRow) → IsStorableBalance a → IsStorableBalance b → balance_cells a ≡ balance_cells b → a ≡ b
  balance_one a b p q e =
      let account = one a.account b.account p.account q.account (ap (λ (c : BalanceCells). c.account) e) in
      let balances = balances_one a.balances b.balances p.balances q.balances (ap (λ (c : BalanceCells). c.dp) e) (ap (λ (c : BalanceCells). c.dd) e) (ap (λ (c : BalanceCells). c.cp) e) (ap (λ (c : BalanceCells). c.cc) e) in
      λ i. record { account = account i; balances = balances i }

  status_one : (a b : StatusRow) → IsStorableStatus a → IsStorableStatus b → status_cells a ≡ status_cells b → a ≡ b
  status_one a b p q e =
      let transfer = one a.transfer b.transfer p.transfer q.transfer (ap (λ (c : StatusCells). c.transfer) e) in
      let state = state_one a.state b.state (ap (λ (c : StatusCells). c.state) e) in
      let due = due_one a.due b.due p.due q.due (ap (λ (c : StatusCells). c.due) e) in
      λ i. record { transfer = transfer i; state = state i; due = due i }

  history_one : (a b : HistoryRow) → IsStorableHistory a → IsStorableHistory b → history_cells a ≡ history_cells b → a ≡ b
  history_one a b p q e =
      let account = one a.account b.account p.account q.account (ap (λ (c : HistoryCells). c.account) e) in
      let timestamp = whole_one a.timestamp b.timestamp (ap (λ (c : HistoryCells). c.timestamp) e) in
      let balances = balances_one a.balances b.balances p.balances q.balances (ap (λ (c : HistoryCells). c.dp) e) (ap (λ (c : HistoryCells). c.dd) e) (ap (λ (c : HistoryCells). c.cp) e) (ap (λ (c : HistoryCells). c.cc) e) in
      λ i. record { account = account i; timestamp = timestamp i; balances = balances i }

  pub rows_one : (xs ys : TypedRows) → AreStorable xs → AreStorable ys → cells_of xs ≡ cells_of ys → xs ≡ ys
  rows_one xs ys p q e =
      let clock = whole_one xs.clock ys.clock (same_cons (pos xs.clock) (pos ys.clock) [] [] (ap (λ (c : FileRows). c.clocks) e)).0 in
      let accounts = map_one IsStorableAccount account_cells account_one xs.accounts ys.accounts p.accounts q.accounts (ap (λ (c : FileRows). c.accounts) e) in
      let transfers = map_one IsStorableTransfer transfer_cells transfer_one xs.transfers ys.transfers p.transfers q.transfers (ap (λ (c : FileRows). c.transfers) e) in
      let balances = map_one IsStorableBalance balance_cells balance_one xs.balances ys.balances p.balances q.balances (ap (λ (c : FileRows). c.balances) e) in
      let statuses = map_one IsStorableStatus status_cells status_one xs.statuses ys.statuses p.statuses q.statuses (ap (λ (c : FileRows). c.statuses) e) in
      let history = map_one IsStorableHistory history_cells history_one xs.history ys.history p.history q.history (ap (λ (c : FileRows). c.history) e) in
      let failed = map_one (λ (id : ℕ). id < 2 ^ 128) column_of one xs.failed ys.failed p.failed q.failed (ap (λ (c : FileRows). c.failed) e) in
      λ i. record {
        clock = clock i;
        accounts = accounts i;
        transfers = transfers i;
        balances = balances i;
        statuses = statuses i;
        history = history i;
        failed = failed i;
      }
