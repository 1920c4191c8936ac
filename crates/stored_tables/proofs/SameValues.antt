-- Rows with the same values are the same.
use Rattle.std.proofs.Common.{◌≡◌, List, [], ◌∷◌, ap, arith}
use Rattle.std.specs.Prelude.{All}
use Rattle.std.proofs.lemmas.List.Elements.{All-nil, All-cons}
use Rattle.rows.specs.declared.balance_row.BalanceRow.{BalanceRow}
use Rattle.rows.specs.declared.status_row.StatusRow.{StatusRow}
use Rattle.rows.specs.declared.balance_cells.BalanceCells.{BalanceCells}
use Rattle.rows.specs.declared.status_cells.StatusCells.{StatusCells}
use Rattle.rows.specs.Cells.{balance_cells, status_cells}
use Rattle.rows.specs.TypedRows.{TypedRows, cells_of}
use Rattle.rows.specs.Widths.{AreStorable, IsStorableBalance, IsStorableStatus}
use Rattle.ledger_sql.specs.Values.{balance_values, status_values}

-- rows that have these balances and statuses alone
abbrev alone : List BalanceRow → List StatusRow → TypedRows
alone balances statuses = record { clock = 0; accounts = []; transfers = []; balances = balances; statuses = statuses; history = []; failed = [] }

storable_alone : (balances : List BalanceRow) (statuses : List StatusRow) → All IsStorableBalance balances → All IsStorableStatus statuses → AreStorable (alone balances statuses)
storable_alone balances statuses p q = record { clock = omega arith; accounts = All-nil _; transfers = All-nil _; balances = p; statuses = q; history = All-nil _; failed = All-nil _ }

abbrev pub CellsTellRows : Type 0
CellsTellRows = (xs ys : TypedRows) → AreStorable xs → AreStorable ys → cells_of xs ≡ cells_of ys → xs ≡ ys

same_status_cells : (a b : StatusCells) → status_values a ≡ status_values b → a ≡ b
same_status_cells a b e =
    let transfer : a.transfer ≡ b.transfer = cc in
    let state : a.state ≡ b.state = cc in
    let due : a.due ≡ b.due = cc in
    λ i. record { transfer = transfer i; state = state i; due = due i }

same_balance_cells : (a b : BalanceCells) → balance_values a ≡ balance_values b → a ≡ b
same_balance_cells a b e =
    let account : a.account ≡ b.account = cc in
    let dp : a.dp ≡ b.dp = cc in
    let dd : a.dd ≡ b.dd = cc in
    let cp : a.cp ≡ b.cp = cc in
    let cc' : a.cc ≡ b.cc = cc in
    λ i. record { account = account i; dp = dp i; dd = dd i; cp = cp i; cc = cc' i }

module _ (tell : CellsTellRows) where
  pub same_status : (a b : StatusRow) → IsStorableStatus a → IsStorableStatus b → status_values (status_cells a) ≡ status_values (status_cells b) → a ≡ b
  same_status a b p q e =
      let cells = same_status_cells (status_cells a) (status_cells b) e in
      let rows = tell (alone [] (a ∷ [])) (alone [] (b ∷ [])) (storable_alone [] (a ∷ []) (All-nil _) (All-cons IsStorableStatus a [] p (All-nil _))) (storable_alone [] (b ∷ []) (All-nil _) (All-cons IsStorableStatus b [] q (All-nil _)))
      (λ i. record (cells_of (alone [] [])) { statuses = cells i ∷ [] }) in
      let lists : a ∷ [] ≡ b ∷ [] = ap (λ (r : TypedRows). r.statuses) rows in
      cc

  pub same_balance : (a b : BalanceRow) → IsStorableBalance a → IsStorableBalance b → balance_values (balance_cells a) ≡ balance_values (balance_cells b) → a ≡ b
  same_balance a b p q e =
      let cells = same_balance_cells (balance_cells a) (balance_cells b) e in
      let rows = tell (alone (a ∷ []) []) (alone (b ∷ []) []) (storable_alone (a ∷ []) [] (All-cons IsStorableBalance a [] p (All-nil _)) (All-nil _)) (storable_alone (b ∷ []) [] (All-cons IsStorableBalance b [] q (All-nil _)) (All-nil _))
      (λ i. record (cells_of (alone [] [])) { balances = cells i ∷ [] }) in
      let lists : a ∷ [] ≡ b ∷ [] = ap (λ (r : TypedRows). r.balances) rows in
      cc
