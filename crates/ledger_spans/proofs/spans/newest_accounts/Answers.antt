use Rattle.std.proofs.Common.{ℤ, SFits, rules, to_z-of_z, w64}
use Rattle.rows.specs.Cells.{account_cells}
use Rattle.rows.specs.Widths.{IsStorableAccount}
use Rattle.rows.specs.declared.account_cells.AccountCells.{AccountCells}
use Rattle.ledger_layout.specs.declared.kind.TenantRow.{TenantRow}
use Rattle.ledger_sql.specs.Spans.{DescendAt, accounts_between}
use Rattle.ledger_sql.specs.Values.{account_values}
use Rattle.ledger_spans.proofs.FoundLemmas.{found}
use Rattle.ledger_spans.proofs.spans.newest_accounts.Goals as goal

pub returns : goal.returns
returns g c =
    let tenant : SFits w64 c.args.tenant = search rules in
    let first : SFits w64 c.args.first = search rules in
    let last : SFits w64 c.args.last = search rules in
    found (λ (row : ℤ × TenantRow AccountCells). row.1.cells) account_cells account_values (λ read. read.items) c.args.most (accounts_between c.args.tenant c.args.first c.args.last) (DescendAt 7) IsStorableAccount _ _ c.in_ok-rows.rows.items c.as_slice.result.now c.in_ok-rows.rows
    c.accounts_of.result (λ clean. simp to_z-of_z at (c.in_ok-rows.ensures.read clean)) c.in_ok-rows.ensures.reads c.as_slice.ensures.value c.accounts_of.ensures.cells c.accounts_of.ensures.fits
