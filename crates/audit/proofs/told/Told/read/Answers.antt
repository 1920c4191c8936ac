use Rattle.std.proofs.Common.{map, sym, ap, ◌∙◌, subst}
use Rattle.std.specs.List.{All}
use Rattle.rows.specs.declared.account_cells.AccountCells.{AccountCells}
use Rattle.rows.specs.declared.transfer_cells.TransferCells.{TransferCells}
use Rattle.rows.specs.TypedRows.{lists_of}
use Rattle.audit.specs.Shapes.{HasOneClock, IsAccountRow, IsTransferRow}
use Rattle.audit.proofs.ShapedRows.{held}
use Rattle.audit.proofs.told.Told.read.Goals as goal

pub clock_in-clock-requires : goal.clock_in-clock-requires
clock_in-clock-requires c = subst HasOneClock (sym c.deref.ensures.value) c.requires.clock

pub times_of_accounts-requires : goal.times_of_accounts-requires
times_of_accounts-requires c = subst (All IsAccountRow) (sym c.deref-2.ensures.value) c.requires.accounts

pub times_of_transfers-requires : goal.times_of_transfers-requires
times_of_transfers-requires c = subst (All IsTransferRow) (sym c.deref-3.ensures.value) c.requires.transfers

pub returns : goal.returns
returns c =
    held (lists_of c.args.rows.now) _ c.requires (sym c.deref.ensures.value ∙ c.clock_in-clock.ensures.only) c.clock_in-clock.ensures.fits
    (c.in_ok-account_times.ensures ∙ ap (map (λ (row : AccountCells). row.timestamp)) c.deref-2.ensures.value)
    (c.in_ok-transfer_times.ensures ∙ ap (map (λ (row : TransferCells). row.timestamp)) c.deref-3.ensures.value)
    c.in_ok-failed.ensures.fit (c.in_ok-failed.ensures.all ∙ c.deref-4.ensures.value)
