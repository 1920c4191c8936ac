use Rattle.std.proofs.Common.{◌≡◌, ℕ, ℤ, List, ◌⊎◌, subst}
use Rattle.std.specs.List.{All}
use Rattle.rows.specs.TypedRows.{lists_of}
use Rattle.audit.specs.Order.{IsBadRow, IsFirstPlace}
use Rattle.audit.specs.Shapes.{AreShaped, HasOneClock, IsAccountRow, IsTransferRow, IsStatusRow, IsHistoryRow}
use Rattle.audit.proofs.FirstPlaces.{first_of_two, first_of_same}
use Rattle.audit.proofs.ShapedRows.{none_first, none_second, if_none, at_none}
use Rattle.audit.proofs.shape.first_misshapen.Goals as goal

pub returns-clause-first : goal.returns-clause-first
returns-clause-first c =
    let rows = lists_of c.args.rows.now in
    let is_clock = λ (clocks : List ℤ) (place : ℕ). (place ≡ 0) × (HasOneClock clocks → ⊥) in
    let is_account = IsBadRow IsAccountRow rows.accounts in
    let is_transfer = IsBadRow IsTransferRow rows.transfers in
    let is_status = IsBadRow IsStatusRow rows.statuses in
    let is_history = IsBadRow IsHistoryRow rows.history in
    let accounts = first_of_same IsAccountRow c.deref.result.now rows.accounts c.first_bad_row.result c.deref.ensures.value c.first_bad_row.ensures.first in
    let transfers = first_of_same IsTransferRow c.deref-2.result.now rows.transfers c.first_bad_row-2.result c.deref-2.ensures.value c.first_bad_row-2.ensures.first in
    let statuses = first_of_same IsStatusRow c.deref-3.result.now rows.statuses c.first_bad_row-3.result c.deref-3.ensures.value c.first_bad_row-3.ensures.first in
    let history = first_of_same IsHistoryRow c.deref-4.result.now rows.history c.first_bad_row-4.result c.deref-4.ensures.value c.first_bad_row-4.ensures.first in
    let clock = subst (λ (clocks : List ℤ). IsFirstPlace (is_clock clocks) c.first_without_clock.result) c.deref-5.ensures.value c.first_without_clock.ensures.first in
    let entries = first_of_two is_account is_transfer _ _ c.first-entries.result c.first-entries.ensures accounts transfers in
    let derived = first_of_two is_status is_history _ _ c.first-derived.result c.first-derived.ensures statuses history in
    let rest = first_of_two (λ (place : ℕ). is_account place ⊎ is_transfer place) (λ (place : ℕ). is_status place ⊎ is_history place) _ _ c.first.result c.first.ensures entries derived in
    first_of_two (is_clock rows.clocks) (λ (place : ℕ). (is_account place ⊎ is_transfer place) ⊎ is_status place ⊎ is_history place) _ _ c.first-2.result c.first-2.ensures clock rest

pub returns-clause-shaped : goal.returns-clause-shaped
returns-clause-shaped c =
    let rows = lists_of c.args.rows.now in
    if_none c.first-2.result (AreShaped rows) (λ none.
    let rest = none_second c.first_without_clock.result c.first.result c.first-2.result c.first-2.ensures none in
    let entries = none_first c.first-entries.result c.first-derived.result c.first.result c.first.ensures rest in
    record {
      clock = subst HasOneClock c.deref-5.ensures.value (at_none c.first_without_clock.result (HasOneClock c.deref-5.result.now) c.first_without_clock.ensures.one (none_first c.first_without_clock.result c.first.result c.first-2.result c.first-2.ensures none));
      accounts = subst (All IsAccountRow) c.deref.ensures.value (at_none c.first_bad_row.result (All IsAccountRow c.deref.result.now) c.first_bad_row.ensures.shaped (none_first c.first_bad_row.result c.first_bad_row-2.result c.first-entries.result c.first-entries.ensures entries));
      transfers = subst (All IsTransferRow) c.deref-2.ensures.value (at_none c.first_bad_row-2.result (All IsTransferRow c.deref-2.result.now) c.first_bad_row-2.ensures.shaped (none_second c.first_bad_row.result c.first_bad_row-2.result c.first-entries.result c.first-entries.ensures entries));
    })
