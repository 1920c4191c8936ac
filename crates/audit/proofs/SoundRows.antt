-- Rows without damage are those of a valid machine.
use Rattle.std.proofs.Common.{◌≡◌, ℕ, List, [], map, None, inl, inr, refl, sym, ap, ◌∙◌, subst, arith}
use Rattle.std.proofs.lemmas.Bool.Decides.{leb_tells}
use Rattle.std.specs.List.Sorted.{IsPermutation}
use Rattle.std.proofs.lemmas.List.Sorted.{IsPermutation-refl}
use Rattle.records.specs.Machine.{Machine}
use Rattle.records.specs.Step.{max_clock}
use Rattle.records.specs.Valid.{IsValid}
use Rattle.rows.specs.declared.balance_row.BalanceRow.{BalanceRow}
use Rattle.rows.specs.declared.status_row.StatusRow.{StatusRow}
use Rattle.rows.specs.Cells.{balance_cells, status_cells, history_cells}
use Rattle.rows.specs.Prescribed.{rows_for}
use Rattle.rows.specs.Tables.{AreKeyed, history_key, HasDistinctKeys, IsAscendingBy}
use Rattle.rows.specs.TypedRows.{TypedRows, FileRows}
use Rattle.running.specs.Entries.{CanCome, machine_of, FailedIdsStandApart}
use Rattle.audit.specs.declared.damage.DamageKind.TheVariants as kind
use Rattle.audit.specs.Damage.{FindsWrong}
use Rattle.audit.specs.Laws.{KeysAreDistinct}
use Rattle.audit.specs.Order.{in_order}
use Rattle.audit.specs.Sound.{AreSound}
use Rattle.audit.specs.Told.{TellsRows, entries_told, machine_told, prescribed}
use Rattle.audit.proofs.DerivedRows.{HasDerived, has_derived, lacks_derived, own_keys}
use Rattle.audit.proofs.GoodFailed.{failed_apart, failed_kept, ascending_from_pairs}
use Rattle.audit.proofs.InOrderLemmas.{in_order_same, in_order_up}
use Rattle.audit.proofs.StableCells.{balance_stable, status_stable, history_stable, no_difference, le_stable}
use Rattle.audit.proofs.ToldMachine.{accounts_told, transfers_told, told_clock}

-- the typed rows of what is told
abbrev whole : ℕ → TypedRows → TypedRows
whole version told = record told {
  balances = in_order (λ row. row.account) (prescribed version told).balances;
  statuses = in_order (λ row. row.transfer) (prescribed version told).statuses;
  history = in_order history_key (prescribed version told).history;
}

-- derived rows have keys of their own in each version
no_rows : {A : Type 0} (key : A → ℕ) (rows : List A) → rows ≡ [] → IsAscendingBy key (in_order key rows)
no_rows key rows none = subst (λ xs. IsAscendingBy key (in_order key xs)) (sym none) tt

own_rows : {A : Type 0} (key : A → ℕ) (rows all : List A) → rows ≡ all → HasDistinctKeys key all → IsAscendingBy key (in_order key rows)
own_rows key rows all same once = in_order_up key rows (subst (HasDistinctKeys key) (sym same) once)

pub record AreOrdered (version : ℕ) (m : Machine) : Type 0 where
  pub balances : IsAscendingBy (λ (row : BalanceRow). row.account) (in_order (λ row. row.account) (rows_for version m).balances)
  pub statuses : IsAscendingBy (λ (row : StatusRow). row.transfer) (in_order (λ row. row.transfer) (rows_for version m).statuses)
  pub history : IsAscendingBy history_key (in_order history_key (rows_for version m).history)

pub ordered : KeysAreDistinct → (version : ℕ) (m : Machine) → IsValid m → AreOrdered version m
ordered keys version m valid = elim (leb_tells 2 version) [
  | inl h ↦ by_rows (has_derived version m h.1) (has_derived 3 m (omega arith)) (own_keys keys m valid)
  | inr h ↦
      let none = lacks_derived version m h.1 in
      record {
        balances = no_rows (λ (row : BalanceRow). row.account) (rows_for version m).balances none.balances;
        statuses = no_rows (λ (row : StatusRow). row.transfer) (rows_for version m).statuses none.statuses;
        history = no_rows history_key (rows_for version m).history none.history;
      }
]
  where
    by_rows : HasDerived version m → HasDerived 3 m → AreKeyed (rows_for 3 m) → AreOrdered version m
    by_rows some all keyed = record {
      balances = own_rows (λ (row : BalanceRow). row.account) (rows_for version m).balances (rows_for 3 m).balances (some.balances ∙ sym all.balances) keyed.balances;
      statuses = own_rows (λ (row : StatusRow). row.transfer) (rows_for version m).statuses (rows_for 3 m).statuses (some.statuses ∙ sym all.statuses) keyed.statuses;
      history = own_rows history_key (rows_for version m).history (rows_for 3 m).history (some.history ∙ sym all.history) keyed.history;
    }

-- the machine of the rows, with the failed ids that are told
abbrev machine_of_rows : TypedRows → Machine
machine_of_rows told = record (machine_told told) { failed = told.failed }

pub sound_if_clear : KeysAreDistinct → FailedIdsStandApart → (version : ℕ) (rows : FileRows) (told : TypedRows) → TellsRows rows told → IsValid (machine_told told) → FindsWrong version rows None → AreSound version rows
unfolding rows_for
sound_if_clear keys apart version rows told tells valid clear =
    let m = machine_told told in
    let none = λ (place : ℕ). λ (wrong : _). clear kind.FailedId place (told, tells, wrong) in
    let failed_good = failed_apart version m told.failed none in
    let balances = no_difference balance_stable rows.balances (map balance_cells (in_order (λ (row : BalanceRow). row.account) (prescribed version told).balances)) (λ place wrong. clear kind.Balance place (told, tells, wrong)) in
    let statuses = no_difference status_stable rows.statuses (map status_cells (in_order (λ (row : StatusRow). row.transfer) (prescribed version told).statuses)) (λ place wrong. clear kind.Status place (told, tells, wrong)) in
    let history = no_difference history_stable rows.history (map history_cells (in_order history_key (prescribed version told).history)) (λ place wrong. clear kind.History place (told, tells, wrong)) in
    let can : CanCome (machine_of (entries_told told)) told.clock = record {
      later = le_stable (machine_of (entries_told told)).clock told.clock (λ no. clear kind.Clock 0 (told, tells, (refl, λ c. no c.later)));
      bounded = le_stable told.clock max_clock (λ no. clear kind.Clock 0 (told, tells, (refl, λ c. no c.bounded)));
    } in
    let clock : m.clock ≡ told.clock = ap (λ (x : Machine). x.clock) (told_clock (machine_of (entries_told told)) told.clock can) in
    let up = ordered keys version m valid in (
      machine_of_rows told,
      apart m told.failed valid failed_good,
      record {
        typed = whole version told;
        cells = λ i. record {
          clocks = (tells.cells i).clocks;
          accounts = (tells.cells i).accounts;
          transfers = (tells.cells i).transfers;
          balances = sym balances i;
          statuses = sym statuses i;
          history = sym history i;
          failed = (tells.cells i).failed;
        };
        same = record {
          clock = clock;
          accounts = accounts_told told;
          transfers = transfers_told told;
          balances = in_order_same (λ (row : BalanceRow). row.account) (prescribed version told).balances;
          statuses = in_order_same (λ (row : StatusRow). row.transfer) (prescribed version told).statuses;
          history = in_order_same history_key (prescribed version told).history;
          failed = subst (λ (xs : List ℕ). IsPermutation xs told.failed) (sym (failed_kept version m told.failed none)) (IsPermutation-refl told.failed);
        };
        in_order = record { balances = up.balances; statuses = up.statuses; history = up.history; failed = ascending_from_pairs told.failed failed_good.ascend };
      },
    )
