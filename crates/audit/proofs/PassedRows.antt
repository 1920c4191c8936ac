-- The rows of a valid machine have no damage.
use Rattle.std.proofs.Common.{◌≡◌, ℕ, List, [], ◌++◌, map, slice_get, sym, ap, ◌∙◌, subst, arith}
use Rattle.std.specs.List.{All}
use Rattle.std.specs.List.Sorted.{IsPermutation}
use Rattle.std.proofs.lemmas.List.Elements.{All-weaker}
use Rattle.std.proofs.lemmas.List.Sorted.{IsPermutation-sym, IsPermutation-trans, IsPermutation-map, IsPermutation-append}
use Rattle.records.specs.EntryByEntry.{IsValidEntryByEntry}
use Rattle.records.specs.Machine.{Machine, new_machine}
use Rattle.records.specs.Step.{at_clock}
use Rattle.records.specs.Valid.{IsValid, IsNextFailed}
use Rattle.rows.specs.declared.balance_row.BalanceRow.{BalanceRow}
use Rattle.rows.specs.declared.status_row.StatusRow.{StatusRow}
use Rattle.rows.specs.Cells.{balance_cells, status_cells, history_cells}
use Rattle.rows.specs.Prescribed.{rows_for}
use Rattle.rows.specs.Tables.{history_key, IsAscendingBy}
use Rattle.rows.specs.TypedRows.{TypedRows, FileRows}
use Rattle.rows.specs.Widths.{AreStorable}
use Rattle.running.specs.declared.entry.Entry.TheVariants.{Opened, Moved}
use Rattle.running.specs.Entries.{time_of, CanCome, Replays, machine_of}
use Rattle.audit.specs.declared.damage.DamageKind.{DamageKind}
use Rattle.audit.specs.declared.damage.DamageKind.TheVariants as kind
use Rattle.audit.specs.Laws.{OneOrder, Laws}
use Rattle.audit.specs.Order.{in_order, Differ}
use Rattle.audit.specs.Sound.{AreRowsOf, AreSound}
use Rattle.audit.specs.Table.{IsWrong, IsToldWrong}
use Rattle.audit.specs.Told.{entries_told, machine_told, prescribed}
use Rattle.audit.proofs.DerivedRows.{ascending_is_sorted}
use Rattle.audit.proofs.EntriesApart.{entries_apart}
use Rattle.audit.proofs.InOrderLemmas.{in_order_same, in_order_up}
use Rattle.audit.proofs.OwnTimes.{no_bad_time}
use Rattle.audit.proofs.PassedFailed.{no_bad_failed}
use Rattle.audit.proofs.Readable.{storable, told_of, tells_typed, well_shaped}
use Rattle.audit.proofs.RefusedRows.{all_accepted}
use Rattle.audit.proofs.SoundRows.{AreOrdered, ordered}
use Rattle.audit.proofs.Stages.{told_if_wrong}
use Rattle.audit.proofs.ToldMachine.{told_clock}

-- a table of the typed rows is what is prescribed, in order of key
table : {R C : Type 0} → OneOrder R → (cells : R → C) (key : R → ℕ) (rows : List C) (typed other given : List R) → rows ≡ map cells typed → given ≡ other → IsPermutation other typed → IsAscendingBy key typed → IsAscendingBy key (in_order key given) → (place : ℕ) → Differ rows (map cells (in_order key given)) place → ⊥
table one cells key rows typed other given is same moved up sorted place differ =
    let all = IsPermutation-trans (in_order key given) given typed (IsPermutation-sym given (in_order key given) (in_order_same key given)) (subst (λ xs. IsPermutation xs typed) (sym same) moved) in
    let equal = one key (in_order key given) typed sorted all (ascending_is_sorted key typed up) in
    differ (ap (λ xs. slice_get xs place) (is ∙ ap (map cells) (sym equal)))

module _ (laws : Laws) (version : ℕ) (rows : FileRows) (m : Machine) (valid : IsValid m) (r : AreRowsOf version m rows) where
  abbrev told : TypedRows
  told = told_of r.typed

  pub fits : AreStorable r.typed
  fits = storable (rows_for version m) r.typed r.same (laws.fit version m valid)

  valid_lists : IsValidEntryByEntry m
  valid_lists = (laws.entry_by_entry m).0 valid

  pub times : (place : ℕ) → IsToldWrong version rows told kind.Timestamp place → ⊥
  unfolding rows_for
  times place wrong = no_bad_time m told valid_lists.timestamps (laws.accounts_up m valid) (laws.transfers_up m valid) r.same.accounts r.same.transfers place wrong

  pub replayed : Replays (entries_told told) m
  unfolding rows_for
  replayed =
      let stored = map Opened told.accounts ++ map Moved told.transfers in
      let mine = map Opened m.accounts ++ map Moved m.transfers in
      laws.replays m (entries_told told) valid (record {
        in_order = ascending_is_sorted time_of (entries_told told) (in_order_up time_of stored (entries_apart told times));
        all = IsPermutation-trans mine stored (entries_told told)
            (IsPermutation-append (map Opened m.accounts) (map Opened told.accounts) (map Moved m.transfers) (map Moved told.transfers)
            (IsPermutation-map Opened m.accounts told.accounts r.same.accounts) (IsPermutation-map Moved m.transfers told.transfers r.same.transfers))
            (in_order_same time_of stored);
      })

  pub same_clock : told.clock ≡ m.clock
  unfolding rows_for
  same_clock = sym r.same.clock

  pub can_come : CanCome (machine_of (entries_told told)) told.clock
  can_come =
      let later = replayed.no_later in
      let bounded = valid_lists.clock.bounded in
      let same = same_clock in
      record { later = omega (arith, later, same); bounded = omega (arith, bounded, same) }

  pub machine_is : machine_told told ≡ record m { failed = [] }
  machine_is = told_clock (machine_of (entries_told told)) told.clock can_come ∙ ap (at_clock (machine_of (entries_told told))) same_clock ∙ replayed.same

  pub told_valid : IsValid (machine_told told)
  told_valid = subst IsValid (sym (told_clock (machine_of (entries_told told)) told.clock can_come)) (laws.replayed (entries_told told) told.clock replayed.next can_come)

  up : AreOrdered version (machine_told told)
  up = ordered laws.keys version (machine_told told) told_valid

  all_next : All (IsNextFailed (machine_told told)) m.failed
  all_next =
      subst (λ (x : Machine). All (IsNextFailed x) m.failed) (sym machine_is)
      (All-weaker (IsNextFailed m) (IsNextFailed (record m { failed = [] })) (λ id next. record { positive = next.positive; below_max = next.below_max; unknown = next.unknown }) m.failed valid_lists.failed.apart)

  none_told : (k : DamageKind) (place : ℕ) → IsToldWrong version rows told k place → ⊥
  unfolding rows_for
  none_told kind.Shape place wrong = well_shaped r.typed rows r.cells fits place wrong
  none_told kind.Timestamp place wrong = times place wrong
  none_told kind.Entry place wrong = all_accepted new_machine (entries_told told) wrong.0 replayed.next wrong.1
  none_told kind.Balance place wrong =
      table laws.balances balance_cells (λ (row : BalanceRow). row.account) rows.balances r.typed.balances (rows_for version m).balances (prescribed version told).balances
      (ap (λ (f : FileRows). f.balances) (sym r.cells)) (ap (λ (x : Machine). (rows_for version x).balances) machine_is) r.same.balances r.in_order.balances up.balances place wrong
  none_told kind.Status place wrong =
      table laws.statuses status_cells (λ (row : StatusRow). row.transfer) rows.statuses r.typed.statuses (rows_for version m).statuses (prescribed version told).statuses
      (ap (λ (f : FileRows). f.statuses) (sym r.cells)) (ap (λ (x : Machine). (rows_for version x).statuses) machine_is) r.same.statuses r.in_order.statuses up.statuses place wrong
  none_told kind.History place wrong =
      table laws.history history_cells history_key rows.history r.typed.history (rows_for version m).history (prescribed version told).history
      (ap (λ (f : FileRows). f.history) (sym r.cells)) (ap (λ (x : Machine). (rows_for version x).history) machine_is) r.same.history r.in_order.history up.history place wrong
  none_told kind.Clock place wrong = wrong.1 can_come
  none_told kind.FailedId place wrong = no_bad_failed version (machine_told told) m.failed r.typed.failed r.same.failed all_next r.in_order.failed place wrong

  pub no_damage : (k : DamageKind) (place : ℕ) → IsWrong version rows k place → ⊥
  no_damage k place wrong = none_told k place (told_if_wrong laws.reading version rows told k place (tells_typed r.typed rows r.cells fits) wrong)

pub passes : Laws → (version : ℕ) (rows : FileRows) → AreSound version rows → (k : DamageKind) (place : ℕ) → IsWrong version rows k place → ⊥
passes laws version rows sound k place wrong = no_damage laws version rows sound.0 sound.1 sound.2 k place wrong
