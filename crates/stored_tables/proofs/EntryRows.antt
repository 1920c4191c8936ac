-- The rows of a transfer, as they are written one after the other.
use Rattle.std.proofs.Common.{◌≡◌, ℤ, List, [], ◌∷◌, ◌++◌, Result, OnOk, refl, sym, subst}
use Rattle.std.proofs.lemmas.List.{append-nil}
use Rattle.std.proofs.lemmas.Result.{on_ok_weaker}
use Rattle.records.specs.declared.accepted.Accepted.{Accepted}
use Rattle.records.specs.declared.transfer.Transfer.{Transfer}
use Rattle.records.specs.declared.unavailable.Unavailable.{Unavailable}
use Rattle.sqlite.specs.State.{State}
use Rattle.rows.specs.declared.history_row.HistoryRow.{HistoryRow}
use Rattle.rows.specs.declared.status_row.StatusRow.{StatusRow}
use Rattle.rows.specs.Cells.{transfer_cells, status_cells, history_cells}
use Rattle.rows.specs.Changes.{with_accepted, set_both, ended, new_statuses, new_history}
use Rattle.ledger_sql.specs.Effects.{IsInside, AddsRows}
use Rattle.ledger_sql.specs.TableRows.{transfer_rows, status_rows, history_rows}
use Rattle.ledger_sql.specs.Values.{transfer_values, status_values, history_values}
use Rattle.stored_tables.specs.BatchLaws.{others_itself}
use Rattle.stored_tables.specs.Holds.{HoldsRows}
use Rattle.stored_tables.specs.Moves.{CanWrite, ChangesRows, Any, HasBoth, CanEnd, CanAccept}
use Rattle.stored_tables.proofs.Statements.{transfer_added, status_added, history_added}
use Rattle.stored_tables.proofs.Writing.{inside_itself, writes_then}

module _ (tenant : ℤ) where
  abbrev pub Status : List StatusRow → State → State → Type 0
  Status more s0 s1 = ChangesRows tenant Any (λ rows. record rows { statuses = rows.statuses ++ more }) s0 s1

  -- the status of a new transfer
  pub status_written : (t : Transfer) (row : StatusRow) (s0 s1 : State) → IsInside s0 → row ∷ [] ≡ new_statuses t → AddsRows status_rows 13 tenant (status_values (status_cells row) ∷ []) s0 s1 → Status (new_statuses t) s0 s1
  status_written t row s0 s1 inside is adds = subst (λ more. Status more s0 s1) is (status_added tenant s0 s1 inside.schema row adds)

  -- one that has none
  pub none_written : (t : Transfer) (s : State) → CanWrite s → [] ≡ new_statuses t → Status (new_statuses t) s s
  none_written t s can is =
      subst (λ more. Status more s s) is
      (record {
        inside = inside_itself s can;
        moves = λ rows any num held. record {
          numbered = num;
          others = others_itself tenant s.now.trees;
          strangers = refl;
          rows = subst (λ (statuses : List StatusRow). HoldsRows tenant (record rows { statuses = statuses }) s.now.trees) (sym (append-nil rows.statuses)) held;
        };
      })

  -- the history of a transfer
  pub history_written : (a : Accepted) (d c : HistoryRow) (s0 s1 : State) (r : Result (Unit {0}) Unavailable) → IsInside s0 → d ∷ c ∷ [] ≡ new_history a
      → OnOk r (AddsRows history_rows 15 tenant (history_values (history_cells d) ∷ history_values (history_cells c) ∷ []) s0 s1) → OnOk r (ChangesRows tenant Any (λ rows. record rows { history = rows.history ++ new_history a }) s0 s1)
  history_written a d c s0 s1 r inside is adds =
      on_ok_weaker r
      (λ (rows : AddsRows history_rows 15 tenant (history_values (history_cells d) ∷ history_values (history_cells c) ∷ []) s0 s1).
      subst (λ (more : List HistoryRow). ChangesRows tenant Any (λ rows. record rows { history = rows.history ++ more }) s0 s1) is (history_added tenant s0 s1 inside.schema d c rows))
      adds

  abbrev Transfers : Transfer → State → State → Type 0
  Transfers t s0 s1 = ChangesRows tenant Any (λ rows. record rows { transfers = rows.transfers ++ t ∷ [] }) s0 s1

  abbrev Both : Accepted → State → State → Type 0
  Both a s0 s1 = ChangesRows tenant (λ rows. HasBoth a.stored rows.balances) (λ rows. record rows { balances = set_both a.stored a.debit_after a.credit_after rows.balances }) s0 s1

  abbrev Ended : Accepted → State → State → Type 0
  Ended a s0 s1 = ChangesRows tenant (λ rows. CanEnd a.ends rows.statuses) (λ rows. record rows { statuses = ended a.ends rows.statuses }) s0 s1

  abbrev History : Accepted → State → State → Type 0
  History a s0 s1 = ChangesRows tenant Any (λ rows. record rows { history = rows.history ++ new_history a }) s0 s1

  -- all rows of an accepted transfer
  module _ (a : Accepted) (s0 s1 s2 s3 s4 s5 : State) (inside : IsInside s0) (first : AddsRows transfer_rows 8 tenant (transfer_values (transfer_cells a.stored) ∷ []) s0 s1) (both : Both a s1 s2) (ends : Ended a s2 s3) (opens : Status (new_statuses a.stored) s3 s4) where
    with_both : ChangesRows tenant (CanAccept a) (λ rows. record rows { transfers = rows.transfers ++ a.stored ∷ []; balances = set_both a.stored a.debit_after a.credit_after rows.balances }) s0 s2
    with_both =
        writes_then tenant Any (λ rows. HasBoth a.stored rows.balances) (CanAccept a) (λ rows. record rows { transfers = rows.transfers ++ a.stored ∷ [] })
        (λ rows. record rows { balances = set_both a.stored a.debit_after a.credit_after rows.balances }) s0 s1 s2 (transfer_added tenant s0 s1 inside.schema a.stored first) both (λ rows can. (tt, can.balances))

    with_ended : ChangesRows tenant (CanAccept a) (λ rows. record rows { transfers = rows.transfers ++ a.stored ∷ []; balances = set_both a.stored a.debit_after a.credit_after rows.balances; statuses = ended a.ends rows.statuses }) s0 s3
    with_ended =
        writes_then tenant (CanAccept a) (λ rows. CanEnd a.ends rows.statuses) (CanAccept a)
        (λ rows. record rows { transfers = rows.transfers ++ a.stored ∷ []; balances = set_both a.stored a.debit_after a.credit_after rows.balances }) (λ rows. record rows { statuses = ended a.ends rows.statuses }) s0 s2 s3 with_both ends
        (λ rows can. (can, can.ended))

    with_status : ChangesRows tenant (CanAccept a)
        (λ rows. record rows { transfers = rows.transfers ++ a.stored ∷ []; balances = set_both a.stored a.debit_after a.credit_after rows.balances; statuses = ended a.ends rows.statuses ++ new_statuses a.stored }) s0 s4
    with_status =
        writes_then tenant (CanAccept a) Any (CanAccept a)
        (λ rows. record rows { transfers = rows.transfers ++ a.stored ∷ []; balances = set_both a.stored a.debit_after a.credit_after rows.balances; statuses = ended a.ends rows.statuses })
        (λ rows. record rows { statuses = rows.statuses ++ new_statuses a.stored }) s0 s3 s4 with_ended opens (λ rows can. (can, tt))

    pub transfer_written : (r : Result (Unit {0}) Unavailable) → OnOk r (History a s4 s5) → OnOk r (ChangesRows tenant (CanAccept a) (with_accepted a) s0 s5)
    unfolding with_accepted
    transfer_written r history =
        on_ok_weaker r
        (λ (w : History a s4 s5).
        writes_then tenant (CanAccept a) Any (CanAccept a)
        (λ rows. record rows { transfers = rows.transfers ++ a.stored ∷ []; balances = set_both a.stored a.debit_after a.credit_after rows.balances; statuses = ended a.ends rows.statuses ++ new_statuses a.stored })
        (λ rows. record rows { history = rows.history ++ new_history a }) s0 s4 s5 with_status w (λ rows can. (can, tt)))
        history
