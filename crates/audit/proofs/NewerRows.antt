-- The rows of a valid machine lead to it, and with those that it prescribes in another version they
-- are its rows there.
use Rattle.std.proofs.Common.{◌≡◌, ◌<◌, ℕ, cond, List, [], inl, inr, sym, ap, ◌∙◌, subst, arith, IsPermutation}
use Rattle.std.proofs.lemmas.Bool.Decides.{leb_tells}
use Rattle.std.proofs.lemmas.List.Elements.{All-nil}
use Rattle.records.specs.Machine.{Machine}
use Rattle.records.specs.Step.{at_clock}
use Rattle.records.specs.Valid.{IsValid, IsNextFailed}
use Rattle.rows.specs.declared.balance_row.BalanceRow.{BalanceRow}
use Rattle.rows.specs.declared.status_row.StatusRow.{StatusRow}
use Rattle.rows.specs.Prescribed.{rows_for, since}
use Rattle.rows.specs.Tables.{history_key}
use Rattle.rows.specs.TypedRows.{TypedRows, FileRows}
use Rattle.running.specs.Entries.{machine_of, FailedIdsStandApart}
use Rattle.audit.specs.Laws.{Laws}
use Rattle.audit.specs.Newer.{none_failed, LeadsTo, with_derived, SoundRowsAreRead, SoundTimesAreOwn, SoundRowsLead, DerivedRowsAreTheirs, ValidWithoutFailed}
use Rattle.audit.specs.Order.{in_order}
use Rattle.audit.specs.Sound.{AreRowsOf}
use Rattle.audit.specs.Table.{IsBadTime}
use Rattle.audit.specs.Told.{TellsRows, entries_told}
use Rattle.audit.proofs.InOrderLemmas.{in_order_same}
use Rattle.audit.proofs.PassedRows.{fits, times, replayed, same_clock, can_come, machine_is, told_valid}
use Rattle.audit.proofs.Readable.{told_of, tells_typed}
use Rattle.audit.proofs.ShapedRows.{shaped}
use Rattle.audit.proofs.SoundRows.{ordered}

pub are_read : Laws → SoundRowsAreRead
are_read laws version rows m valid r = shaped r.typed rows r.cells (fits laws version rows m valid r)

-- what is read is what the rows tell
same_told : (laws : Laws) (version : ℕ) (rows : FileRows) (told : TypedRows) (m : Machine) → IsValid m → (r : AreRowsOf version m rows) → TellsRows rows told → told_of r.typed ≡ told
same_told laws version rows told m valid r tells =
    let mine = tells_typed r.typed rows r.cells (fits laws version rows m valid r) in
    laws.reading (told_of r.typed) told mine.fits tells.fits (mine.cells ∙ sym tells.cells)

pub times_own : Laws → SoundTimesAreOwn
times_own laws version rows told m valid r tells =
    subst (λ (t : TypedRows). (place : ℕ) → IsBadTime t place → ⊥) (same_told laws version rows told m valid r tells) (times laws version rows m valid r)

pub lead : Laws → SoundRowsLead
lead laws version rows told m valid r tells =
    subst (LeadsTo m) (same_told laws version rows told m valid r tells) (record {
      next = (replayed laws version rows m valid r).next;
      can_come = can_come laws version rows m valid r;
      same = ap (at_clock (machine_of (entries_told (told_of r.typed)))) (same_clock laws version rows m valid r) ∙ (replayed laws version rows m valid r).same;
    })

-- before version 3 there are no failed ids, and without any there are none in any version
none_since : (version : ℕ) (ids : List ℕ) → version < 3 → since 3 version ids ≡ []
none_since version ids less = elim (leb_tells 3 version) [
  | inl h ↦ let le = h.1 in absurd (omega (arith, less, le))
  | inr h ↦ ap (λ b. cond b ids []) h.0
]

still_none : (to : ℕ) → since {A = ℕ} 3 to [] ≡ []
still_none to = elim (leb_tells 3 to) [
  | inl h ↦ ap (λ b. cond {A = List ℕ} b [] []) h.0
  | inr h ↦ ap (λ b. cond {A = List ℕ} b [] []) h.0
]

pub theirs : Laws → DerivedRowsAreTheirs
unfolding rows_for
theirs laws version to rows m less valid r =
    let n = none_failed m in
    let up = ordered laws.keys to n (subst IsValid (machine_is laws version rows m valid r) (told_valid laws version rows m valid r)) in
    record {
      typed = record r.typed {
        balances = in_order (λ row. row.account) (rows_for to n).balances;
        statuses = in_order (λ row. row.transfer) (rows_for to n).statuses;
        history = in_order history_key (rows_for to n).history;
      };
      cells = λ i. record {
        clocks = (r.cells i).clocks;
        accounts = (r.cells i).accounts;
        transfers = (r.cells i).transfers;
        balances = (with_derived to n rows).balances;
        statuses = (with_derived to n rows).statuses;
        history = (with_derived to n rows).history;
        failed = (r.cells i).failed;
      };
      same = record {
        clock = r.same.clock;
        accounts = r.same.accounts;
        transfers = r.same.transfers;
        balances = in_order_same (λ (row : BalanceRow). row.account) (rows_for to n).balances;
        statuses = in_order_same (λ (row : StatusRow). row.transfer) (rows_for to n).statuses;
        history = in_order_same history_key (rows_for to n).history;
        failed = subst (λ (xs : List ℕ). IsPermutation xs r.typed.failed) (none_since version m.failed less ∙ sym (still_none to)) r.same.failed;
      };
      in_order = record {
        balances = up.balances;
        statuses = up.statuses;
        history = up.history;
        failed = r.in_order.failed;
      };
    }

pub still_valid : FailedIdsStandApart → ValidWithoutFailed
still_valid apart m valid = apart m [] valid (record { ascend = λ i j d less within. absurd (omega (arith, within)); apart = All-nil (IsNextFailed (none_failed m)) })
