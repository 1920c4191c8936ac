-- What a whole search tells of all tenants.
use Rattle.std.proofs.Common.{◌≡◌, inl, inr, ℕ, ◌<ℤ◌, ◌≤ℤ◌, sym, subst, arith}
use Rattle.std.proofs.lemmas.Int.{ints}
use Rattle.std.proofs.lemmas.List.Elements.{All-weaker}
use Rattle.records.specs.Machine.{Machine}
use Rattle.records.specs.declared.facts.PendingState.TheVariants.{Open}
use Rattle.rows.specs.declared.status_row.StatusRow.{StatusRow}
use Rattle.rows.specs.Prescribed.{rows_for}
use Rattle.std.specs.BTreeSet.{contains}
use Rattle.std.specs.Prelude.{Some, ◌-◌, ◌<◌}
use Rattle.stored_tables.specs.Covers.{IsCovered}
use Rattle.stored_tables.specs.MachineOf.{machine_of}
use Rattle.stored_ledgers.specs.DueSets.{DueSet, DueSets, CoversMachine, due_cmp}
use Rattle.stored_ledgers.specs.Overdue.{IsNotOverdue, IsTimely, BeginsSearch, least_number, ArePassed, FindsNone, WholeSearchTells}
use Rattle.stored_ledgers.specs.declared.due_search.Search.{Search}

-- a set that is not overdue, and covers a machine
timely : (set : DueSet) (released moment : ℕ) (m : Machine) → CoversMachine set m
    → IsNotOverdue set released moment → IsTimely m moment
timely set released moment m covers quiet =
    let P : StatusRow → Type 0 = IsCovered (contains due_cmp set) in
    let Q : StatusRow → Type 0 = λ row. (due : ℕ) → row.state ≡ Open → row.due ≡ Some due
    → moment - 1000000000 < due in
    All-weaker P Q (λ row has due is_open told. quiet.late due row.transfer (has due is_open told))
    (rows_for 3 m).statuses covers.all

-- a search that begins and begins anew has passed all
all_passed : (due : DueSets) (moment : ℕ) (old new : Search) → BeginsSearch old
    → FindsNone due moment old new → BeginsSearch new → ArePassed due moment old
all_passed due moment old new begins none anew = elim none.0 [
  | inl whole ↦ whole.passed
  | inr on ↦ absurd (let later = on.later in
      let same : least_number <ℤ least_number
      = subst (λ n. n <ℤ least_number) begins (subst (λ n. old.from <ℤ n) anew later) in
      omega (arith, ints, same))
]

pub whole_search : WholeSearchTells
whole_search due moment old new trees covered begins none anew digest number there least =
    let set = covered digest number there in
    timely set.0 _ moment (machine_of number trees) set.2
    (all_passed due moment old new begins none anew number
    (subst (λ n. n ≤ℤ number) (sym begins) least) set.0 set.1)
