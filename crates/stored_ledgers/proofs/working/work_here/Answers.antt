use Rattle.std.proofs.Common.{◌≡◌, ℤ, false, Some, option_map, w64, FitsSigned, to_z, of_z, sym, ap, subst, ◌∙◌, rules, arith}
use Rattle.std.specs.BTreeMap.{get}
use Rattle.std.specs.BTreeSet.{IsSubset}
use Rattle.std.specs.Option.{option_copied_mut}
use Rattle.std.specs.Ordering.{int_cmp, is_eq}
use Rattle.std.proofs.lemmas.Int.{to_z-of_z}
use Rattle.records.specs.Machine.{Machine}
use Rattle.sqlite.specs.State.{State, HasCleanDisk, IsUnchanged}
use Rattle.stored_tables.specs.MachineOf.{machine_of}
use Rattle.stored_ledgers.specs.Directory.{number_of}
use Rattle.stored_ledgers.specs.DirectoryLaws.{found_number}
use Rattle.stored_ledgers.specs.DueSets.{DueSet, DueSets, due_cmp}
use Rattle.stored_ledgers.specs.Outcomes.{CanWork, HasWorkedHere, IsBatchTimed}
use Rattle.stored_ledgers.specs.Rounds.{GrowsSets, IsInRound}
use Rattle.stored_ledgers.specs.declared.working.Past.{Past}
use Rattle.stored_ledgers.proofs.BatchLemmas.{covers_more}
use Rattle.stored_ledgers.proofs.OutcomeLemmas.{found_after, can_work, sets_again}
use Rattle.stored_ledgers.proofs.WorkLemmas.{still_in_round, work_done}
use Rattle.stored_ledgers.proofs.working.work_here.Goals.{After-run_work-arg-1}
use Rattle.stored_ledgers.proofs.working.work_here.Goals as goal

pub returns-in_default-clause-told : goal.returns-in_default-clause-told
returns-in_default-clause-told g c live =
    let old = g.T.LedgerTables.state c.args.tables.now in
    let before : HasCleanDisk old = omega (arith, c.in_ok-number.ensures.reads.follows.survives.clean, live.0) in
    let ledgers = (c.requires before).serves.ledgers in
    let found = found_number c.args.digest.now old.now.trees _ (ledgers.distinct.digests c.args.digest.now)
    (c.in_ok-number.ensures.ok live.0 ledgers.schema) in (
      ap (option_map (λ n. machine_of n old.now.trees)) (found ∙ c.in_default.is),
      (c.in_ok-number.ensures.reads.same live.0).0.now_is,
    )

-- the tenant's own set, as it is lent, and the sets once it is back as this one
module _ (g : _) (c : goal.After-run_work-arg-1 g) where
  abbrev number : ℤ
  number = to_z w64 (of_z w64 c.in-Some.number)

  abbrev sets : DueSet → DueSets
  sets set = c.get_mut.follows.lender set

  fits : FitsSigned w64 c.in-Some.number
  fits = search rules

  passed : number ≡ c.in-Some.number
  passed = to_z-of_z w64 c.in-Some.number fits

  some : option_copied_mut c.get_mut.result ≡ Some c.in-Some-get_mut.set.now
  some = ap option_copied_mut c.in-Some-get_mut.is

  was : get int_cmp c.args.due.now number ≡ Some c.in-Some-get_mut.set.now
  was = cc (passed, some, c.get_mut.ensures.value)

  found : (set : DueSet) → get int_cmp (sets set) number ≡ Some set
  found set = let written = (c.get_mut.follows.holds set).3 (search rules) in cc (passed, some, written.1)

  others : (set : DueSet) (other : ℤ) → is_eq (int_cmp number other) ≡ false
      → get int_cmp (sets set) other ≡ get int_cmp c.args.due.now other
  others set other apart =
      let written = (c.get_mut.follows.holds set).3 (search rules) in written.2 other (cc (passed, apart))

  grown : (set : DueSet) → IsSubset due_cmp c.in-Some-get_mut.set.now set → GrowsSets c.args.due.now (sets set)
  grown set grows trees covered =
      sets_again c.args.due.now (sets set) number set (found set) (others set) c.in-Some-get_mut.set.now trees was
      (covers_more _ _ _ grows) covered

  -- where it was lent, nothing had changed
  was_looked_up : HasCleanDisk (g.T.LedgerTables.state c.find_tenant.new.self)
      → IsUnchanged (g.T.LedgerTables.state c.args.tables.now) (g.T.LedgerTables.state c.find_tenant.new.self)
      × IsInRound c.args.due.now (g.T.LedgerTables.state c.args.tables.now)
      × (number_of c.args.digest.now (g.T.LedgerTables.state c.args.tables.now).now.trees ≡ Some number)
  was_looked_up clean =
      let before : HasCleanDisk (g.T.LedgerTables.state c.args.tables.now) =
      omega (arith, c.in_ok-number.ensures.reads.follows.survives.clean, clean) in
      let round = c.requires before in (
        c.in_ok-number.ensures.reads.same clean,
        round,
        found_after c.args.digest.now (g.T.LedgerTables.state c.args.tables.now).now _ c.in-Some.number round.serves.ledgers
            (c.in_ok-number.ensures.ok clean round.serves.ledgers.schema) c.in-Some.is fits,
      )

  worked_so : {O : Type 0} (gives : Machine → O → Machine → Type 0) (set : DueSet) (new : State) (output : O)
      (past : Past) → HasCleanDisk (g.T.LedgerTables.state c.find_tenant.new.self)
      → HasWorkedHere gives number set (g.T.LedgerTables.state c.find_tenant.new.self) new output past
      → IsBatchTimed gives c.args.digest.now (g.T.LedgerTables.state c.args.tables.now).now new.now output past
      × IsInRound (sets set) new
  worked_so gives set new output past clean here =
      let seen = was_looked_up clean in
      work_done c.args.due.now (sets set) number set (found set) (others set) gives c.args.digest.now
      (g.T.LedgerTables.state c.args.tables.now) (g.T.LedgerTables.state c.find_tenant.new.self) new seen.0.0.now_is
      seen.1.serves seen.2 output past here

pub run_work-requires : goal.run_work-requires
run_work-requires g c clean =
    let seen = was_looked_up g c clean in
    let round = still_in_round c.args.due.now (g.T.LedgerTables.state c.args.tables.now) _ seen.0 seen.1 in record {
      is_open = round.is_open;
      mode = round.mode;
      unmarked = round.unmarked;
      can = subst (CanWork (number g c) c.in-Some-get_mut.set.now) (sym seen.0.0.now_is)
          (can_work c.args.due.now (number g c) c.in-Some-get_mut.set.now (g.T.LedgerTables.state c.args.tables.now).now
          seen.1.serves (c.args.digest.now, seen.2) (was g c));
    }

pub returns-in_err-worked-clause-grows : goal.returns-in_err-worked-clause-grows
returns-in_err-worked-clause-grows g c =
    grown g (goal.at.returns-in_err-worked-clause-grows g c).After-run_work-arg-1 c.run_work.new.due
    c.in_err-worked.ensures.grows

pub returns-clause-grows : goal.returns-clause-grows
returns-clause-grows g c =
    grown g (goal.at.returns-clause-grows g c).After-run_work-arg-1 c.run_work.new.due c.in_ok-worked.ensures.grows

pub returns-clause-told : goal.returns-clause-told
returns-clause-told g c live =
    (worked_so g (goal.at.returns-clause-told g c).After-run_work-arg-1 (g.W.Work.gives c.args.work) c.run_work.new.due _ _ _
    (omega (arith, c.in_ok-worked.ensures.follows.calls.survives.clean, live.0)) (c.in_ok-worked.ensures.worked live.0)).0

pub returns-clause-here : goal.returns-clause-here
returns-clause-here g c clean =
    (worked_so g (goal.at.returns-clause-here g c).After-run_work-arg-1 (g.W.Work.gives c.args.work) c.run_work.new.due _ _ _
    (omega (arith, c.in_ok-worked.ensures.follows.calls.survives.clean, clean)) (c.in_ok-worked.ensures.worked clean)).1
