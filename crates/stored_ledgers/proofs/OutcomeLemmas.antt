-- What a tenant's batch leaves, by the tenant's digest.
use Rattle.std.proofs.Common.{◌≡◌, ℤ, inl, inr, false, Some, Option, option_map, w64, FitsSigned, to_z, of_z, ℕ, ◌≤◌, List, [], ◌∷◌, sym, ap, subst, ◌∙◌, arith}
use Rattle.std.specs.BTreeMap.{get}
use Rattle.std.specs.Ordering.{int_cmp, is_eq}
use Rattle.std.proofs.lemmas.Int.{to_z-of_z}
use Rattle.records.specs.Machine.{Machine}
use Rattle.sqlite.specs.Effect.{Database}
use Rattle.sqlite.specs.State.{State, Survives}
use Rattle.sqlite.proofs.StateLemmas.{survives_weaker}
use Rattle.sqlite_trees.specs.Tree.{Trees}
use Rattle.chain.specs.Ledgers.{IsDone, KeepsAll}
use Rattle.sqlite_value.specs.declared.value.Value.TheVariants.{Int}
use Rattle.ledger_sql.specs.Effects.{Picks}
use Rattle.ledger_sql.specs.Strangers.{strangers_in}
use Rattle.ledger_sql.specs.TableRows.{directory_rows, numbers_with_digest}
use Rattle.stored_tables.specs.MachineOf.{machine_of}
use Rattle.stored_ledgers.specs.Directory.{IsTenant, number_of, tenants_in}
use Rattle.stored_ledgers.specs.DirectoryLaws.{found_number}
use Rattle.stored_ledgers.specs.DueSetLaws.{same_number, other_key}
use Rattle.stored_ledgers.specs.DueSets.{DueSet, DueSets, AreCovered, CoversMachine}
use Rattle.stored_ledgers.specs.Ledger.{HoldsLedgers}
use Rattle.stored_ledgers.specs.Outcomes.{CanWork, HasWorked, IsBatchDone, IsBatchTimed, IsAfterBatch, KeepsTables, KeepsTime}
use Rattle.stored_ledgers.specs.Resting.{CanServe, IsSame}
use Rattle.stored_ledgers.specs.Transactions.{MayLeave}
use Rattle.stored_ledgers.specs.declared.working.Worked.{Worked}
use Rattle.stored_ledgers.proofs.LedgerLemmas.{machine_kept, same_directory, same_of, ledgers_after, others_after}

-- a tenant that was looked up has this number, as it is passed on
pub found_after : (digest : List ℕ) (db : Database) (found : Option ℤ) (number : ℤ)
    → HoldsLedgers db
    → Picks (numbers_with_digest digest db.trees) (option_map (λ n. Int n ∷ []) found)
    → found ≡ Some number → FitsSigned w64 number
    → number_of digest db.trees ≡ Some (to_z w64 (of_z w64 number))
found_after digest db found number ledgers picks is fits =
    found_number digest db.trees found (ledgers.distinct.digests digest) picks
    ∙ is ∙ ap Some (sym (to_z-of_z w64 number fits))

-- where all tenants are served, each can be worked for with the set that a look-up gives
pub can_work : (sets : DueSets) (number : ℤ) (set : DueSet) (db : Database) → CanServe sets db
    → IsTenant number db.trees → get int_cmp sets number ≡ Some set → CanWork number set db
can_work sets number set db serves tenant found =
    let covered = serves.covered tenant.0 number tenant.1 in
    let same : covered.0 ≡ set = let e = covered.1 in cc in record {
      ledger = serves.ledgers.schema;
      numbered = serves.ledgers.numbered;
      holds = serves.ledgers.machines tenant.0 number tenant.1;
      covered = subst (λ x. CoversMachine x (machine_of number db.trees)) same covered.2;
    }

-- sets in which one tenant's was replaced
module _ (sets sets' : DueSets) (number : ℤ) (set : DueSet) (found : get int_cmp sets' number ≡ Some set)
    (others : (other : ℤ) → is_eq (int_cmp number other) ≡ false
    → get int_cmp sets' other ≡ get int_cmp sets other) where
  -- cover what they covered, if the new one does of that tenant
  pub sets_again : (before : DueSet) (trees : Trees) → get int_cmp sets number ≡ Some before
      → (CoversMachine before (machine_of number trees) → CoversMachine set (machine_of number trees))
      → AreCovered sets trees → AreCovered sets' trees
  sets_again before trees was again covered digest other is =
      let there = covered digest other is in
      elim (same_number other number) [
        | inl same ↦ (
          set,
          ap (get int_cmp sets') same ∙ found,
          subst (λ n. CoversMachine set (machine_of n trees)) (sym same)
              (again (subst (λ n. CoversMachine before (machine_of n trees)) same
              (subst (λ x. CoversMachine x (machine_of other trees)) (same_set there.0 there.1 same)
              there.2))),
        )
        | inr differs ↦
            (there.0, others other (other_key number other differs) ∙ there.1, there.2)
      ]
    where
      same_set : (x : DueSet) → get int_cmp sets other ≡ Some x → other ≡ number → x ≡ before
      same_set x is same = let e = ap (get int_cmp sets) same in cc

  module _ {O : Type 0} (gives : Machine → O → Machine → Type 0) (digest : List ℕ) (old new : Database)
      (serves : CanServe sets old) (output : O) (tenant : number_of digest old.trees ≡ Some number)
      (worked : HasWorked gives number set old new output) where
    -- after the work they serve what it left
    pub serves_after : CanServe sets' new
    serves_after = record {
      ledgers = ledgers_after digest number old new tenant serves.ledgers worked.batch;
      covered = λ other at is.
          let before : number_of other old.trees ≡ Some at =
          sym (same_of old.trees new.trees worked.batch.others.directory other) ∙ is in
          elim (same_number at number) [
            | inl same ↦ (
              set,
              ap (get int_cmp sets') same ∙ found,
              subst (λ n. CoversMachine set (machine_of n new.trees)) (sym same) worked.covered,
            )
            | inr differs ↦
                let was = serves.covered other at before in (
                  was.0,
                  others at (other_key number at differs) ∙ was.1,
                  subst (CoversMachine was.0)
                      (sym (machine_kept at old.trees new.trees (worked.batch.others.others at differs)))
                      was.2,
                )
          ];
    }

    -- the work was done for the tenant's digest
    pub batch_done : IsBatchDone gives digest old new output
    batch_done = record {
      keeps = record {
        schema = worked.batch.schema;
        directory = same_directory old.trees new.trees worked.batch.others.directory;
        strangers = worked.batch.strangers;
      };
      done = record {
        before = machine_of number old.trees;
        after = machine_of number new.trees;
        held = ap (option_map (λ n. machine_of n old.trees)) tenant;
        given = worked.given;
        holds = ap (option_map (λ n. machine_of n new.trees))
            (same_of old.trees new.trees worked.batch.others.directory digest ∙ tenant);
        others = others_after digest number old new tenant serves.ledgers worked.batch;
      };
    }

    -- and no clock has gone back
    pub time_kept : (clock : ℕ) → clock ≡ (machine_of number old.trees).clock
        → clock ≤ (machine_of number new.trees).clock → KeepsTime old.trees new.trees
    time_kept clock was later at = elim (same_number at number) [
      | inl same ↦ subst (λ n. (machine_of n old.trees).clock ≤ (machine_of n new.trees).clock)
          (sym same) (omega (arith, was, later))
      | inr differs ↦
          let kept = ap (λ (m : Machine). m.clock)
          (machine_kept at old.trees new.trees (worked.batch.others.others at differs)) in
          omega (arith, kept)
    ]

-- where the database is the same, so is each machine
pub keeps_all : (old new : State) → IsSame old new
    → KeepsAll (tenants_in old.now.trees) (tenants_in new.now.trees)
keeps_all old new same other = ap (λ (db : Database). tenants_in db.trees other) same.now

-- and so are the directory and the tables of strangers
pub keeps_tables : (old new : State) → IsSame old new → KeepsTables old.now new.now
keeps_tables old new same = record {
  schema = ap (λ (db : Database). db.schema) same.now;
  directory = ap (λ (db : Database). directory_rows db.trees) same.now;
  strangers = ap strangers_in same.now;
}

-- what a batch may leave in the files is the database after the whole of it
left_after : {O : Type 0} (gives : Machine → O → Machine → Type 0) (digest : List ℕ)
    (old : Database) (trees : Trees)
    → MayLeave (λ (worked : Worked O) sets new.
    IsBatchTimed gives digest old new worked.output worked.past × CanServe sets new) trees
    → IsAfterBatch gives digest old trees
left_after gives digest old trees left =
    let done = left.done.0.batch in
    let same : left.after ≡ record { schema = old.schema; trees = trees } =
    λ i. record { schema = done.keeps.schema i; trees = sym left.is i } in record {
      ledgers = subst HoldsLedgers same left.done.1.ledgers;
      keeps = subst (KeepsTables old) same done.keeps;
      output = left.output.output;
      done = subst (λ t. IsDone gives digest (tenants_in old.trees) (tenants_in t) left.output.output)
          (sym left.is) done.done;
    }

pub after_batch : {O : Type 0} (gives : Machine → O → Machine → Type 0) (digest : List ℕ)
    (old new : State) → Survives old new (MayLeave (λ (worked : Worked O) sets now.
    IsBatchTimed gives digest old.now now worked.output worked.past × CanServe sets now))
    → Survives old new (IsAfterBatch gives digest old.now)
after_batch gives digest old new survives =
    survives_weaker _ _ _ _ (λ clean trees left. left_after gives digest old.now trees left) survives
