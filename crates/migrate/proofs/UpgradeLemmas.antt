-- What an upgrade makes of a database.
use Rattle.std.proofs.Common.{◌≡◌, ◌<◌, ◌≤◌, ℕ, ℤ, [], map, filter, Ok, sym, ap, subst, ◌∙◌, arith}
use Rattle.std.specs.List.{AllByRecursion}
use Rattle.std.specs.Ordering.{nat_cmp}
use Rattle.sqlite_value.specs.Order.{column}
use Rattle.sqlite_keyed.specs.Lists.{sort_by}
use Rattle.sqlite_schema.specs.declared.schema.Schema.{Schema}
use Rattle.sqlite_schema.specs.declared.schema.Table.{Table}
use Rattle.sqlite_trees.specs.Tree.{Trees}
use Rattle.sqlite.specs.Effect.{Database}
use Rattle.sqlite.specs.State.{State, Survives}
use Rattle.sqlite.proofs.StateLemmas.{survives_then}
use Rattle.ledger_sql.specs.Rowids.{IsNumbered}
use Rattle.ledger_sql.specs.Schema.{list_schema, balance_schema}
use Rattle.ledger_sql.specs.Stages.{HasBegun}
use Rattle.ledger_sql.specs.TableRows.{is_own, is_int, cells_from}
use Rattle.stored_tables.specs.MachineOf.{machine_of, account_of, transfer_of, clock_of, wide}
use Rattle.stored_ledgers.specs.DueSets.{DueSets}
use Rattle.openings.specs.Found.{HasOrderedTables}
use Rattle.migrate.specs.Filling.{IsAltering, HasOneVersion, KeepsEntries, MakesDerived, MakesVersion}
use Rattle.migrate.specs.Upgrading.{KeepsMachines, IsUpgraded, IsLifted, Raised, IsOlder}
use Rattle.migrate.specs.Raising.{HasBalanceTables, IsPrepared, IsSeen, Prepares}
use Rattle.migrate.specs.FillingLaws.{entries_then}

-- where the entries stay, each machine stays but for failed ids
pub machines_kept : (old new : Trees) → KeepsEntries old new → KeepsMachines old new
unfolding machine_of
machines_kept old new kept = record {
  directory = kept.directory;
  machines = λ number i. record {
    accounts = sort_by (λ a b. nat_cmp a.timestamp b.timestamp) (map account_of (map (cells_from 2 8) (filter (is_own number) (kept.accounts i))));
    transfers = sort_by (λ s t. nat_cmp s.timestamp t.timestamp) (map transfer_of (map (cells_from 2 14) (filter (is_own number) (kept.transfers i))));
    clock = clock_of (map (cells_from 2 1) (filter (λ row. is_int number (column row 0)) (kept.clocks i)));
    failed = [];
  };
}

-- where there are no failed ids, none has failed
pub nothing_failed : (trees : Trees) → trees 17 ≡ [] → (number : ℤ) → (machine_of number trees).failed ≡ []
unfolding machine_of
nothing_failed trees none number =
    ap (λ rows. sort_by nat_cmp (map (λ row. wide (column row 0)) (map (cells_from 2 1) (filter (is_own number) rows)))) none

-- a transaction on an older ledger
pub begun_altering : (schema : Schema) (old new : State) → HasBegun old new → old.now.schema ≡ schema → IsAltering schema new
begun_altering schema old new begun is = record {
  making = record { schema_is = ap (λ (d : Database). d.schema) begun.now ∙ is; mode = begun.mode };
  is_open = begun.is_open;
}

pub derived_altering : (old new : State) → MakesDerived old new → IsAltering balance_schema new
derived_altering old new made = record {
  making = record { schema_is = made.schema; mode = made.shown.mode };
  is_open = made.shown.is_open;
}

-- the version stays until it is set
pub still_one : (old new : Trees) → new 0 ≡ old 0 → HasOneVersion old → HasOneVersion new
still_one old new same one = record {
  row = one.row;
  only = ap (map (cells_from 2 1)) same ∙ one.only;
  numbered = subst IsNumbered (sym same) one.numbered;
}

pub entries_same : (old new : Database) → new ≡ old → KeepsEntries old.trees new.trees
entries_same old new same = record {
  directory = ap (λ (d : Database). d.trees 1) same;
  clocks = ap (λ (d : Database). d.trees 4) same;
  accounts = ap (λ (d : Database). d.trees 5) same;
  transfers = ap (λ (d : Database). d.trees 8) same;
}

-- an older ledger names one version
lists_one : (s : State) → IsOlder list_schema s → HasOneVersion s.now.trees
lists_one s older = record {
  row = older.row;
  only = older.version;
  numbered = (subst (λ (schema : Schema). AllByRecursion (λ (t : Table). IsNumbered (s.now.trees t.tree)) schema.tables) older.rests.schema_is older.ordered).0;
}

balances_one : (s : State) → IsOlder balance_schema s → HasOneVersion s.now.trees
balances_one s older = record {
  row = older.row;
  only = older.version;
  numbered = (subst (λ (schema : Schema). AllByRecursion (λ (t : Table). IsNumbered (s.now.trees t.tree)) schema.tables) older.rests.schema_is older.ordered).0;
}

-- with the tables that were made, its rowids still rise
pub derived_ordered : (a b c : State) → IsOlder list_schema a → b.now ≡ a.now → MakesDerived b c → HasOrderedTables c.now
derived_ordered a b c older begun made =
    let was = subst (λ (schema : Schema). AllByRecursion (λ (t : Table). IsNumbered (a.now.trees t.tree)) schema.tables) older.rests.schema_is older.ordered in
    let at : (tree : ℕ) → c.now.trees tree ≡ b.now.trees tree → IsNumbered (a.now.trees tree) → IsNumbered (c.now.trees tree) =
    λ tree same. subst IsNumbered (sym (same ∙ ap (λ (d : Database). d.trees tree) begun)) in
    subst (λ (schema : Schema). AllByRecursion (λ (t : Table). IsNumbered (c.now.trees t.tree)) schema.tables) (sym made.schema) (
      at 0 made.version was.0,
      (
        at 1 made.entries.directory was.1.0,
        (
          at 4 made.entries.clocks was.1.1.0,
          (
            at 5 made.entries.accounts was.1.1.1.0,
            (at 8 made.entries.transfers was.1.1.1.1.0, (made.numbered.balances, (made.numbered.statuses, (made.numbered.history, tt)))),
          ),
        ),
      ),
    )

-- the tables of balances are there
pub made_balances : (s0 s1 s2 : State) → IsOlder list_schema s0 → s1.now ≡ s0.now → MakesDerived s1 s2 → HasBalanceTables s0 s2
made_balances s0 s1 s2 older begun made = record {
  can_set = record {
    altering = derived_altering s1 s2 made;
    version = still_one s1.now.trees s2.now.trees made.version
        (subst (λ (d : Database). HasOneVersion d.trees) (sym begun) (lists_one s0 older));
    numbered = derived_ordered s0 s1 s2 older begun made;
  };
  entries = entries_then s0.now.trees s1.now.trees s2.now.trees (entries_same s0.now s1.now begun) made.entries;
}

-- or were
pub had_balances : (s0 s1 : State) → IsOlder balance_schema s0 → HasBegun s0 s1 → HasBalanceTables s0 s1
had_balances s0 s1 older begun = record {
  can_set = record {
    altering = begun_altering balance_schema s0 s1 begun older.rests.schema_is;
    version = subst (λ (d : Database). HasOneVersion d.trees) (sym begun.now) (balances_one s0 older);
    numbered = subst HasOrderedTables (sym begun.now) older.ordered;
  };
  entries = entries_same s0.now s1.now begun.now;
}

-- what was looked at before the commit is a ledger of the newer version
module _ (to : ℕ) (sets : DueSets) (s0 s1 s2 s3 : State) (has : HasBalanceTables s0 s1) (makes : MakesVersion to s1 s2)
    (seen : IsSeen to sets s2.now) (same : s3.now ≡ s2.now) where
  upgraded_now : 3 ≤ to → IsUpgraded sets s0.now s3.now
  upgraded_now three =
      let current = makes.current three in
      let ordered : HasOrderedTables s2.now =
      subst (λ (schema : Schema). AllByRecursion (λ (t : Table). IsNumbered (s2.now.trees t.tree)) schema.tables) (sym current.schema) current.numbered in
      let holds = seen.current three current.sound ordered in
      subst (IsUpgraded sets s0.now) (sym same) (record {
        ledgers = holds.0;
        covered = holds.1;
        kept = machines_kept s0.now.trees s2.now.trees (entries_then s0.now.trees s1.now.trees s2.now.trees has.entries current.entries);
        none_failed = nothing_failed s2.now.trees current.failed;
      })

  lifted_now : to < 3 → IsLifted s0.now s3.now
  lifted_now less =
      let made = makes.balanced less in
      subst (IsLifted s0.now) (sym same) (record {
        ledger = record {
          schema = made.schema;
          named = made.version;
          names = (seen.older less).0;
          sound = (seen.older less).1;
        };
        ordered = subst (λ (schema : Schema). AllByRecursion (λ (t : Table). IsNumbered (s2.now.trees t.tree)) schema.tables) (sym made.schema) made.numbered;
        kept = machines_kept s0.now.trees s2.now.trees (entries_then s0.now.trees s1.now.trees s2.now.trees has.entries made.entries);
      })

  pub prepared_now : IsPrepared to sets s0 s3
  prepared_now = record {
    schema = λ three. ap (λ (d : Database). d.schema) same ∙ (makes.current three).schema;
    raised = record { current = upgraded_now; lifted = lifted_now };
  }

-- nothing but the commit may leave anything new
pub survives_raise : {E : Type 0} {to : ℕ} {sets : DueSets} {s0 s4 s5 : State} → Prepares {E = E} to s0 s4 (Ok sets)
    → Survives s4 s5 (λ db. db ≡ s4.now.trees) → Survives s0 s5 (Raised to s0.now)
survives_raise {E} {to} {sets} {s0} {s4} {s5} prepares commits =
    survives_then s0 s4 s5 _ _ _ (λ _ db none. absurd none)
    (λ clean db is.
    let made = prepares.prepared (omega (arith, commits.clean, clean)) in
    record {
      current = λ three. record {
        sets = sets;
        is = subst (IsUpgraded sets s0.now) (λ i. record { schema = made.schema three i; trees = sym is i }) (made.raised.current three);
      };
      lifted = λ less.
          let lifted = made.raised.lifted less in
          subst (IsLifted s0.now) (λ i. record { schema = lifted.ledger.schema i; trees = sym is i }) lifted;
    }) prepares.follows.survives commits
