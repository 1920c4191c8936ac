-- Rows that were read one table after the other.
use Rattle.std.proofs.Common.{◌≡◌, ℕ, ◌<◌, ◌≤◌, ℤ, List, [], Result, Ok, Err, sym, subst, ◌∙◌, rules, arith}
use Rattle.std.specs.declared.cmp.Ordering.{Ordering}
use Rattle.rows.specs.TypedRows.{FileRows}
use Rattle.rows.specs.declared.balance_cells.BalanceCells.{BalanceCells}
use Rattle.rows.specs.declared.status_cells.StatusCells.{StatusCells}
use Rattle.rows.specs.declared.history_cells.HistoryCells.{HistoryCells}
use Rattle.sqlite_value.specs.Order.{Row}
use Rattle.sqlite_schema.specs.declared.schema.Schema.{Schema}
use Rattle.sqlite_trees.specs.Tree.{Trees}
use Rattle.sqlite.specs.Effect.{Database}
use Rattle.sqlite.specs.State.{State, HasCleanDisk, IsUnchanged}
use Rattle.ledger_sql.specs.Calls.{LeavesListed, LeavesRead}
use Rattle.ledger_sql.specs.Effects.{StartsAs}
use Rattle.ledger_sql.specs.Frames.{Follows}
use Rattle.ledger_sql.specs.Reading.{ReadsRows, account_cmp, transfer_cmp, clock_cmp, balance_cmp, status_cmp, history_cmp, id_cmp}
use Rattle.ledger_sql.specs.TableRows.{clock_rows, account_rows, transfer_rows, balance_rows, status_rows, history_rows, failed_rows}
use Rattle.ledger_sql.specs.Values.{clock_values, account_values, transfer_values, balance_values, status_values, history_values, id_values}
use Rattle.stored_tables.specs.BatchLaws.{follows_then}
use Rattle.stored_ledgers.specs.Looks.{Looks}
use Rattle.stored_ledgers.specs.RestingLaws.{unchanged_then}
use Rattle.openings.specs.Calls.{LeavesTablesRead}
use Rattle.openings.specs.Tables.{ReadsSince, AreTenantRows}

-- a connection that only read
only_read : {A E : Type 0} (a b : State) (x : A) → (HasCleanDisk b → IsUnchanged a b) → Follows a b → Looks {E = E} a b (Ok x)
only_read a b x kept follows = record {
  kept = kept;
  same = λ live quiet.
      let same = kept live.0 in
      record {
        now = same.0.now_is;
        committed = same.0.committed_is;
        mode = same.0.mode ∙ quiet.mode;
        unmarked = same.2 ∙ quiet.unmarked;
      };
  follows = follows;
}

-- the rows of one table
pub read_first : {A E : Type 0} {ours : Schema} {P : Trees → A → Type 0} {a b : State} {x : A}
    → LeavesListed {E = E} ours P a b (Ok x) → LeavesTablesRead {E = E} (StartsAs ours.tables) P a b (Ok x)
read_first {a = a} {b = b} {x = x} lists =
    record { whole = lists.whole; looks = only_read a b x lists.reads.same lists.reads.follows }

module _ {A B E F : Type 0} {Has : Schema → Type 0} {P : Trees → A → Type 0} {a c : State} {x : A} where
  -- those of one more
  pub read_then : {b : State} {ours : Schema} {Q : Trees → B → Type 0} {y : B} → LeavesTablesRead {E = E} Has P a b (Ok x)
      → LeavesListed {E = F} ours Q b c (Ok y)
      → LeavesTablesRead {E = F} (λ s. Has s × StartsAs ours.tables s) (λ trees y. P trees x × Q trees y) a c (Ok y)
  read_then {b} {ours} {Q} {y} first next =
      let before : HasCleanDisk c → HasCleanDisk b = λ clean. omega (arith, next.reads.follows.survives.clean, clean) in
      record {
        whole = λ clean has.
            let same = (first.looks.kept (before clean)).0.now_is in (
              first.whole (before clean) has.0,
              subst (λ (db : Database). Q db.trees y) same
                  (next.whole clean (subst (λ (db : Database). StartsAs ours.tables db.schema) (sym same) has.1)),
            );
        looks = only_read a c y
            (λ clean. unchanged_then a b c (first.looks.kept (before clean)) (next.reads.same clean))
            (follows_then a b c first.looks.follows next.reads.follows);
      }

  -- so they are the answer of it all
  pub read_all_of : {Has' : Schema → Type 0} {Q : Trees → B → Type 0} → ((s : Schema) → Has' s → Has s) → (y : B)
      → ((trees : Trees) → P trees x → Q trees y) → LeavesTablesRead {E = E} Has P a c (Ok x)
      → LeavesTablesRead {E = F} Has' Q a c (Ok y)
  read_all_of has y is reads = record {
    whole = λ clean there. is a.now.trees (reads.whole clean (has a.now.schema there));
    looks = only_read a c y reads.looks.kept reads.looks.follows;
  }

-- where one more could not be read, nothing has changed either
pub read_failed : {A B C E F G : Type 0} {Has Has' : Schema → Type 0} {P : Trees → A → Type 0} {Q : Trees → C → Type 0}
    {a b c : State} {x : A} {e : F} {r : Result C G} {fault : G} → r ≡ Err fault
    → LeavesTablesRead {E = E} Has P a b (Ok x) → LeavesRead {A = B} b c (Err e) → LeavesTablesRead Has' Q a c r
read_failed {a = a} {b = b} {c = c} is first next = record {
  whole = λ clean has. rw is tt;
  looks = record {
    kept = λ clean. rw is tt;
    same = search rules;
    follows = follows_then a b c first.looks.follows next.follows;
  };
}

module _ {R : Type 0} {values : R → Row} {cmp : R → R → Ordering} {table : List Row} {read : List R} where
  -- rows of a table that the version has
  pub read_there : (first version : ℕ) → first ≤ version → ReadsRows values cmp table read
      → ReadsSince first version values cmp table read
  read_there first version from reads = record { there = λ _. reads; none = λ before. absurd (omega arith) }

  -- and of one that it lacks
  pub read_none : (first version : ℕ) → version < first → read ≡ []
      → ReadsSince first version values cmp table read
  read_none first version before none = record { there = λ from. absurd (omega arith); none = λ _. none }

-- of the tenant that was passed as this number
module _ (number tenant : ℤ) (passed : number ≡ tenant) (rows : FileRows) (trees : Trees) where
  -- those of version 1
  pub entries_read : ReadsRows clock_values clock_cmp (clock_rows number trees) rows.clocks
      → ReadsRows account_values account_cmp (account_rows number trees) rows.accounts
      → ReadsRows transfer_values transfer_cmp (transfer_rows number trees) rows.transfers
      → rows.balances ≡ [] → rows.statuses ≡ [] → rows.history ≡ [] → rows.failed ≡ []
      → AreTenantRows 1 tenant trees rows
  entries_read clocks accounts transfers no_balances no_statuses no_history no_failed =
      subst (λ (n : ℤ). AreTenantRows 1 n trees rows) passed (record {
        clocks = clocks;
        accounts = accounts;
        transfers = transfers;
        balances = read_none 2 1 (omega arith) no_balances;
        statuses = read_none 2 1 (omega arith) no_statuses;
        history = read_none 2 1 (omega arith) no_history;
        failed = read_none 3 1 (omega arith) no_failed;
      })

  -- with those of newer versions
  pub derived_read : (version : ℕ) (balances : List BalanceCells) (statuses : List StatusCells) (history : List HistoryCells)
      (failed : List (List ℕ)) → 2 ≤ version → AreTenantRows 1 number trees rows
      → ReadsRows balance_values balance_cmp (balance_rows number trees) balances
      → ReadsRows status_values status_cmp (status_rows number trees) statuses
      → ReadsRows history_values history_cmp (history_rows number trees) history
      → ReadsSince 3 version id_values id_cmp (failed_rows number trees) failed
      → AreTenantRows version tenant trees
      (record rows { balances = balances; statuses = statuses; history = history; failed = failed })
  derived_read version balances statuses history failed two are there those these ids =
      subst (λ (n : ℤ). AreTenantRows version n trees
      (record rows { balances = balances; statuses = statuses; history = history; failed = failed })) passed (record {
        clocks = are.clocks;
        accounts = are.accounts;
        transfers = are.transfers;
        balances = read_there 2 version two there;
        statuses = read_there 2 version two those;
        history = read_there 2 version two these;
        failed = ids;
      })
