-- What a new tenant's rows leave of a database.
use Rattle.std.proofs.Common.{◌≡◌, ◌≢◌, ◌<◌, ℕ, ℤ, pos, Bool, true, false, Option, None, Some, drop, List, [], ◌∷◌, ◌++◌, map, filter, Ok, Err, refl, sym, ap, subst, ◌∙◌, arith}
use Rattle.std.specs.List.{AllByRecursion}
use Rattle.std.specs.Bool.{then_some}
use Rattle.std.specs.List.Sorted.{IsPermutation}
use Rattle.std.proofs.lemmas.List.Sorted.{IsPermutation-refl}
use Rattle.records.specs.Machine.{new_machine}
use Rattle.records.specs.Valid.{new_tenant}
use Rattle.rows.specs.Prescribed.{rows_for}
use Rattle.sqlite_schema.specs.declared.schema.Schema.{Schema}
use Rattle.sqlite_schema.specs.declared.schema.Table.{Table}
use Rattle.sqlite_value.specs.Order.{Row, column}
use Rattle.sqlite_trees.specs.Tree.{Trees}
use Rattle.sqlite.specs.Effect.{Database}
use Rattle.sqlite.specs.State.{State}
use Rattle.ledger_sql.specs.Effects.{IsLedger, StartsAs, OthersStay, AddsFileRow, AddsRows}
use Rattle.ledger_sql.specs.Rowids.{IsNumbered}
use Rattle.ledger_sql.specs.Schema.{ledger_schema, after_tenant, tenant_tree, clock_tree}
use Rattle.ledger_sql.specs.Strangers.{strangers_in}
use Rattle.ledger_sql.specs.StrangerLaws.{strangers_stay}
use Rattle.ledger_sql.specs.TableRows.{directory_rows, clock_rows, is_own, is_int, cells_from, account_rows, transfer_rows, balance_rows, status_rows, history_rows, failed_rows}
use Rattle.ledger_sql.specs.Values.{directory_values, clock_values}
use Rattle.stored_tables.specs.Frames.{KeepsRows, AreNumbered}
use Rattle.stored_tables.specs.Holds.{HoldsMachine}
use Rattle.stored_ledgers.specs.Directory.{with_digest, with_name}
use Rattle.stored_ledgers.specs.declared.joining.Taken.{Taken}
use Rattle.stored_ledgers.specs.declared.joining.Taken.TheVariants.{Name, Digest}
use Rattle.stored_ledgers.specs.Joining.{Joins, IsJoined, Joined, HasJoined, AreTaken, joining_answer}
use Rattle.stored_ledgers.specs.Ledger.{HoldsLedgers}
use Rattle.stored_ledgers.proofs.ServingLemmas.{IsTenantChange}
use Rattle.stored_ledgers.proofs.TakenLemmas.{only_row}

-- all tables of ours but one stay
pub stay : (tree : ℕ) (old new : State) (ledger : IsLedger old.now.schema) → OthersStay tree old new
    → AllByRecursion (λ t. t.tree ≢ tree → new.now.trees t.tree ≡ old.now.trees t.tree)
    (ledger_schema.tables ++ ledger.more)
stay tree old new ledger others =
    subst (AllByRecursion (λ (t : Table). t.tree ≢ tree → new.now.trees t.tree ≡ old.now.trees t.tree))
    ledger.tables others

-- the tables but the directory and the clocks
pub record RestStays (old new : Trees) : Type 0 where
  pub version : new 0 ≡ old 0
  pub accounts : new 5 ≡ old 5
  pub transfers : new 8 ≡ old 8
  pub balances : new 11 ≡ old 11
  pub statuses : new 13 ≡ old 13
  pub history : new 15 ≡ old 15
  pub failed : new 17 ≡ old 17

-- only the tree of the directory or of the clocks has changed
pub rest_of : (tree : ℕ) (old new : State) (ledger : IsLedger old.now.schema) → OthersStay tree old new
    → (0 < tree) → (tree < 5) → RestStays old.now.trees new.now.trees
rest_of tree old new ledger others some few =
    let all = stay tree old new ledger others in
    record {
      version = all.0 (λ e. omega (arith, some, e));
      accounts = all.1.1.1.0 (λ e. omega (arith, few, e));
      transfers = all.1.1.1.1.0 (λ e. omega (arith, few, e));
      balances = all.1.1.1.1.1.0 (λ e. omega (arith, few, e));
      statuses = all.1.1.1.1.1.1.0 (λ e. omega (arith, few, e));
      history = all.1.1.1.1.1.1.1.0 (λ e. omega (arith, few, e));
      failed = all.1.1.1.1.1.1.1.1.0 (λ e. omega (arith, few, e));
    }

still : (old new : List Row) → new ≡ old → IsNumbered old → IsNumbered new
still old new same rise = subst IsNumbered (sym same) rise

-- the rowids of all tables rise, where they do in the two that may have changed
pub numbered_again : (old new : Trees) → RestStays old new → AreNumbered old → IsNumbered (new 1)
    → IsNumbered (new 4) → AreNumbered new
numbered_again old new rest was directory clocks = (
  still _ _ rest.version was.0,
  (
    directory,
    (
      clocks,
      (
        still _ _ rest.accounts was.1.1.1.0,
        (
          still _ _ rest.transfers was.1.1.1.1.0,
          (
            still _ _ rest.balances was.1.1.1.1.1.0,
            (
              still _ _ rest.statuses was.1.1.1.1.1.1.0,
              (still _ _ rest.history was.1.1.1.1.1.1.1.0, (still _ _ rest.failed was.1.1.1.1.1.1.1.1.0, tt)),
            ),
          ),
        ),
      ),
    ),
  ),
)

own : (width : ℕ) (number : ℤ) (new old : List Row) → new ≡ old
    → map (cells_from 2 width) (filter (is_own number) new) ≡ map (cells_from 2 width) (filter (is_own number) old)
own width number new old same = ap (λ rows. map (cells_from 2 width) (filter (is_own number) rows)) same

pub kept : (number : ℤ) (old new : Trees) → RestStays old new
    → clock_rows number new ≡ clock_rows number old → KeepsRows number old new
kept number old new rest clock = record {
  clock = clock;
  accounts = own 8 number _ _ rest.accounts;
  transfers = own 14 number _ _ rest.transfers;
  balances = own 5 number _ _ rest.balances;
  statuses = own 3 number _ _ rest.statuses;
  history = own 6 number _ _ rest.history;
  failed = own 1 number _ _ rest.failed;
}

pub clock_kept : (number : ℤ) (old new : Trees) → new 4 ≡ old 4 → clock_rows number new ≡ clock_rows number old
clock_kept number old new same =
    ap (λ rows. map (cells_from 2 1) (filter (λ row. is_int number (column row 0)) rows)) same

-- rows of a new machine
new_rows : (number : ℤ) (trees : Trees) → clock_rows number trees ≡ clock_values (pos 0) ∷ []
    → account_rows number trees ≡ [] → transfer_rows number trees ≡ [] → balance_rows number trees ≡ []
    → status_rows number trees ≡ [] → history_rows number trees ≡ [] → failed_rows number trees ≡ []
    → HoldsMachine number new_machine trees
unfolding rows_for
new_rows number trees clock accounts transfers balances statuses history failed = record {
  valid = new_tenant;
  rows = record {
    clock = clock;
    accounts = subst (IsPermutation []) (sym accounts) (IsPermutation-refl []);
    transfers = subst (IsPermutation []) (sym transfers) (IsPermutation-refl []);
    balances = subst (IsPermutation []) (sym balances) (IsPermutation-refl []);
    statuses = subst (IsPermutation []) (sym statuses) (IsPermutation-refl []);
    history = subst (IsPermutation []) (sym history) (IsPermutation-refl []);
    failed = subst (IsPermutation []) (sym failed) (IsPermutation-refl []);
  };
}

-- a row of the directory and a clock make a tenant
pub joined_rows : (number : ℕ) (name digest : List ℕ) (s0 s1 s2 s3 : State) → s1.now ≡ s0.now
    → HoldsLedgers s0.now
    → AddsFileRow directory_rows tenant_tree (directory_values (pos number) name digest) s1 s2
    → AddsRows clock_rows clock_tree (pos number) (clock_values (pos 0) ∷ []) s2 s3
    → Joins number name digest s0.now s3.now
joined_rows number name digest s0 s1 s2 s3 same ledgers entry clock =
    let ledger1 : IsLedger s1.now.schema = subst (λ (db : Database). IsLedger db.schema) (sym same) ledgers.schema in
    let ledger2 : IsLedger s2.now.schema = subst IsLedger (sym entry.inside.schema) ledger1 in
    let one = rest_of 1 s1 s2 ledger1 entry.tables (omega arith) (omega arith) in
    let two = rest_of 4 s2 s3 ledger2 clock.tables (omega arith) (omega arith) in
    let back : (t : ℕ) → s1.now.trees t ≡ s0.now.trees t = λ t. ap (λ (db : Database). db.trees t) same in
    let all : RestStays s0.now.trees s3.now.trees = record {
      version = two.version ∙ one.version ∙ back 0;
      accounts = two.accounts ∙ one.accounts ∙ back 5;
      transfers = two.transfers ∙ one.transfers ∙ back 8;
      balances = two.balances ∙ one.balances ∙ back 11;
      statuses = two.statuses ∙ one.statuses ∙ back 13;
      history = two.history ∙ one.history ∙ back 15;
      failed = two.failed ∙ one.failed ∙ back 17;
    } in
    let clocks : s2.now.trees 4 ≡ s0.now.trees 4 =
    (stay 1 s1 s2 ledger1 entry.tables).1.1.0 (λ e. absurd (omega arith)) ∙ back 4 in
    let tenants : s3.now.trees 1 ≡ s2.now.trees 1 =
    (stay 4 s2 s3 ledger2 clock.tables).1.0 (λ e. absurd (omega arith)) in
    let was = ledgers.numbered in record {
      schema = clock.inside.schema ∙ entry.inside.schema ∙ ap (λ (db : Database). db.schema) same;
      version = all.version;
      numbered = numbered_again s0.now.trees s3.now.trees all was
          (subst IsNumbered (sym tenants) (entry.numbered (subst IsNumbered (sym (back 1)) was.1.0)))
          (clock.numbered (subst IsNumbered (sym clocks) was.1.1.0));
      directory =
          let entries : List Row → List Row = map (λ row. column row 0 ∷ cells_from 2 2 row) in
          subst (λ rows. IsPermutation (directory_values (pos number) name digest ∷ directory_rows s0.now.trees) rows)
          (ap entries (sym tenants))
          (subst (λ rows. IsPermutation (directory_values (pos number) name digest ∷ rows) (directory_rows s2.now.trees))
          (ap entries (back 1)) entry.all);
      others = λ other differs. kept other s0.now.trees s3.now.trees all
          (clock.others other differs ∙ clock_kept other s0.now.trees s2.now.trees clocks);
      holds = λ none.
          let before : clock_rows (pos number) s2.now.trees ≡ [] =
          clock_kept (pos number) s0.now.trees s2.now.trees clocks ∙ none.clock in
          let made = only_row _ _ (subst (λ rows. IsPermutation (clock_values (pos 0) ∷ rows)
          (clock_rows (pos number) s3.now.trees)) before clock.own) in
          new_rows (pos number) s3.now.trees made
          (own 8 (pos number) _ _ all.accounts ∙ none.accounts)
          (own 14 (pos number) _ _ all.transfers ∙ none.transfers)
          (own 5 (pos number) _ _ all.balances ∙ none.balances)
          (own 3 (pos number) _ _ all.statuses ∙ none.statuses)
          (own 6 (pos number) _ _ all.history ∙ none.history)
          (own 1 (pos number) _ _ all.failed ∙ none.failed);
      strangers = strangers_stay 4 s2 s3 refl clock.inside.schema clock.tables
          ∙ strangers_stay 1 s1 s2 refl entry.inside.schema entry.tables ∙ ap strangers_in same;
    }

-- the same, told of the trees alone
pub joined_trees : (number : ℕ) (name digest : List ℕ) (old new : Database) (trees : Trees)
    → trees ≡ new.trees → Joins number name digest old new
    → Joins number name digest old (record { schema = old.schema; trees = trees })
joined_trees number name digest old new trees same joins =
    let told : new ≡ record { schema = old.schema; trees = trees } =
    λ i. record { schema = joins.schema i; trees = sym same i } in
    subst (Joins number name digest old) told joins

-- our tables begin with the directory
pub starts_as_ours : (schema : Schema) → IsLedger schema → StartsAs after_tenant.tables schema
starts_as_ours schema ledger = (drop 2 ledger_schema.tables ++ ledger.more, ledger.tables)

-- where nobody has the name it is told whether somebody has the digest
pub digest_told : (name digest : List ℕ) (trees : Trees) (there : Bool) (taken : Option Taken)
    → with_name name trees ≡ [] → (there ≡ true → with_digest digest trees ≢ [])
    → (there ≡ false → with_digest digest trees ≡ []) → taken ≡ then_some there Digest
    → AreTaken name digest trees taken
digest_told name digest trees true taken none some free is =
    subst (AreTaken name digest trees) (sym is) (none, some refl)
digest_told name digest trees false taken none some free is =
    subst (AreTaken name digest trees) (sym is) (none, free refl)

-- what the adding of a tenant is told, and what it may leave in the files
pub joining_change : (name digest : List ℕ)
    → IsTenantChange joining_answer (HasJoined name digest) (Joined name digest)
    (λ old new. AreTaken name digest old.trees None × IsJoined name digest old new)
    (λ old taken. AreTaken name digest old.trees (Some taken))
joining_change name digest = record {
  made = λ old new joined. joined;
  refused = λ old taken. elim taken as (λ t. AreTaken name digest old.trees (Some t)
      → HasJoined name digest old old (joining_answer (Ok (Err t)))) [
        | Name ↦ λ is. (is, refl)
        | Digest ↦ λ is. (is, refl)
      ];
  failed = λ old why. refl;
  left = λ old new trees joined is. (
    joined.0,
    record {
      number = joined.1.number;
      least = joined.1.least;
      joins = joined_trees joined.1.number name digest old new trees is joined.1.joins;
    },
  );
}
