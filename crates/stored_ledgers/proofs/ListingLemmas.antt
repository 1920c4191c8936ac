-- How a database's tenants are listed.
use Rattle.std.proofs.Common.{◌≡◌, ℕ, ◌+◌, ◌<◌, ◌≤◌, ℤ, pos, inl, inr, Option, Some, option_map, List, [], ◌∷◌, ◌++◌, map, take, length, get_or, refl, sym, ap, subst, ◌∙◌, All, arith}
use Rattle.std.specs.List.{AllByRecursion}
use Rattle.std.specs.List.Sorted.{IsPermutation, IsSorted}
use Rattle.std.specs.String.{string_bytes}
use Rattle.std.proofs.lemmas.List.{take_more}
use Rattle.std.proofs.lemmas.List.Elements.{All-cons, All-nil, recursion_from_All}
use Rattle.std.proofs.lemmas.List.Sorted.{IsPermutation-map, IsPermutation-trans, All-permutation}
use Rattle.std.proofs.lemmas.Slice.Eq.{bytes_eq-Decides}
use Rattle.records.specs.Machine.{Machine}
use Rattle.rows.specs.Prescribed.{rows_for}
use Rattle.rows.specs.declared.all_rows.DirectoryRow.{DirectoryRow}
use Rattle.sqlite_value.specs.Order.{Row, column}
use Rattle.sqlite_trees.specs.Tree.{Trees}
use Rattle.sqlite.specs.State.{State, HasCleanDisk, IsUnchanged}
use Rattle.ledger_sql.specs.Effects.{Picks}
use Rattle.ledger_sql.specs.Frames.{Follows}
use Rattle.ledger_sql.specs.Reading.{ReadsRows, directory_cmp}
use Rattle.ledger_sql.specs.TableRows.{directory_rows, clock_rows, is_blob}
use Rattle.ledger_sql.specs.Values.{directory_values, clock_values}
use Rattle.stored_tables.specs.Holds.{HoldsMachine}
use Rattle.stored_tables.specs.MachineOf.{machine_of}
use Rattle.stored_ledgers.specs.declared.directory.ListedTenant.{ListedTenant}
use Rattle.stored_ledgers.specs.Directory.{AreDistinct, with_digest, first_number, number_of, tenants_in}
use Rattle.stored_ledgers.specs.DirectoryLaws.{Among, only_among}
use Rattle.stored_ledgers.specs.Ledger.{HoldsLedgers}
use Rattle.stored_ledgers.specs.Listing.{AreListed, AreThose, IsThat, IsTenantOf, HasItsClock, IsMadeOf, by_name, listed_values, without_its_number}
use Rattle.stored_ledgers.specs.Resting.{HoldsHere, IsQuiet, IsSame}
use Rattle.stored_ledgers.specs.RestingLaws.{still_quiet}
use Rattle.stored_ledgers.proofs.TenantLemmas.{among_filter, only_picked}

abbrev pub row_values : DirectoryRow → Row
row_values row = directory_values row.number (string_bytes row.name) row.digest

-- a row of the directory is found by its digest
row_found : (trees : Trees) (row : DirectoryRow) → AreDistinct trees
    → Among (row_values row) (directory_rows trees) → IsTenantOf trees row
unfolding number_of
row_found trees row distinct among =
    let passes = among_filter (λ r. is_blob row.digest (column r 2)) (directory_rows trees) (row_values row)
    among ((bytes_eq-Decides row.digest row.digest).1 refl) in
    ap first_number (only_among (with_digest row.digest trees) (row_values row) (distinct.digests row.digest) passes)

-- each row is among them all
module _ (trees : Trees) (distinct : AreDistinct trees) where
  all_here : (rows : List Row) → ((row : Row) → Among row rows → Among row (directory_rows trees))
      → All (λ row. Among row (directory_rows trees)) rows
  all_here [] among = All-nil _
  all_here (row ∷ rows) among =
      All-cons (λ r. Among r (directory_rows trees)) row rows (among row (inl refl)) (all_here rows (λ other later. among other (inr later)))

  rows_found : (rows : List DirectoryRow)
      → AllByRecursion (λ row. Among row (directory_rows trees)) (map row_values rows)
      → All (IsTenantOf trees) rows
  rows_found [] all = All-nil _
  rows_found (row ∷ rows) all = All-cons (IsTenantOf trees) row rows (row_found trees row distinct all.0) (rows_found rows all.1)

  -- so each row that was read is a tenant's
  pub all_found : (rows : List DirectoryRow)
      → ReadsRows row_values directory_cmp (directory_rows trees) rows → All (IsTenantOf trees) rows
  all_found rows reads =
      rows_found rows (recursion_from_All _ _ (All-permutation (λ row. Among row (directory_rows trees))
      (directory_rows trees) (map row_values rows) reads.all (all_here (directory_rows trees) (λ row is. is))))

-- a tenant's clock, as it was found
clock_found : (trees : Trees) (number : ℤ) (m : Machine) (clock : ℕ)
    → clock_rows number trees ≡ clock_values (pos m.clock) ∷ []
    → Picks (clock_rows number trees) (Some (clock_values (pos clock))) → clock ≡ m.clock
clock_found trees number m clock is picks =
    let few : length (clock_rows number trees) ≤ 1 = omega (arith, ap length is) in
    let same = only_picked (clock_rows number trees) (clock_values (pos clock)) few picks in
    let values : clock_values (pos clock) ∷ [] ≡ clock_values (pos m.clock) ∷ [] = sym same ∙ is in
    cc

pub is_that : (trees : Trees) (row : DirectoryRow) (tenant : ListedTenant) (clock : Option ℕ)
    → ((digest : List ℕ) (number : ℤ) → number_of digest trees ≡ Some number
    → HoldsMachine number (machine_of number trees) trees)
    → IsTenantOf trees row
    → Picks (clock_rows row.number trees) (option_map (λ c. clock_values (pos c)) clock)
    → IsMadeOf row clock tenant → IsThat trees row tenant
unfolding rows_for
is_that trees row tenant clock held found picks made = record {
  name = made.name;
  digest = made.digest;
  clock = (
    machine_of row.number trees,
    ap (tenants_in trees) made.digest ∙ ap (option_map (λ number. machine_of number trees)) found,
    clock_found trees row.number (machine_of row.number trees) tenant.clock
        (held row.digest row.number found).rows.clock
        (subst (λ o. Picks (clock_rows row.number trees) (option_map (λ c. clock_values (pos c)) o)) made.clock picks),
  );
}

-- one row and its tenant more
those_more : (trees : Trees) (rows : List DirectoryRow) (tenants : List ListedTenant)
    (row : DirectoryRow) (tenant : ListedTenant) → AreThose trees rows tenants
    → IsThat trees row tenant → AreThose trees (rows ++ row ∷ []) (tenants ++ tenant ∷ [])
those_more trees [] [] row tenant those is = (is, tt)
those_more trees [] (t ∷ tenants) row tenant those is = absurd those
those_more trees (r ∷ rows) [] row tenant those is = absurd those
those_more trees (r ∷ rows) (t ∷ tenants) row tenant those is =
    (those.0, those_more trees rows tenants row tenant those.1 is)

pub those_on : (trees : Trees) (rows : List DirectoryRow) (tenants more : List ListedTenant) (i : ℕ)
    (row : DirectoryRow) (tenant : ListedTenant) → i < length rows → row ≡ get_or rows i row
    → more ≡ tenants ++ tenant ∷ [] → AreThose trees (take i rows) tenants → IsThat trees row tenant
    → AreThose trees (take (i + 1) rows) more
those_on trees rows tenants more i row tenant below at grown those is =
    rw (take_more rows i row below ∙ ap (λ (r : DirectoryRow). take i rows ++ r ∷ []) (sym at), grown)
    (those_more trees (take i rows) tenants row tenant those is)

-- the tenants of all rows, sorted, are the list
module _ (trees : Trees) where
  same_values : (rows : List DirectoryRow) (tenants : List ListedTenant) → AreThose trees rows tenants
      → map without_its_number (map row_values rows) ≡ map listed_values tenants
  same_values [] [] those = refl
  same_values [] (t ∷ tenants) those = absurd those
  same_values (r ∷ rows) [] those = absurd those
  same_values (r ∷ rows) (t ∷ tenants) those =
      let rest = same_values rows tenants those.1 in
      let is : without_its_number (row_values r) ≡ listed_values t = cc (those.0.name, those.0.digest) in cc

  their_clocks : (rows : List DirectoryRow) (tenants : List ListedTenant) → AreThose trees rows tenants
      → All (HasItsClock trees) tenants
  their_clocks [] [] those = All-nil _
  their_clocks [] (t ∷ tenants) those = absurd those
  their_clocks (r ∷ rows) [] those = absurd those
  their_clocks (r ∷ rows) (t ∷ tenants) those =
      All-cons (HasItsClock trees) t tenants those.0.clock (their_clocks rows tenants those.1)

  pub are_listed : (rows : List DirectoryRow) (tenants sorted : List ListedTenant)
      → ReadsRows row_values directory_cmp (directory_rows trees) rows → AreThose trees rows tenants
      → IsPermutation tenants sorted → IsSorted by_name sorted → AreListed trees sorted
  are_listed rows tenants sorted reads those moved order = record {
    all =
        IsPermutation-trans _ (map listed_values tenants) _
        (subst (IsPermutation (map without_its_number (directory_rows trees))) (same_values rows tenants those)
        (IsPermutation-map without_its_number _ _ reads.all))
        (IsPermutation-map listed_values tenants sorted moved);
    clocks = All-permutation (HasItsClock trees) tenants sorted moved (their_clocks rows tenants those);
    order = order;
  }

-- tables that were only read
still_same : (a b : State) → IsUnchanged a b → IsQuiet a → IsSame a b
still_same a b same quiet = record {
  now = same.0.now_is;
  committed = same.0.committed_is;
  mode = same.0.mode ∙ quiet.mode;
  unmarked = same.2 ∙ quiet.unmarked;
}

pub here_still : (a b : State) → Follows a b → (HasCleanDisk b → IsUnchanged a b) → HoldsHere a
    → HoldsHere b
here_still a b follows kept here clean =
    let same = kept clean in
    let was = here (omega (arith, follows.survives.clean, clean)) in (
      same.0.is_open,
      still_quiet a b was.1 (still_same a b same was.1),
      subst HoldsLedgers (sym same.0.now_is) was.2,
    )
