-- What the change of a tenant's key leaves of a database.
use Rattle.std.proofs.Common.{◌≡◌, ◌≢◌, ◌≤◌, ℕ, ℤ, inl, inr, Bool, false, Option, Some, option_map, List, [], ◌∷◌, length, Ok, Err, refl, sym, ap, subst, arith}
use Rattle.std.specs.Str.{bytes_eq}
use Rattle.std.specs.List.Sorted.{IsPermutation}
use Rattle.std.specs.String.{string_bytes}
use Rattle.std.proofs.lemmas.Slice.Eq.{bytes_eq-Decides}
use Rattle.rows.specs.declared.all_rows.DirectoryRow.{DirectoryRow}
use Rattle.sqlite_trees.specs.Tree.{Trees}
use Rattle.sqlite_value.specs.Order.{column}
use Rattle.sqlite.specs.Effect.{Database}
use Rattle.sqlite.specs.State.{State, HasCleanDisk}
use Rattle.ledger_sql.specs.Calls.{LeavesFound}
use Rattle.ledger_sql.specs.Effects.{Picks, SetsDigest}
use Rattle.ledger_sql.specs.Rowids.{IsNumbered}
use Rattle.ledger_sql.specs.StrangerLaws.{strangers_stay}
use Rattle.ledger_sql.specs.TableRows.{directory_rows, is_int, is_text}
use Rattle.ledger_sql.specs.Values.{directory_values}
use Rattle.stored_ledgers.specs.Directory.{with_name, with_digest, first_digest, digest_in}
use Rattle.stored_ledgers.specs.DirectoryLaws.{filter_head}
use Rattle.stored_ledgers.specs.DueSets.{DueSets}
use Rattle.stored_ledgers.specs.declared.keying.KeyRefused.TheVariants.{NoTenant, DigestTaken}
use Rattle.stored_ledgers.specs.Keying.{IsKeyed, Keyed, HasKeyed, IsKeyRefused, keying_answer, without_number}
use Rattle.stored_ledgers.specs.Ledger.{HoldsLedgers}
use Rattle.stored_ledgers.specs.Resting.{CanServe}
use Rattle.stored_ledgers.specs.Transactions.{HasOnlyBegun}
use Rattle.stored_ledgers.proofs.JudgedLemmas.{was_found}
use Rattle.stored_ledgers.proofs.JoinLemmas.{stay, rest_of, numbered_again, kept, clock_kept}
use Rattle.stored_ledgers.proofs.KeyedLemmas.{one_apart, one_numbered, ledgers_keyed, sets_keyed}
use Rattle.stored_ledgers.proofs.ServingLemmas.{IsTenantChange}
use Rattle.stored_ledgers.proofs.TenantLemmas.{only_picked}

-- the row that is found by a name has that name
named_row : (name : List ℕ) (trees : Trees) (row : DirectoryRow)
    → length (with_name name trees) ≤ 1
    → Picks (with_name name trees) (Some (directory_values row.number (string_bytes row.name) row.digest))
    → with_name name trees ≡ directory_values row.number name row.digest ∷ []
named_row name trees row few picks =
    let one = only_picked (with_name name trees) _ few picks in
    let passes = (filter_head (λ row. is_text name (column row 1)) (directory_rows trees) _ [] one).1 in
    let is : string_bytes row.name ≡ name = (bytes_eq-Decides (string_bytes row.name) name).0 passes in
    subst (λ n. with_name name trees ≡ directory_values row.number n row.digest ∷ []) is one

-- so it was looked up in a transaction that has only begun
pub found_named : {E : Type 0} {Fits : Option DirectoryRow → Type 0} (name text : List ℕ)
    (sets : DueSets) (old read : State) (found : Option DirectoryRow) (row : DirectoryRow)
    → text ≡ name → found ≡ Some row
    → LeavesFound {E = E} Fits (λ trees found. Picks (with_name text trees) (option_map (λ row.
    directory_values row.number (string_bytes row.name) row.digest) found)) old read (Ok found)
    → (HasCleanDisk old → HasOnlyBegun (CanServe sets) old) → HasCleanDisk read
    → (read.now ≡ old.now) × CanServe sets old.now
    × (with_name name old.now.trees ≡ directory_values row.number name row.digest ∷ [])
found_named name text sets old read found row same is finds begun clean =
    let seen = was_found old read found finds clean in
    let serves = (begun seen.0).needs in (
      seen.1,
      serves,
      named_row name old.now.trees row (serves.ledgers.distinct.names name)
          (subst (λ found. Picks (with_name name old.now.trees) (option_map (λ row. directory_values row.number
          (string_bytes row.name) row.digest) found)) is (rw same at (seen.2 serves.ledgers.schema))),
    )

-- a test has told two digests apart
pub told_apart : (same : Bool) (was digest : List ℕ) → same ≡ bytes_eq was digest → same ≡ false
    → was ≢ digest
told_apart same was digest is differs equal =
    let both = (bytes_eq-Decides was digest).1 equal in cc

-- the same key again
pub same_key : (name digest : List ℕ) (db : Database) (number : ℤ) (was : List ℕ) → HoldsLedgers db
    → with_name name db.trees ≡ directory_values number name was ∷ [] → was ≡ digest
    → IsKeyed name digest db db
same_key name digest db number was ledgers named same = record {
  number = number;
  was = was;
  named = named;
  free = inl same;
  again = λ again. refl;
  schema = refl;
  version = refl;
  numbered = ledgers.numbered;
  directory = subst (λ d. IsPermutation (directory_values number name d ∷ without_number number db.trees) (directory_rows db.trees)) same
      (one_apart (λ row. is_int number (column row 0)) (directory_values number name was) (directory_rows db.trees)
      (one_numbered name number was db.trees (ledgers.distinct.numbers number) named));
  rows = λ tenant. record {
    clock = refl;
    accounts = refl;
    transfers = refl;
    balances = refl;
    statuses = refl;
    history = refl;
    failed = refl;
  };
  strangers = refl;
}

-- another one, that nobody has
set_key : (name digest : List ℕ) (old new : State) (number : ℤ) (was : List ℕ)
    → HoldsLedgers old.now → with_name name old.now.trees ≡ directory_values number name was ∷ []
    → was ≢ digest → with_digest digest old.now.trees ≡ [] → SetsDigest number digest old new
    → IsKeyed name digest old.now new.now
set_key name digest old new number was ledgers named differs none sets =
    let numbered = ledgers.numbered in
    let has = sets.one name was
    (one_numbered name number was old.now.trees (ledgers.distinct.numbers number) named) numbered.1.0 in
    let rest = rest_of 1 old new ledgers.schema has.tables (omega arith) (omega arith) in
    let clocks = (stay 1 old new ledgers.schema has.tables).1.1.0 (λ e. absurd (omega arith)) in record {
      number = number;
      was = was;
      named = named;
      free = inr none;
      again = λ same. absurd (differs same);
      schema = sets.inside.schema;
      version = rest.version;
      numbered = numbered_again old.now.trees new.now.trees rest numbered has.numbered
          (subst IsNumbered (sym clocks) numbered.1.1.0);
      directory = has.directory;
      rows = λ tenant. kept tenant old.now.trees new.now.trees rest
          (clock_kept tenant old.now.trees new.now.trees clocks);
      strangers = strangers_stay 1 old new refl sets.inside.schema has.tables;
    }

-- the same, behind calls that only read
pub new_key : (name digest : List ℕ) (old read new : State) (number : ℤ) (was : List ℕ)
    → read.now ≡ old.now → HoldsLedgers old.now
    → with_name name old.now.trees ≡ directory_values number name was ∷ []
    → was ≢ digest → with_digest digest old.now.trees ≡ [] → SetsDigest number digest read new
    → IsKeyed name digest old.now new.now
new_key name digest old read new number was same ledgers named differs none sets =
    let back : old.now ≡ read.now = sym same in
    subst (λ db. IsKeyed name digest db new.now) same
    (set_key name digest read new number was (subst HoldsLedgers back ledgers)
    (subst (λ (db : Database). with_name name db.trees ≡ directory_values number name was ∷ []) back named)
    differs (subst (λ (db : Database). with_digest digest db.trees ≡ []) back none) sets)

-- after it the same sets serve
pub serves_keyed : (name digest : List ℕ) (sets : DueSets) (old new : Database) → CanServe sets old
    → IsKeyed name digest old new → CanServe sets new
serves_keyed name digest sets old new serves keyed = record {
  ledgers = ledgers_keyed name digest old new serves.ledgers keyed;
  covered = sets_keyed name digest old new serves.ledgers keyed sets serves.covered;
}

-- the tenant of a name has another digest than this one
pub other_digest : (name digest : List ℕ) (trees : Trees) (number : ℤ) (was : List ℕ)
    → with_name name trees ≡ directory_values number name was ∷ [] → was ≢ digest
    → (was : List ℕ) × (digest_in name trees ≡ Some was) × (was ≢ digest)
unfolding digest_in
other_digest name digest trees number was named differs = (was, ap first_digest named, differs)

-- what the change of a key is told, and what it may leave in the files
pub keying_change : (name digest : List ℕ)
    → IsTenantChange keying_answer (HasKeyed name digest) (Keyed name digest)
    (IsKeyed name digest) (λ old. IsKeyRefused name digest old.trees)
keying_change name digest = record {
  made = λ old new keyed. keyed;
  refused = λ old why. elim why as (λ w. IsKeyRefused name digest old.trees w
      → HasKeyed name digest old old (keying_answer (Ok (Err w)))) [
        | NoTenant ↦ λ is. (is, refl)
        | DigestTaken ↦ λ is. (is, refl)
      ];
  failed = λ old why. refl;
  left = λ old new trees keyed is.
      let same : new ≡ record { schema = old.schema; trees = trees } =
      λ i. record { schema = keyed.schema i; trees = sym is i } in
      subst (IsKeyed name digest old) same keyed;
}
