-- Each name in a directory goes together with the digest of one tenant.
use Rattle.std.proofs.Common.{◌≡◌, ◌≢◌, ◌≤◌, inl, inr, ℕ, Bool, true, List, [], ◌∷◌, Option, Some, None}
use Rattle.std.proofs.Common.{filter, length, option_map, unwrap_or, refl, sym, ap, subst, ◌∙◌, arith}
use Rattle.std.specs.List.{AllByRecursion}
use Rattle.std.proofs.lemmas.Slice.Eq.{bytes_eq-Decides}
use Rattle.sqlite_value.specs.declared.value.Value.{Value}
use Rattle.sqlite_value.specs.declared.value.Value.TheVariants.{Text, Blob}
use Rattle.sqlite_value.specs.Order.{Row, column}
use Rattle.sqlite_trees.specs.Tree.{Trees}
use Rattle.sqlite_rules.specs.Lists.{Has}
use Rattle.sqlite_rules.proofs.ListLemmas.{all_has, has_filtered, has_kept}
use Rattle.sqlite.specs.Effect.{Database}
use Rattle.sqlite_disk.specs.declared.Disk as disk
use Rattle.ledger_sql.specs.TableRows.{directory_rows, is_blob, is_text}
use Rattle.stored_tables.specs.MachineOf.{machine_of}
use Rattle.stored_ledgers.specs.DueSets.{DueSets}
use Rattle.stored_ledgers.specs.Directory.{IsEntry, bytes_in, first_number, number_of, tenants_in, with_digest}
use Rattle.stored_ledgers.specs.Ledger.{HoldsLedgers}
use Rattle.stored_ledgers.specs.Names.{first_named, names_in}
use Rattle.openings.specs.OpenTables.{open_state}
use Rattle.store.specs.NameLaws.{held}
use Rattle.store.specs.Names.{AreNamed, names_at}
use Rattle.store.specs.Stores.{IsLiveAt, IsUsableAt, tenants_at}
use Rattle.store.specs.declared.place.Place.{Place}
use Rattle.store.specs.declared.place.Place.TheVariants as at

-- a row that is the first of some
first_of : (found : List Row) (digest : List ℕ) → first_named found ≡ Some digest
    → (row : Row) × Has found row × (unwrap_or (bytes_in (column row 2)) [] ≡ digest)
first_of [] digest is = absurd (cc)
first_of (row ∷ found) digest is =
    (row, inl refl, ap (λ (o : Option (List ℕ)). unwrap_or o []) is)

named_row : (name : List ℕ) (rows : List Row) → AllByRecursion IsEntry rows → (digest : List ℕ)
    → first_named (filter (λ row. is_text name (column row 1)) rows) ≡ Some digest
    → (row : Row) × Has rows row × (is_text name (column row 1) ≡ true) × (column row 2 ≡ Blob digest)
named_row name rows all digest is =
    let first = first_of (filter (λ row. is_text name (column row 1)) rows) digest is in
    let here = has_filtered (λ row. is_text name (column row 1)) rows first.0 first.1 in
    let has = all_has IsEntry rows first.0 all here.0 in
    let same : has.digest ≡ digest = sym (ap (λ v. unwrap_or (bytes_in v) []) has.known) ∙ first.2 in
    (first.0, here.0, here.1, has.known ∙ ap Blob same)

-- a row that is among some is the only one where they are few
only_of_few : (rows : List Row) (a : Row) → length rows ≤ 1 → Has rows a → rows ≡ a ∷ []
only_of_few [] a few here = absurd here
only_of_few (row ∷ []) a few (inl is) = ap (λ (r : Row). r ∷ []) (sym is)
only_of_few (row ∷ []) a few (inr none) = absurd none
only_of_few (row ∷ other ∷ rows) a few here = absurd (omega arith)

some_row : (rows : List Row) → rows ≢ [] → (row : Row) × Has rows row
some_row [] some = absurd (some refl)
some_row (row ∷ rows) some = (row, inl refl)

same_bytes : (v : Value) (digest : List ℕ) → is_blob digest v ≡ true → v ≡ Blob digest
same_bytes (Blob bytes) digest is = ap Blob ((bytes_eq-Decides bytes digest).0 is)
same_bytes v digest is = absurd (cc)

no_row : (digest : List ℕ) (trees : Trees) → with_digest digest trees ≡ []
    → tenants_in trees digest ≡ None
unfolding number_of
no_row digest trees none =
    ap (λ rows. option_map (λ number. machine_of number trees) (first_number rows)) none

-- a row that has a digest is that of its name
name_of : (rows : List Row) (digest : List ℕ) (row : Row) → IsEntry row → Has rows row
    → column row 2 ≡ Blob digest
    → ((name : List ℕ) → length (filter (λ row. is_text name (column row 1)) rows) ≤ 1)
    → (name : List ℕ)
    × (first_named (filter (λ row. is_text name (column row 1)) rows) ≡ Some digest)
name_of rows digest row is here known few =
    let among = has_kept (λ row. is_text is.name (column row 1)) rows row here
    (ap (is_text is.name) is.named ∙ (bytes_eq-Decides is.name is.name).1 refl) in (
      is.name,
      ap first_named (only_of_few _ row (few is.name) among)
          ∙ ap (λ v. Some (unwrap_or (bytes_in v) [])) known,
    )

same_of_few : (rows : List Row) (a b : Row) → length rows ≤ 1 → Has rows a → Has rows b → a ≡ b
same_of_few rows a b few here there =
    let same = sym (only_of_few rows a few here) ∙ only_of_few rows b few there in cc

same_text : (v : Value) (a b : List ℕ) → is_text a v ≡ true → is_text b v ≡ true → b ≡ a
same_text (Text text) a b is also =
    sym ((bytes_eq-Decides text b).0 also) ∙ (bytes_eq-Decides text a).0 is
same_text v a b is also = absurd (cc)

-- so it is in a database that holds ledgers
pub are_named : (db : Database) → HoldsLedgers db → AreNamed (names_in db.trees) (tenants_in db.trees)
are_named db ledgers =
    let all = ledgers.entries in
    record {
      there = λ name digest is.
          let row = named_row name (directory_rows db.trees) all digest is in
          held digest db ledgers (λ none.
          subst (λ rows. Has rows row.0) none
          (with_it digest row.0 row.1 row.3));
      all = λ digest there.
          let row = some_row (with_digest digest db.trees)
          (λ none. there (no_row digest db.trees none)) in
          let here = has_filtered (λ row. is_blob digest (column row 2)) (directory_rows db.trees)
          row.0 row.1 in
          name_of (directory_rows db.trees) digest row.0
          (all_has IsEntry (directory_rows db.trees) row.0 all here.0) here.0
          (same_bytes (column row.0 2) digest here.1) ledgers.distinct.names;
      one = λ name other digest is also.
          let row = named_row name (directory_rows db.trees) all digest is in
          let row' = named_row other (directory_rows db.trees) all digest also in
          let same = same_of_few (with_digest digest db.trees) row.0 row'.0 (ledgers.distinct.digests digest)
          (with_it digest row.0 row.1 row.3) (with_it digest row'.0 row'.1 row'.3) in
          same_text (column row'.0 1) name other
          (subst (λ (r : Row). is_text name (column r 1) ≡ true) same row.2) row'.2;
    }
  where
    with_it : (digest : List ℕ) (row : Row) → Has (directory_rows db.trees) row
        → column row 2 ≡ Blob digest → Has (with_digest digest db.trees) row
    with_it digest row here is =
        has_kept (λ row. is_blob digest (column row 2)) (directory_rows db.trees) row here
        (ap (is_blob digest) is ∙ (bytes_eq-Decides digest digest).1 refl)

-- so it is in an open store
pub named_at : {D : Type 0} {g : disk.Ghosts D} (ready : Bool) (sets : DueSets) (place : Place D g)
    → IsUsableAt ready sets place → IsLiveAt place → AreNamed (names_at place) (tenants_at place)
named_at ready sets (at.Open tables) usable live =
    are_named (open_state tables).now (usable.0 live).ledgers
named_at ready sets (at.Shut files) usable live = absurd live
