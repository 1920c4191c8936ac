-- A database that was examined holds ledgers.
use Rattle.std.proofs.Common.{◌≡◌, ℕ, zero, suc, inl, inr, ℤ, List, [], ◌∷◌, Some, refl, sym, ap, subst, ◌∙◌}
use Rattle.std.specs.List.{AllByRecursion, AllZip}
use Rattle.std.proofs.lemmas.List.Elements.{recursion_from_All}
use Rattle.std.specs.Prelude.{map, slice_get, string_bytes}
use Rattle.std.proofs.lemmas.List.Sorted.{IsPermutation-sym}
use Rattle.records.specs.Machine.{Machine}
use Rattle.records.specs.Valid.{IsValid}
use Rattle.rows.specs.declared.all_rows.DirectoryRow.{DirectoryRow}
use Rattle.rows.specs.declared.all_rows.TenantOfDigest.{TenantOfDigest}
use Rattle.rows.specs.Prescribed.{rows_for}
use Rattle.rows.specs.TypedRows.{FileRows, lists_of}
use Rattle.rows.specs.Widths.{AreStorable}
use Rattle.audit.specs.Sound.{AreSound}
use Rattle.sqlite_rules.specs.Lists.{Has}
use Rattle.sqlite_rules.proofs.ListLemmas.{all_from}
use Rattle.sqlite_catalog.specs.Listing.{IsSound}
use Rattle.sqlite_trees.specs.Tree.{Trees}
use Rattle.sqlite_trees.proofs.ListLemmas.{all-permutation}
use Rattle.sqlite.specs.Effect.{Database}
use Rattle.ledger_sql.specs.TableRows.{directory_rows}
use Rattle.ledger_sql.specs.Values.{directory_values}
use Rattle.stored_tables.specs.Holds.{HoldsMachine}
use Rattle.stored_tables.specs.MachineOf.{machine_of}
use Rattle.stored_ledgers.specs.Directory.{IsEntry, number_of}
use Rattle.stored_ledgers.specs.DueSets.{DueSets, CoversMachine, AreCovered}
use Rattle.openings.specs.Found.{HasOrderedTables}
use Rattle.stored_ledgers.specs.Ledger.{HoldsLedgers}
use Rattle.openings.specs.Opened.{IsKeptIn, IsExamined}
use Rattle.openings.specs.Whole.{IsReadFor}
use Rattle.openings.specs.Tables.{AreTenantRows}
use Rattle.openings.proofs.HeldMachines.{machine_held, machine_covered, of_tenant}
use Rattle.openings.proofs.RuledRows.{are_numbered, are_distinct, no_rows_of}

-- the element of the second list at a place that the first has
same_place : {X Y : Type 0} (R : X → Y → Type 0) (xs : List X) (ys : List Y) (k : ℕ) (x : X)
    → AllZip R xs ys → slice_get xs k ≡ Some x → (y : Y) × (slice_get ys k ≡ Some y) × R x y
same_place R [] [] k x those is = absurd (cc)
same_place R [] (y ∷ ys) k x those is = absurd those
same_place R (z ∷ xs) [] k x those is = absurd those
same_place R (z ∷ xs) (y ∷ ys) zero x those is =
    let here : z ≡ x = cc in (y, refl, subst (λ w. R w y) here those.0)
same_place R (z ∷ xs) (y ∷ ys) (suc k) x those is = same_place R xs ys k x those.1 is

-- what holds of each element does so at a place
at_place : {X : Type 0} (P : X → Type 0) (xs : List X) (k : ℕ) (x : X) → AllByRecursion P xs
    → slice_get xs k ≡ Some x → P x
at_place P [] k x each is = absurd (cc)
at_place P (y ∷ xs) zero x each is =
    let here : y ≡ x = cc in subst P here each.0
at_place P (y ∷ xs) (suc k) x each is = at_place P xs k x each.1 is

place_of : {X : Type 0} (xs : List X) (x : X) → Has xs x → (k : ℕ) × (slice_get xs k ≡ Some x)
place_of [] x here = absurd here
place_of (y ∷ xs) x (inl same) = (0, ap Some (sym same))
place_of (y ∷ xs) x (inr later) = let rest = place_of xs x later in (suc rest.0, rest.1)

-- the rows of every valid machine fit a file
abbrev pub RowsFit : Type 0
RowsFit = (version : ℕ) (m : Machine) → IsValid m → AreStorable (rows_for version m)

-- a tenant's machine is the one that its rows tell
abbrev pub RowsTell : Type 0
RowsTell =
    (tenant : ℤ) (m : Machine) (trees : Trees) → HoldsMachine tenant m trees → machine_of tenant trees ≡ m

module _ (sets : DueSets) (db : Database) (sound : IsSound db.schema db.trees) (ordered : HasOrderedTables db)
    (examined : IsExamined sets db) (fit : RowsFit) (tell : RowsTell) where
  abbrev Kept : ℤ → Type 0
  Kept = IsKeptIn sets examined.all.directory.items examined.all.tenants.items

  kept_at : (digest : List ℕ) (number : ℤ) → number_of digest db.trees ≡ Some number → Kept number
  kept_at =
      of_tenant db.trees examined.all examined.read Kept
      (all_from (λ (row : DirectoryRow). Kept row.number) examined.all.directory.items
      (λ row here.
      let place = place_of examined.all.directory.items row here in
      let tenant = same_place (IsReadFor 3 db.trees) examined.all.directory.items examined.all.tenants.items place.0
      row examined.read.tenants place.1 in
      examined.kept place.0 row tenant.0 place.1 tenant.1))

  module _ (number : ℤ) (kept : Kept number) where
    abbrev own : FileRows
    own = lists_of kept.tenant.rows

    own_read : AreTenantRows 3 number db.trees own
    own_read =
        let tenant = same_place (IsReadFor 3 db.trees) examined.all.directory.items examined.all.tenants.items
        kept.place kept.row examined.read.tenants kept.row_is in
        let same : tenant.0 ≡ kept.tenant = some_same _ _ (sym tenant.1 ∙ kept.tenant_is) in
        subst (λ n. AreTenantRows 3 n db.trees own) kept.numbered
        (subst (λ (t : TenantOfDigest). AreTenantRows 3 kept.row.number db.trees (lists_of t.rows)) same tenant.2.rows)
      where
        some_same : (a b : TenantOfDigest) → Some a ≡ Some b → a ≡ b
        some_same a b e = cc

    own_sound : AreSound 3 own
    own_sound =
        at_place (λ (t : TenantOfDigest). AreSound 3 (lists_of t.rows)) examined.all.tenants.items kept.place kept.tenant
        (recursion_from_All (λ (t : TenantOfDigest). AreSound 3 (lists_of t.rows)) _ examined.sound) kept.tenant_is

    own_held : HoldsMachine number own_sound.0 db.trees
    own_held = machine_held number db.trees own own_read own_sound

  -- each row of the directory was read as a tenant's
  are_entries : AllByRecursion IsEntry (directory_rows db.trees)
  are_entries =
      all-permutation IsEntry _ _ (IsPermutation-sym _ _ examined.read.directory.all) (made examined.all.directory.items)
    where
      made : (rows : List DirectoryRow)
          → AllByRecursion IsEntry (map (λ row. directory_values row.number (string_bytes row.name) row.digest) rows)
      made [] = tt
      made (row ∷ rows) = (
        record { name = string_bytes row.name; named = refl; digest = row.digest; known = refl },
        made rows,
      )

  -- the database holds ledgers
  pub examined_holds : HoldsLedgers db
  examined_holds = record {
    schema = examined.ledger;
    version = examined.version;
    numbered = are_numbered db.schema db.trees examined.ledger sound ordered;
    entries = are_entries;
    distinct = are_distinct db.schema db.trees examined.ledger sound ordered;
    machines = λ digest number is.
        let held = own_held number (kept_at digest number is) in
        subst (λ m. HoldsMachine number m db.trees) (sym (tell number _ db.trees held)) held;
    owned = no_rows_of db.schema db.trees examined.ledger sound ordered;
  }

  -- which the sets cover
  pub examined_covered : AreCovered sets db.trees
  examined_covered digest number is =
      let kept = kept_at digest number is in
      let rows = own_sound number kept in
      let covers = machine_covered number db.trees (own number kept) (own_read number kept) rows kept.set
      (fit 3 rows.0 rows.1) kept.covers in
      (kept.set, kept.found, subst (CoversMachine kept.set) (sym (tell number rows.0 db.trees (own_held number kept))) covers)
