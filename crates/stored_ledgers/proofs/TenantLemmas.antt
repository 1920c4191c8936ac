-- How the tenants of a database are found.
use Rattle.std.proofs.Common.{◌≡◌, ◌≢◌, ℕ, ◌≤◌, ℤ, inl, inr, Bool, true, false, cond, Option, Some, None, is_some, option_map, List, [], ◌∷◌, filter, length, refl, sym, ap, subst, ◌∙◌, arith}
use Rattle.std.proofs.lemmas.Bool.Decides.{Decides-int_eq}
use Rattle.std.proofs.lemmas.Slice.Eq.{bytes_eq-Decides}
use Rattle.std.proofs.lemmas.List.Elements.{All-cons, All-nil}
use Rattle.std.proofs.lemmas.List.Sorted.{length_permutation, All-permutation}
use Rattle.sqlite_value.specs.declared.value.Value.{Value}
use Rattle.sqlite_value.specs.declared.value.Value.TheVariants.{Int, Blob}
use Rattle.sqlite_value.specs.Order.{Row, column}
use Rattle.sqlite_trees.specs.Tree.{Trees}
use Rattle.std.specs.String.{string_bytes}
use Rattle.rows.specs.declared.all_rows.DirectoryRow.{DirectoryRow}
use Rattle.ledger_sql.specs.Values.{directory_values}
use Rattle.stored_tables.specs.MachineOf.{machine_of}
use Rattle.ledger_sql.specs.Effects.{Picks}
use Rattle.ledger_sql.specs.TableRows.{directory_rows, is_int, is_blob}
use Rattle.stored_ledgers.specs.Directory.{with_number, with_name, first_digest, number_of, digest_in, tenants_in}
use Rattle.stored_ledgers.specs.DirectoryLaws.{Among, found_row, same_among}

-- of at most one row a query picks that one
pub only_picked : (rows : List Row) (row : Row) → length rows ≤ 1 → Picks rows (Some row)
    → rows ≡ row ∷ []
only_picked [] row few picks = absurd (omega (arith, length_permutation _ _ picks.1))
only_picked (other ∷ []) row few picks =
    let all = All-permutation (λ y. y ≡ other) _ _ picks.1
    (All-cons (λ y. y ≡ other) other [] refl (All-nil (λ y. y ≡ other))) in
    let same : row ≡ other = all 0 [] (omega arith) in
    ap (λ r. r ∷ []) (sym same)
only_picked (other ∷ another ∷ rows) row few picks = absurd (omega arith)

-- a tenant's digest is found by its name
pub found_digest : (name : List ℕ) (trees : Trees) (found : Option DirectoryRow)
    → length (with_name name trees) ≤ 1
    → Picks (with_name name trees) (option_map (λ row. directory_values row.number
    (string_bytes row.name) row.digest) found)
    → option_map (λ row. row.digest) found ≡ digest_in name trees
unfolding digest_in
found_digest name trees None few picks = sym (ap first_digest picks)
found_digest name trees (Some row) few picks = sym (ap first_digest (only_picked _ _ few picks))

-- whether there is such a tenant
pub found_tenant : (digest : List ℕ) (trees : Trees) (found : Option ℤ)
    → number_of digest trees ≡ found → is_some found ≡ is_some (tenants_in trees digest)
found_tenant digest trees found is =
    same_some (number_of digest trees) (ap is_some (sym is))
  where
    same_some : (o : Option ℤ) → is_some found ≡ is_some o
        → is_some found ≡ is_some (option_map (λ n. machine_of n trees) o)
    same_some None e = e
    same_some (Some n) e = e

-- what is found of a row
pub digest_found : (name : List ℕ) (trees : Trees) (found : Option DirectoryRow)
    (digest : Option (List ℕ)) → length (with_name name trees) ≤ 1
    → Picks (with_name name trees) (option_map (λ row. directory_values row.number
    (string_bytes row.name) row.digest) found)
    → digest ≡ option_map (λ row. row.digest) found → digest ≡ digest_in name trees
digest_found name trees found digest few picks is = is ∙ found_digest name trees found few picks

pub among_filter : (p : Row → Bool) (rows : List Row) (row : Row) → Among row rows → p row ≡ true
    → Among row (filter p rows)
among_filter p [] row is passes = absurd is
among_filter p (other ∷ rows) row (inl same) passes =
    let other_passes : p other ≡ true = ap p (sym same) ∙ passes in
    subst (λ b. Among row (cond b (other ∷ filter p rows) (filter p rows))) (sym other_passes) (inl same)
among_filter p (other ∷ rows) row (inr later) passes =
    let tail = among_filter p rows row later passes in
    elim (p other) as (λ b. Among row (cond b (other ∷ filter p rows) (filter p rows)))
    [ true ↦ inr tail | false ↦ tail ]

pub is_number : (value : Value) (number : ℤ) → value ≡ Int number → is_int number value ≡ true
is_number value number is = ap (is_int number) is ∙ (Decides-int_eq number number).1 refl

blob_is : (value : Value) (a b : List ℕ) → is_blob a value ≡ true → is_blob b value ≡ true → a ≡ b
blob_is (Blob bytes) a b is_a is_b =
    sym ((bytes_eq-Decides bytes a).0 is_a) ∙ (bytes_eq-Decides bytes b).0 is_b
blob_is value a b is_a is_b = absurd (cc)

-- no two digests have one number
pub one_digest : (a b : List ℕ) (number : ℤ) (trees : Trees)
    → length (with_number number trees) ≤ 1 → number_of a trees ≡ Some number
    → number_of b trees ≡ Some number → a ≡ b
one_digest a b number trees few is_a is_b =
    let row_a = found_row a number trees is_a in
    let row_b = found_row b number trees is_b in
    let rows = directory_rows trees in
    let numbered : Row → Bool = λ row. is_int number (column row 0) in
    let same : row_a.row ≡ row_b.row = same_among (filter numbered rows) _ _ few
    (among_filter numbered rows row_a.row row_a.among (is_number _ number row_a.has_number))
    (among_filter numbered rows row_b.row row_b.among (is_number _ number row_b.has_number)) in
    blob_is (column row_a.row 2) a b row_a.has_digest
    (ap (λ row. is_blob b (column row 2)) same ∙ row_b.has_digest)

-- a tenant that is found has a row of its number
pub has_row : (digest : List ℕ) (number : ℤ) (trees : Trees) → number_of digest trees ≡ Some number
    → with_number number trees ≢ []
has_row digest number trees is none =
    let row = found_row digest number trees is in
    let numbered : Row → Bool = λ row. is_int number (column row 0) in
    subst (Among row.row) none
    (among_filter numbered (directory_rows trees) row.row row.among (is_number _ number row.has_number))
