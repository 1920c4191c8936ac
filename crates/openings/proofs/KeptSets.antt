-- Sets that keep what is due, made tenant by tenant.
use Rattle.std.proofs.Common.{◌≡◌, ◌⊎◌, inl, inr, All, ℕ, ◌+◌, ◌<◌, ℤ, false, Some, List, [], ◌∷◌, zero, suc, length, min, get_or, sym, ap, ◌∙◌, arith}
use Rattle.std.specs.BTreeMap.{get}
use Rattle.std.specs.Ordering.{int_cmp, is_eq}
use Rattle.std.specs.Prelude.{slice_get}
use Rattle.rows.specs.declared.all_rows.DirectoryRow.{DirectoryRow}
use Rattle.rows.specs.declared.all_rows.TenantOfDigest.{TenantOfDigest}
use Rattle.stored_ledgers.specs.DueSets.{DueSet, DueSets}
use Rattle.openings.specs.Opened.{AreKept, CoversCells, IsKeptIn}
use Rattle.stored_ledgers.specs.DueSetLaws.{same_number, other_key}

-- the first rows of the directory have sets that cover their tenants' rows
abbrev pub AreKeptTo : ℕ → DueSets → List DirectoryRow → List TenantOfDigest → Type 0
AreKeptTo many sets directory tenants =
    (place : ℕ) (row : DirectoryRow) (tenant : TenantOfDigest) → place < many
    → slice_get directory place ≡ Some row → slice_get tenants place ≡ Some tenant
    → IsKeptIn sets directory tenants row.number

-- an element that is there is the one at its place
pub at_place : {X : Type 0} (xs : List X) (k : ℕ) (x : X) → k < length xs → x ≡ get_or xs k x → slice_get xs k ≡ Some x
at_place [] k x within is = absurd (omega arith)
at_place (y ∷ xs) zero x within is = ap Some (sym is)
at_place (y ∷ xs) (suc k) x within is = at_place xs k x (omega arith) is

-- and so has the next one, once its set was put in
pub kept_more : (many : ℕ) (sets sets' : DueSets) (directory : List DirectoryRow) (tenants : List TenantOfDigest) (row : DirectoryRow) (tenant : TenantOfDigest)
    (set : DueSet) → slice_get directory many ≡ Some row → slice_get tenants many ≡ Some tenant
    → All (CoversCells set) tenant.rows.statuses.items → get int_cmp sets' row.number ≡ Some set
    → ((n : ℤ) → is_eq (int_cmp row.number n) ≡ false → get int_cmp sets' n ≡ get int_cmp sets n)
    → AreKeptTo many sets directory tenants → AreKeptTo (many + 1) sets' directory tenants
kept_more many sets sets' directory tenants row tenant set row_is tenant_is covers found others before place other one below other_is one_is =
    elim (same_number other.number row.number) [
      | inl same ↦ record {
        set = set;
        found = ap (get int_cmp sets') same ∙ found;
        place = many;
        row = row;
        tenant = tenant;
        row_is = row_is;
        numbered = sym same;
        tenant_is = tenant_is;
        covers = covers;
      }
      | inr differs ↦
          let earlier : place < many = elim (last_or_before place many below) [
            | inl last ↦ absurd (differs (ap (λ (r : DirectoryRow). r.number)
                (some_same other row (sym other_is ∙ ap (slice_get directory) last ∙ row_is))))
            | inr before ↦ before
          ] in
          let kept = before place other one earlier other_is one_is in
          record {
            set = kept.set;
            found = others other.number (other_key row.number other.number differs) ∙ kept.found;
            place = kept.place;
            row = kept.row;
            tenant = kept.tenant;
            row_is = kept.row_is;
            numbered = kept.numbered;
            tenant_is = kept.tenant_is;
            covers = kept.covers;
          }
    ]
  where
    some_same : (a b : DirectoryRow) → Some a ≡ Some b → a ≡ b
    some_same a b e = cc

    last_or_before : (place many : ℕ) → place < many + 1 → (place ≡ many) ⊎ (place < many)
    last_or_before place many below = grind arith

-- a place that has an element is below the length
within : {X : Type 0} (xs : List X) (k : ℕ) (x : X) → slice_get xs k ≡ Some x → k < length xs
within [] k x is = absurd (cc)
within (y ∷ xs) zero x is = omega arith
within (y ∷ xs) (suc k) x is = let rest = within xs k x is in omega arith

-- so it is of all, once one of the lists has no more
pub kept_all : (many : ℕ) (sets : DueSets) (directory : List DirectoryRow) (tenants : List TenantOfDigest)
    → many ≡ min (length directory) (length tenants) → AreKeptTo many sets directory tenants
    → AreKept sets directory tenants
kept_all many sets directory tenants long kept place row tenant row_is tenant_is =
    let first = within directory place row row_is in
    let second = within tenants place tenant tenant_is in
    kept place row tenant (omega (arith, long, first, second)) row_is tenant_is
