-- Values that SQL holds equal, and rows that agree in a key.
use Rattle.std.proofs.Common.{◌≡◌, ◌&&◌, ◌||◌, ℕ, ℤ, Bool, true, false, not, cond, List, Some, unwrap_or, refl, sym, ap, subst, ◌∙◌}
use Rattle.std.specs.declared.cmp.Ordering.{Ordering}
use Rattle.std.specs.declared.cmp.Ordering.TheVariants.{Less, Equal, Greater}
use Rattle.std.specs.List.{list_any}
use Rattle.std.specs.Ordering.{is_eq, is_ne}
use Rattle.std.proofs.lemmas.Bool.{and_parts, false_from_ne_true}
use Rattle.std.proofs.lemmas.Bool.Decides.{Decides-int_eq}
use Rattle.std.proofs.lemmas.Cmp.{tied_itself}
use Rattle.std.proofs.lemmas.Map.Text.{is_eq-slice_cmp}
use Rattle.std.proofs.lemmas.Slice.Eq.{bytes_eq-Decides}
use Rattle.sqlite_value.specs.declared.value.Value.{Value}
use Rattle.sqlite_value.specs.declared.value.Value.TheVariants.{Null, Int, Text, Blob}
use Rattle.sqlite_value.specs.declared.keys.Collation.TheVariants.{Binary}
use Rattle.sqlite_value.specs.Keys.{plain}
use Rattle.sqlite_value.specs.Order.{Row, value_cmp}
use Rattle.sqlite_value.proofs.OrderLemmas.{value_cmp_total, value_cmp-Int, value_cmp-Text, value_cmp-Blob}
use Rattle.sqlite_sql.specs.Ops.{binary, from_truth, is_null, truth}
use Rattle.sqlite_trees.specs.Tree.{rowid}
use Rattle.sqlite_schema.specs.Rules.{agree, clashes, differ, equal}
use Rattle.sqlite_rules.specs.Lists.{Has}
use Rattle.sqlite_rules.proofs.ListLemmas.{some_has}

-- no value differs from itself
differs_not : (v : Value) → differ v v ≡ true → ⊥
unfolding binary
differs_not v = go (is_null v || is_null v) (value_cmp v v) (tied_itself value_cmp_total v)
  where
    go : (none : Bool) (o : Ordering) → o ≡ Equal
        → unwrap_or (truth (cond none Null (from_truth (Some (is_ne o))))) false ≡ true → ⊥
    go true o tied is = absurd (cc)
    go false Less tied is = absurd (cc)
    go false Equal tied is = absurd (cc)
    go false Greater tied is = absurd (cc)

-- what SQL holds equal is so in the order of values
equal_tied : (a b : Value) → equal Binary a b ≡ true → value_cmp a b ≡ Equal
unfolding binary
equal_tied a b is = go (is_null a || is_null b) (value_cmp a b) refl is
  where
    go : (none : Bool) (o : Ordering) → value_cmp a b ≡ o
        → unwrap_or (truth (cond none Null (from_truth (Some (is_eq o))))) false ≡ true → value_cmp a b ≡ Equal
    go true o same is = absurd (cc)
    go false Less same is = absurd (cc)
    go false Equal same is = same
    go false Greater same is = absurd (cc)

pub same_ints : (m n : ℤ) → equal Binary (Int m) (Int n) ≡ true → m ≡ n
same_ints m n is = (Decides-int_eq m n).0 (sym (ap is_eq (value_cmp-Int m n)) ∙ ap is_eq (equal_tied (Int m) (Int n) is))

pub same_texts : (s t : List ℕ) → equal Binary (Text s) (Text t) ≡ true → s ≡ t
same_texts s t is =
    (bytes_eq-Decides s t).0
    (sym (is_eq-slice_cmp s t) ∙ sym (ap is_eq (value_cmp-Text s t)) ∙ ap is_eq (equal_tied (Text s) (Text t) is))

pub same_blobs : (s t : List ℕ) → equal Binary (Blob s) (Blob t) ≡ true → s ≡ t
same_blobs s t is =
    (bytes_eq-Decides s t).0
    (sym (is_eq-slice_cmp s t) ∙ sym (ap is_eq (value_cmp-Blob s t)) ∙ ap is_eq (equal_tied (Blob s) (Blob t) is))

-- a whole number equals itself
pub number_equals : (n : ℤ) → equal Binary (Int n) (Int n) ≡ true
unfolding binary
number_equals n =
    subst (λ o. unwrap_or (truth (cond false Null (from_truth (Some (is_eq o))))) false ≡ true)
    (sym (tied_itself value_cmp_total (Int n))) refl

-- of the rows that agree in these columns there is one
abbrev pub IsKeyOf : List Row → List ℕ → Type 0
IsKeyOf rows places = (x y : Row) → Has rows x → Has rows y → agree plain places y places x ≡ true → y ≡ x

-- so no two clash
pub no_clash : (rows : List Row) (places : List ℕ) → IsKeyOf rows places
    → not (list_any (clashes plain places rows) rows) ≡ true
no_clash rows places key =
    ap not (false_from_ne_true _ (λ clash.
    let row = some_has (clashes plain places rows) rows clash in
    let other = some_has (λ other. agree plain places other places row.0 && differ (rowid other) (rowid row.0)) rows row.2 in
    let parts = and_parts (agree plain places other.0 places row.0) (differ (rowid other.0) (rowid row.0)) other.2 in
    differs_not (rowid row.0)
    (subst (λ x. differ (rowid x) (rowid row.0) ≡ true) (key row.0 other.0 row.1 other.1 parts.0) parts.1)))
