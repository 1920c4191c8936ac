-- Rows whose rowids rise, and keys that tell them apart.
use Rattle.std.proofs.Common.{◌≡◌, ◌≤◌, ◌&&◌, ◌||◌, ℕ, ℤ, Bool, true, false, cond, IsTrue, List, [], ◌∷◌, map, filter, length, refl, sym, ap, subst, arith, inl, inr, Ordering, Less, Equal, Greater}
use Rattle.std.specs.Ordering.{is_eq, is_ne}
use Rattle.std.specs.Prelude.{unwrap_or, Some}
use Rattle.std.proofs.lemmas.Bool.{cases_Bool}
use Rattle.std.proofs.lemmas.Bool.Decides.{Decides-int_eq}
use Rattle.std.proofs.lemmas.Cmp.{tied_itself, tied_back}
use Rattle.sqlite_value.specs.declared.value.Value.{Value}
use Rattle.sqlite_value.specs.declared.value.Value.TheVariants.{Null, Int, Real}
use Rattle.sqlite_value.specs.declared.keys.Collation.TheVariants.{Binary}
use Rattle.sqlite_value.specs.Order.{Row, column, value_cmp}
use Rattle.sqlite_value.specs.Keys.{plain, first_key}
use Rattle.sqlite_value.proofs.OrderLemmas.{value_cmp_total}
use Rattle.sqlite_sql.specs.Ops.{binary, truth, from_truth, is_null}
use Rattle.sqlite_trees.specs.Tree.{rowid, IsAscending, IsTable}
use Rattle.sqlite_trees.specs.View.{is_int as is_whole}
use Rattle.sqlite_trees.proofs.ListLemmas.{all_weaker, filter_none, filter-map}
use Rattle.sqlite_schema.specs.Rules.{equal, differ, agree, clashes}
use Rattle.sqlite_rules.specs.Lists.{Has}
use Rattle.sqlite_rules.proofs.ListLemmas.{all_has, all_from, some_from}
use Rattle.ledger_sql.specs.Rowids.{IsNumbered}
use Rattle.ledger_sql.specs.TableRows.{is_int}

-- where of no two rows in order both pass, at most one passes
pub few_pass : (p : Row → Bool) (rows : List Row) → IsAscending (λ a b. p a ≡ true → p b ≡ true → ⊥) rows
    → length (filter p rows) ≤ 1
few_pass p [] up = omega arith
few_pass p (row ∷ rows) up =
    elim (p row) as (λ b. p row ≡ b → length (cond b (row ∷ filter p rows) (filter p rows)) ≤ 1) [
      | true ↦ λ here.
          let none = filter_none p rows (all_weaker (λ b. p row ≡ true → p b ≡ true → ⊥) (λ b. p b ≡ false)
          (λ b not_both. fails b (not_both here)) rows up.0) in
          omega (arith, ap length none)
      | false ↦ λ no_match. few_pass p rows up.1
    ] refl
  where
    fails : (b : Row) → (p b ≡ true → ⊥) → p b ≡ false
    fails b never = elim (cases_Bool (p b)) [ inl passes ↦ absurd (never passes) | inr other ↦ other ]

-- so it is of what is made of each row
pub few_mapped : (p : Row → Bool) (f : Row → Row) (rows : List Row)
    → length (filter (λ row. p (f row)) rows) ≤ 1 → length (filter p (map f rows)) ≤ 1
few_mapped p f rows few =
    subst (λ found. length found ≤ 1) (sym (filter-map p f rows)) (as_long (filter (λ row. p (f row)) rows) few)
  where
    as_long : (found : List Row) → length found ≤ 1 → length (map f found) ≤ 1
    as_long [] few = few
    as_long (row ∷ []) few = few
    as_long (row ∷ other ∷ found) few = absurd (omega arith)

-- a relation of rows in order that membership strengthens
pub ascending_has : (R S : Row → Row → Type 0) (rows : List Row)
    → ((a b : Row) → Has rows a → Has rows b → R a b → S a b) → IsAscending R rows → IsAscending S rows
ascending_has R S [] so up = tt
ascending_has R S (row ∷ rows) so up = (
  all_from (S row) rows (λ other h. so row other (inl refl) (inr h) (all_has (R row) rows other up.0 h)),
  ascending_has R S rows (λ a b here there. so a b (inr here) (inr there)) up.1,
)

equal_is : (o : Ordering) → is_eq o ≡ true → o ≡ Equal
equal_is Less is = absurd (cc)
equal_is Equal is = refl
equal_is Greater is = absurd (cc)

-- a value that equals a whole number
pub int_tied : (number : ℤ) (v : Value) → is_int number v ≡ true → value_cmp v (Int number) ≡ Equal
int_tied number (Int m) is =
    subst (λ n. value_cmp (Int m) (Int n) ≡ Equal) ((Decides-int_eq m number).0 is)
    (tied_itself value_cmp_total (Int m))
int_tied number (Real x) is = equal_is _ is
int_tied number v is = absurd (cc)

-- two values that equal a third
pub tied_apart : (a b c : Value) → value_cmp a b ≡ Less → value_cmp a c ≡ Equal → value_cmp b c ≡ Equal → ⊥
tied_apart a b c below first second =
    let moved = value_cmp_total.congr a c b first in
    let back = tied_back value_cmp_total b c second in cc

-- at most one row has this number
pub few_numbered : (number : ℤ) (rows : List Row) → IsTable rows
    → length (filter (λ row. is_int number (column row 0)) rows) ≤ 1
few_numbered number rows rise =
    few_pass (λ row. is_int number (column row 0)) rows
    (ascending_has (λ a b. value_cmp (rowid a) (rowid b) ≡ Less)
    (λ a b. is_int number (column a 0) ≡ true → is_int number (column b 0) ≡ true → ⊥) rows
    (λ a b here there below is_a is_b. tied_apart (rowid a) (rowid b) (Int number) below
    (int_tied number (rowid a) is_a) (int_tied number (rowid b) is_b)) rise)

-- what SQL holds equal is so in the order of values
pub equal_tied : (a b : Value) → equal Binary a b ≡ true → value_cmp a b ≡ Equal
unfolding binary
equal_tied a b is = go (is_null a || is_null b) (value_cmp a b) refl is
  where
    go : (none : Bool) (o : Ordering) → value_cmp a b ≡ o
        → unwrap_or (truth (cond none Null (from_truth (Some (is_eq o))))) false ≡ true → value_cmp a b ≡ Equal
    go true o same is = absurd (cc)
    go false Less same is = absurd (cc)
    go false Equal same is = same
    go false Greater same is = absurd (cc)

-- and a value that is not NULL equals itself
equal_itself : (a : Value) → is_null a ≡ false → equal Binary a a ≡ true
unfolding binary
equal_itself a some =
    subst (λ none. unwrap_or (truth (cond (none || none) Null (from_truth (Some (is_eq (value_cmp a a)))))) false ≡ true)
    (sym some)
    (subst (λ o. unwrap_or (truth (from_truth (Some (is_eq o)))) false ≡ true) (sym (tied_itself value_cmp_total a)) refl)

-- rowids that rise differ
pub rising_differ : (a b : Value) → IsTrue (is_whole a) → IsTrue (is_whole b) → value_cmp a b ≡ Less
    → differ a b ≡ true
unfolding binary
rising_differ (Int m) (Int n) whole_a whole_b below =
    subst (λ o. unwrap_or (truth (from_truth (Some (is_ne o)))) false ≡ true) (sym below) refl
rising_differ a b whole_a whole_b below = absurd (cc)

-- at most one row has this key, which no two rows share
pub few_keyed : (p : Value → Bool) (key : Value) → is_null key ≡ false → ((v : Value) → p v ≡ true → v ≡ key)
    → (place : ℕ) (rows : List Row) → IsNumbered rows
    → ((row : Row) → Has rows row → clashes plain (place ∷ []) rows row ≡ false)
    → length (filter (λ row. p (column row place)) rows) ≤ 1
unfolding first_key
few_keyed p key some is_key place rows numbered apart =
    few_pass (λ row. p (column row place)) rows
    (ascending_has (λ a b. value_cmp (rowid a) (rowid b) ≡ Less)
    (λ a b. p (column a place) ≡ true → p (column b place) ≡ true → ⊥) rows
    (λ a b here there below is_a is_b. absurd (
    let whole_a = all_has (λ r. IsTrue (is_whole (rowid r))) rows a numbered.whole here in
    let whole_b = all_has (λ r. IsTrue (is_whole (rowid r))) rows b numbered.whole there in
    let alike : equal Binary (column a place) (column b place) ≡ true =
    rw (is_key _ is_a, is_key _ is_b) (equal_itself key some) in
    let differs = rising_differ (rowid a) (rowid b) whole_a whole_b below in
    let both : (agree plain (place ∷ []) a (place ∷ []) b && differ (rowid a) (rowid b)) ≡ true
    = both_true _ _ alike differs in
    let clash = some_from (λ other. agree plain (place ∷ []) other (place ∷ []) b && differ (rowid other) (rowid b))
    rows a here both in
    let never = apart b there in cc)) numbered.rise)
  where
    both_true : (x y : Bool) → x ≡ true → y ≡ true → ((x && true) && y) ≡ true
    both_true x y e f = rw (e, f) refl
