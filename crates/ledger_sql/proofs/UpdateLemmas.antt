-- What an UPDATE of one row does, to whichever of our tables.
use Rattle.std.proofs.Common.{◌≡◌, ◌⊎◌, ℕ, inl, inr, List, [], ◌∷◌, ◌++◌, length, map, filter, find, slice_get, Bool, true, false, not, cond, ◌&&◌, ◌||◌, ◌==◌, Some, None, Option, Ok, refl, sym, ap, subst, ◌∙◌}
use Rattle.std.proofs.lemmas.Bool.{both_ways}
use Rattle.std.proofs.lemmas.Bool.Decides.{Decides-eqb}
use Rattle.std.specs.List.{AllByRecursion, list_any, list_all, flat_map, filter_map}
use Rattle.std.specs.List.Sorted.{IsPermutation}
use Rattle.sqlite_value.specs.declared.value.Value.TheVariants.{Null}
use Rattle.sqlite_value.specs.Order.{Row, column}
use Rattle.sqlite_trees.specs.Tree.{Trees}
use Rattle.sqlite_sql.specs.Term.{Term, col, eval_all, holds}
use Rattle.sqlite_schema.specs.declared.schema.Action.TheVariants.{NoAction}
use Rattle.sqlite_schema.specs.declared.schema.Reference.{Reference}
use Rattle.sqlite_schema.specs.declared.schema.Table.{Table}
use Rattle.sqlite_schema.specs.declared.schema.Schema.{Schema}
use Rattle.sqlite_schema.specs.declared.schema.Keys.TheVariants.{Enforced}
use Rattle.sqlite_schema.specs.declared.program.Program.{Program}
use Rattle.sqlite_schema.specs.Names.{same_name}
use Rattle.std.specs.Prelude.{option_map, option_and_then}
use Rattle.sqlite_value.specs.declared.keys.Order.{Order}
use Rattle.sqlite_schema.specs.Rules.{ParentKey, parent_key, key_in, key_places, declared_order}
use Rattle.sqlite_schema.specs.declared.command.Command.TheVariants.{Update}
use Rattle.sqlite_rules.specs.declared.error.Rowids.TheVariants.{Given}
use Rattle.sqlite_rules.specs.declared.action.Deed.{Deed}
use Rattle.sqlite_rules.specs.Edit.{Edit, edit_of, taken_by, Applies}
use Rattle.sqlite_rules.specs.Calls.{ids_of}
use Rattle.sqlite_rules.specs.Action.{works, work_by, work_for, deed_for, loses, pairs}
use Rattle.sqlite.specs.Listing.{understood}
use Rattle.sqlite.specs.Effect.{Database}
use Rattle.sqlite.specs.Does.{Tally}
use Rattle.sqlite.specs.Rows.{Written}
use Rattle.sqlite.specs.State.{State, Writes, Executes}
use Rattle.sqlite.proofs.Callers.{IsPlain, command_of, statement_of, runs_as, one_step, one_permutation}
use Rattle.ledger_sql.specs.Schema.{ledger_schema, balance_schema, table, to_tenant}
use Rattle.ledger_sql.specs.Effects.{IsLedger, is_stranger}
use Rattle.ledger_sql.proofs.RunLemmas.{went, same_value}
use Rattle.ledger_sql.proofs.InsertLemmas.{placed}
use Rattle.ledger_sql.proofs.AnswerLemmas.{plain_query, answered}

-- ---- a table that no key refers to

-- no reference of the tables sets anything off where a row of this tree changes
abbrev IsIdleRef : Schema → ℕ → Reference → Type 0
IsIdleRef schema tree ref = ((ref.on_delete ≡ NoAction) × (ref.on_update ≡ NoAction)) ⊎ ((key : ParentKey) → parent_key schema.tables ref ≡ Some key → (key.0 == tree) ≡ false)

module _ (schema : Schema) (tree : ℕ) (olds news : List Row) (child : Table) where
  no_work_by : (ref : Reference) (deed : Option Deed) (key : Option ParentKey) → ((k : ParentKey) → key ≡ Some k → (k.0 == tree) ≡ false) → work_by 0 tree (pairs olds news) child ref deed key ≡ None
  no_work_by ref None key apart = refl
  no_work_by ref (Some deed) None apart = refl
  no_work_by ref (Some deed) (Some key) apart =
      let e = apart key refl in
      ap (λ b. cond (b && list_any (loses key.2 key.1) (pairs olds news)) (Some (record { depth = 0; child = child; ref = ref; places = key.1; order = key.2; deed = deed; moves = pairs olds news })) None) e

  idle_work : (ref : Reference) → IsIdleRef schema tree ref → work_for schema Enforced 0 tree olds news child ref ≡ None
  idle_work ref (inl still) = at (length news == 0)
    where
      at : (b : Bool) → work_by 0 tree (pairs olds news) child ref (deed_for Enforced b ref) (parent_key schema.tables ref) ≡ None
      at true = rw still.0 refl
      at false = rw still.1 refl
  idle_work ref (inr apart) = no_work_by ref (deed_for Enforced (length news == 0) ref) (parent_key schema.tables ref) apart

  idle_works : (refs : List Reference) → AllByRecursion (IsIdleRef schema tree) refs → filter_map (work_for schema Enforced 0 tree olds news child) refs ≡ []
  idle_works [] idle = refl
  idle_works (ref ∷ refs) idle = rw (idle_work ref idle.0) (idle_works refs idle.1)

idle_tables : (schema : Schema) (tree : ℕ) (olds news : List Row) (tables : List Table) → AllByRecursion (λ t. AllByRecursion (IsIdleRef schema tree) t.references) tables
    → flat_map (λ child. filter_map (work_for schema Enforced 0 tree olds news child) child.references) tables ≡ []
idle_tables schema tree olds news [] idle = refl
idle_tables schema tree olds news (t ∷ tables) idle = rw (idle_works schema tree olds news t t.references idle.0) (idle_tables schema tree olds news tables idle.1)

-- ---- strangers' references

find_past : {A : Type 0} (p : A → Bool) (xs ys : List A) → list_any p xs ≡ false → find p (xs ++ ys) ≡ find p ys
find_past p [] ys none = refl
find_past p (x ∷ xs) ys none = at (p x) refl none (find_past p xs ys)
  where
    at : (b : Bool) → p x ≡ b → list_any p (x ∷ xs) ≡ false → (list_any p xs ≡ false → find p (xs ++ ys) ≡ find p ys) → find p (x ∷ (xs ++ ys)) ≡ find p ys
    at true is none later = absurd (let e = ap (λ b. b || list_any p xs) (sym is) ∙ none in cc)
    at false is none later = ap (λ b. cond b (Some x) (find p (xs ++ ys))) is ∙ later (ap (λ b. b || list_any p xs) (sym is) ∙ none)

found_holds : {A : Type 0} (p q : A → Bool) (xs : List A) (x : A) → list_all q xs ≡ true → find p xs ≡ Some x → q x ≡ true
found_holds p q [] x all found = absurd (let e = found in cc)
found_holds p q (y ∷ xs) x all found = at (p y) (q y) refl refl (found_holds p q xs x)
  where
    at : (b c : Bool) → p y ≡ b → q y ≡ c → (list_all q xs ≡ true → find p xs ≡ Some x → q x ≡ true) → q x ≡ true
    at b false is isq later = absurd (let e = ap (λ b. b && list_all q xs) (sym isq) ∙ all in cc)
    at true true is isq later = let same : y ≡ x = let e = ap (λ b. cond b (Some y) (find p xs)) (sym is) ∙ found in cc in ap q (sym same) ∙ isq
    at false true is isq later = later (ap (λ b. b && list_all q xs) (sym isq) ∙ all) (ap (λ b. cond b (Some y) (find p xs)) (sym is) ∙ found)

module _ (s : Schema) (h : IsLedger s) (tree : ℕ) (ours : list_any (λ t. t.tree == tree) ledger_schema.tables ≡ true) where
  abbrev names_ours : Reference → Bool
  names_ours ref = list_any (λ t. same_name t.name ref.parent) ledger_schema.tables

  not_is : (b : Bool) → not b ≡ true → b ≡ false
  not_is true e = absurd (cc)
  not_is false e = refl

  both_are : (a b : Bool) → (a && b) ≡ true → (a ≡ true) × (b ≡ true)
  both_are true b e = (refl, e)
  both_are false b e = absurd (cc)

  other_tree : (t : Table) → is_stranger t ≡ true → (t.tree == tree) ≡ false
  other_tree t strange = at (t.tree == tree) refl
    where
      at : (b : Bool) → (t.tree == tree) ≡ b → b ≡ false
      at false is = refl
      at true is =
          let same : t.tree ≡ tree = (Decides-eqb t.tree tree).0 is in
          let none = not_is _ (both_are _ _ strange).0 in
          absurd (both_ways _ (subst (λ n. list_any (λ o. o.tree == n) ledger_schema.tables ≡ false) same none) ours)

  key_tree : (t : Table) (o : Option (List ℕ)) (key : ParentKey) → option_and_then (key_in t) o ≡ Some key → key.0 ≡ t.tree
  key_tree t None key e = absurd (cc)
  key_tree t (Some places) key e = at (declared_order t places) e
    where
      at : (o : Option Order) → ◌≡◌ {A = Option ParentKey} (option_map (λ o. (t.tree, places, o)) o) (Some key) → key.0 ≡ t.tree
      at None e = absurd (cc)
      at (Some order) e = let is : (t.tree, places, order) ≡ key = cc in ap (λ (k : ParentKey). k.0) (sym is)

  found_tree : (ref : Reference) (o : Option Table) (key : ParentKey) → ((t : Table) → o ≡ Some t → (t.tree == tree) ≡ false)
      → ◌≡◌ {A = Option ParentKey} (option_and_then (λ t. option_and_then (key_in t) (key_places t ref.parent_columns)) o) (Some key) → (key.0 == tree) ≡ false
  found_tree ref None key apart e = absurd (cc)
  found_tree ref (Some t) key apart e = ap (λ n. n == tree) (key_tree t (key_places t ref.parent_columns) key e) ∙ apart t refl

  strange_ref : (ref : Reference) → names_ours ref ≡ false → IsIdleRef s tree ref
  strange_ref ref none =
      inr (λ key e. found_tree ref (find (λ t. same_name t.name ref.parent) s.tables) key
      (λ t found. other_tree t (found_holds (λ t. same_name t.name ref.parent) is_stranger h.more t h.strangers
      (sym (ap (find (λ t. same_name t.name ref.parent)) h.tables ∙ find_past (λ t. same_name t.name ref.parent) ledger_schema.tables h.more none) ∙ found))) e)

  strange_refs : (refs : List Reference) → list_all (λ ref. not (names_ours ref)) refs ≡ true → AllByRecursion (IsIdleRef s tree) refs
  strange_refs [] all = tt
  strange_refs (ref ∷ refs) all = let parts = both_are _ _ all in (strange_ref ref (not_is _ parts.0), strange_refs refs parts.1)

  strange_tables : (more : List Table) → list_all is_stranger more ≡ true → AllByRecursion (λ t. AllByRecursion (IsIdleRef s tree) t.references) more
  strange_tables [] all = tt
  strange_tables (t ∷ more) all = let parts = both_are _ _ all in (strange_refs t.references (both_are _ _ parts.0).1, strange_tables more parts.1)

  own_tables : AllByRecursion (λ t. AllByRecursion (IsIdleRef s tree) t.references) (ledger_schema.tables ++ h.more)
  own_tables =
      let still : (place : ℕ) → IsIdleRef s tree (to_tenant place) = λ place. inl (refl, refl) in
      (tt, (tt, ((still 0, tt), ((still 1, tt), ((still 1, tt), ((still 1, tt), ((still 1, tt), ((still 1, tt), ((still 1, tt), strange_tables h.more h.strangers)))))))))

  pub no_works : (olds news : List Row) → works s Enforced 0 tree olds news ≡ []
  no_works olds news = idle_tables s tree olds news s.tables (subst (λ ts. AllByRecursion (λ t. AllByRecursion (IsIdleRef s tree) t.references) ts) (sym h.tables) own_tables)

-- ---- a file of the balance schema, without strangers

pub no_older_works : (s : Schema) → s ≡ balance_schema → (olds news : List Row) → works s Enforced 0 0 olds news ≡ []
no_older_works s is olds news =
    subst (λ s. works s Enforced 0 0 olds news ≡ []) (sym is) (idle_tables balance_schema 0 olds news balance_schema.tables
    (tt, (tt, ((still 0, tt), ((still 1, tt), ((still 1, tt), ((still 1, tt), ((still 1, tt), ((still 1, tt), tt)))))))))
  where
    still : (place : ℕ) → IsIdleRef balance_schema 0 (to_tenant place)
    still place = inl (refl, refl)

-- ---- the statement

module _ (sql : List ℕ) (params : Row) (old new : State) (at tree : ℕ) (idle : (olds news : List Row) → works old.now.schema Enforced 0 tree olds news ≡ []) (t : Table)
    (listed : slice_get old.now.schema.tables at ≡ Some (placed tree (table t.name t.columns t.key t.primary t.uniques t.checks t.references))) (terms set : List Term)
    (is : command_of (understood old.now.schema sql) ≡ Update at (record { lets = []; body = plain_query tree terms (col 1 0 ∷ col 1 0 ∷ set) [] })) (plain : IsPlain (understood old.now.schema sql)) where
  abbrev it : Table
  it = placed tree (table t.name t.columns t.key t.primary t.uniques t.checks t.references)

  abbrev passes : Row → Bool
  passes r = list_all (holds (params ∷ r ∷ [])) terms

  abbrev body : Program
  body = record { lets = []; body = plain_query tree terms (col 1 0 ∷ col 1 0 ∷ set) [] }

  pub record HasUpdated (r : Row) : Type 0 where
    pub next : Trees
    pub applies : Applies old.now.schema Enforced old.now.trees (edit_of old.now.trees it (ids_of ((column r 0 ∷ column r 0 ∷ eval_all set (params ∷ r ∷ [])) ∷ [])) Given 1 ((column r 0 ∷ column r 0 ∷ eval_all set (params ∷ r ∷ [])) ∷ [])) next
    pub schema_is : new.now.schema ≡ old.now.schema
    pub trees : new.now.trees ≡ next

  pub updated : (count : ℕ) → Executes sql params old new (Ok count) → (r : Row) → filter passes (old.now.trees tree) ≡ r ∷ []
      → HasUpdated r × Writes old new None (Update at body) (statement_of sql (understood old.now.schema sql)) params count
  updated count ran r one =
      let db = old.now.trees in
      let schema = old.now.schema in
      let w = runs_as sql params old new schema refl (Update at body) is plain count ran in
      let done = went (rw listed at w.changed) in
      let now : new.now ≡ record { schema = schema; trees = done.0.trees } = ap (λ (p : Tally × Database). p.1) (same_value (went (went done.2).2).2) in
      let given = went done.1 in
      let written = went given.2 in
      let trees : done.0.trees ≡ written.0 = ap (λ (x : Written). x.trees) (same_value written.2) in
      let show : Row → Row = λ r. column r 0 ∷ column r 0 ∷ eval_all set (params ∷ r ∷ []) in
      let moved : IsPermutation (map show (filter passes (db tree))) given.0 = answered tree terms (col 1 0 ∷ col 1 0 ∷ set) [] db params given.0 (given.1.answer Null) in
      let rows : given.0 ≡ show r ∷ [] = one_permutation (show r) given.0 (subst (λ xs. IsPermutation (map show xs) given.0) one moved) in
      let edit : List Row → Edit = λ rows. edit_of db it (ids_of rows) Given 1 rows in
      let none = idle (taken_by db (edit given.0)) (edit given.0).news in (
        record {
          next = written.0;
          applies = subst (λ rows. Applies schema Enforced db (edit rows) written.0) rows (one_step schema Enforced db written.0 (edit given.0) none written.1);
          schema_is = ap (λ (d : Database). d.schema) now;
          trees = ap (λ (d : Database). d.trees) now ∙ trees;
        },
        w,
      )

  pub update_schema : (count : ℕ) → Executes sql params old new (Ok count) → (new.now.schema ≡ old.now.schema) × Writes old new None (Update at body) (statement_of sql (understood old.now.schema sql)) params count
  update_schema count ran =
      let w = runs_as sql params old new old.now.schema refl (Update at body) is plain count ran in
      let done = went (rw listed at w.changed) in
      let now : new.now ≡ record { schema = old.now.schema; trees = done.0.trees } = ap (λ (p : Tally × Database). p.1) (same_value (went (went done.2).2).2) in
      (ap (λ (d : Database). d.schema) now, w)
