-- What an INSERT of values does to the table that it names, whichever of ours it is.
use Rattle.std.proofs.Common.{◌≡◌, ℕ, List, [], ◌∷◌, ◌/◌, length, slice_get, append-nil, Bool, true, false, cond, ◌&&◌, ◌==◌, Some, None, Option, Ok, refl, sym, ap, subst, ◌∙◌}
use Rattle.std.specs.List.{flat_map, filter_map}
use Rattle.sqlite_value.specs.Order.{Row}
use Rattle.sqlite_trees.specs.Tree.{Trees}
use Rattle.sqlite_sql.specs.Term.{Term}
use Rattle.sqlite_schema.specs.declared.schema.Column.{Column}
use Rattle.sqlite_schema.specs.declared.schema.Reference.{Reference}
use Rattle.sqlite_schema.specs.declared.schema.Table.{Table}
use Rattle.sqlite_schema.specs.declared.schema.Schema.{Schema}
use Rattle.sqlite_schema.specs.declared.schema.Keys.{Keys}
use Rattle.sqlite_schema.specs.declared.schema.Keys.TheVariants.{Enforced}
use Rattle.sqlite_schema.specs.Rules.{ParentKey, parent_key}
use Rattle.sqlite_schema.specs.declared.command.Command.TheVariants.{Insert}
use Rattle.sqlite_schema.specs.declared.command.Source.TheVariants.{Values}
use Rattle.sqlite_rules.specs.declared.error.Rowids.TheVariants.{Chosen}
use Rattle.sqlite_rules.specs.declared.action.Deed.{Deed}
use Rattle.sqlite_rules.specs.Edit.{edit_of, Applies}
use Rattle.sqlite_rules.specs.Action.{Work, works, work_by, work_for, deed_for}
use Rattle.sqlite.specs.Listing.{understood}
use Rattle.sqlite.specs.Effect.{Database, value_rows}
use Rattle.sqlite.specs.Does.{Tally, Does}
use Rattle.sqlite.specs.Rows.{Written}
use Rattle.sqlite.specs.State.{State, mode_of, Writes, Executes}
use Rattle.sqlite.proofs.Callers.{IsPlain, command_of, statement_of, runs_as, one_step}
use Rattle.ledger_sql.specs.Schema.{table}
use Rattle.ledger_sql.proofs.RunLemmas.{went, same_value}

no_work : (depth tree : ℕ) (child : Table) (ref : Reference) (deed : Option Deed) (key : Option ParentKey) → work_by depth tree [] child ref deed key ≡ None
no_work depth tree child ref None key = refl
no_work depth tree child ref (Some deed) None = refl
no_work depth tree child ref (Some deed) (Some key) = at (key.0 == tree)
  where
    at : (b : Bool) → ◌≡◌ {A = Option Work} (cond (b && false) (Some (record { depth = depth; child = child; ref = ref; places = key.1; order = key.2; deed = deed; moves = [] })) None) None
    at true = refl
    at false = refl

none_of : (schema : Schema) (keys : Keys) (tree : ℕ) (news : List Row) (child : Table) (refs : List Reference) → filter_map (work_for schema keys 0 tree [] news child) refs ≡ []
none_of schema keys tree news child [] = refl
none_of schema keys tree news child (ref ∷ refs) =
    rw (no_work 0 tree child ref (deed_for keys (length news == 0) ref) (parent_key schema.tables ref)) (none_of schema keys tree news child refs)

no_works : (schema : Schema) (keys : Keys) (tree : ℕ) (news : List Row) (tables : List Table) → flat_map (λ child. filter_map (work_for schema keys 0 tree [] news child) child.references) tables ≡ []
no_works schema keys tree news [] = refl
no_works schema keys tree news (child ∷ tables) = rw (none_of schema keys tree news child child.references) (no_works schema keys tree news tables)

-- a table as our definitions build it, in a tree of the file
abbrev pub placed : ℕ → Table → Table
placed tree t = record t { tree = tree }

module _ (sql : List ℕ) (params : Row) (old new : State) (schema : Schema) (has : old.now.schema ≡ schema) (at : ℕ) (terms : List Term) (width : ℕ)
    (is : command_of (understood schema sql) ≡ Insert at (Values terms width)) (plain : IsPlain (understood schema sql))
    (name : List ℕ) (tree : ℕ) (columns : List Column) (key : Option ℕ) (primary : List ℕ) (uniques : List (List ℕ)) (checks : List Term) (references : List Reference)
    (listed : slice_get schema.tables at ≡ Some (placed tree (table name columns key primary uniques checks references))) where
  abbrev it : Table
  it = placed tree (table name columns key primary uniques checks references)

  -- the rows that were put in, and what stays
  pub record HasInserted (count : ℕ) : Type 0 where
    pub wrote : Writes old new None (Insert at (Values terms width)) (statement_of sql (understood schema sql)) params count
    pub sources : List Row
    pub given : sources ≡ value_rows params width (length terms / width) terms
    pub next : Trees
    pub applies : Applies schema Enforced old.now.trees (edit_of old.now.trees it [] Chosen 0 sources) next
    pub schema_is : new.now.schema ≡ old.now.schema
    pub trees : new.now.trees ≡ next

  pub inserted : (count : ℕ) → Executes sql params old new (Ok count) → HasInserted count
  inserted count h =
      let db = old.now.trees in
      let command = Insert at (Values terms width) in
      let text = statement_of sql (understood schema sql) in
      let w = runs_as sql params old new schema has command is plain count h in
      let does = subst (λ s. Does old.step_limit (mode_of old) params (record old.now { schema = s }) text None command (Ok (w.tally, new.now))) has w.changed in
      let done = went (rw listed at does) in
      let now : new.now ≡ record { schema = schema; trees = done.0.trees } = ap (λ (p : Tally × Database). p.1) (same_value (went (went done.2).2).2) in
      let given = went done.1 in
      let written = went (went given.2).2 in
      let counted = went written.2 in
      let trees : done.0.trees ≡ written.0 = ap (λ (x : Written). x.trees) (same_value counted.2) ∙ same_value counted.1 in
      let none : works schema Enforced 0 tree [] (edit_of db it [] Chosen 0 given.0).news ≡ [] = no_works schema Enforced tree (edit_of db it [] Chosen 0 given.0).news schema.tables in
      record {
        wrote = w;
        sources = given.0;
        given = given.1.1 ∙ ap (λ p. value_rows p width (length terms / width) terms) (append-nil params);
        next = written.0;
        applies = one_step schema Enforced db written.0 (edit_of db it [] Chosen 0 given.0) none written.1;
        schema_is = ap (λ (d : Database). d.schema) now ∙ sym has;
        trees = ap (λ (d : Database). d.trees) now ∙ trees;
      }
