-- What the UPDATEs of the version mean, and what they replace.
use Rattle.std.proofs.Common.{◌≡◌, ◌≢◌, ℕ, ℤ, pos, List, [], ◌∷◌, map, filter, not, codes, true, cond, IsTrue, None, Ok, refl, sym, ap, subst, ◌∙◌}
use Rattle.std.specs.List.{AllByRecursion}
use Rattle.std.proofs.lemmas.Cmp.{tied_itself}
use Rattle.std.specs.Ordering.{is_eq}
use Rattle.sqlite_value.specs.declared.value.Value.TheVariants.{Null, Int}
use Rattle.sqlite_value.specs.Order.{Row, column, value_cmp}
use Rattle.sqlite_value.proofs.OrderLemmas.{value_cmp_total}
use Rattle.sqlite_trees.specs.Tree.{Trees, rowid, has_rowid, put_row, without_rowid}
use Rattle.sqlite_trees.specs.View as store
use Rattle.sqlite_sql.specs.Term.{Term, lit, col, eval_all}
use Rattle.sqlite_schema.specs.declared.command.Command.TheVariants.{Update}
use Rattle.sqlite_schema.specs.declared.schema.Keys.TheVariants.{Enforced}
use Rattle.sqlite_schema.specs.declared.schema.Kind.TheVariants.{Integer}
use Rattle.sqlite_schema.specs.declared.schema.Schema.{Schema}
use Rattle.sqlite_rules.specs.Cast.{cast, cast_all}
use Rattle.sqlite_rules.specs.Edit.{id_in}
use Rattle.sqlite_rules.specs.Action.{works}
use Rattle.sqlite_tied.specs.Compute.{everything}
use Rattle.sqlite.specs.Listing.{understood}
use Rattle.sqlite.specs.State.{State, HasCleanDisk, Writes, Executes}
use Rattle.sqlite.proofs.Callers.{statement_of}
use Rattle.ledger_sql.specs.Creating.{IsMaking}
use Rattle.ledger_sql.specs.Effects.{IsLedger, IsInside, WritesInside, HasVersion, SetsVersion}
use Rattle.ledger_sql.specs.Rowids.{IsNumbered}
use Rattle.ledger_sql.specs.Schema.{schema_table, balance_schema}
use Rattle.ledger_sql.specs.TableRows.{cells_from, version_rows}
use Rattle.ledger_sql.proofs.AddLemmas.{cast_null, cast_whole}
use Rattle.ledger_sql.proofs.WriteLemmas.{WritesBy, wrote_inside, writes_stay, statement_writes}
use Rattle.ledger_sql.proofs.AnswerLemmas.{plain_query}
use Rattle.ledger_sql.proofs.ReplaceLemmas.{numbered_put, numbered_out, one_mapped, int_of}
use Rattle.ledger_sql.proofs.OverTables.{over_ledger}
use Rattle.ledger_sql.proofs.SetLemmas.{IsUpdateText}
use Rattle.ledger_sql.proofs.UpdateLemmas.{HasUpdated, no_works, no_older_works, updated, update_schema}

-- a table of one row has none left without it
one_out : (r : Row) (id : ℤ) → rowid r ≡ Int id → without_rowid id (r ∷ []) ≡ []
one_out r id is =
    let same : has_rowid id r ≡ true = ap (λ v. is_eq (value_cmp v (Int id))) is ∙ ap is_eq (tied_itself value_cmp_total (Int id)) in
    ap (λ b. cond (not b) (r ∷ []) []) same

abbrev version_set : ℤ → List Term
version_set version = lit Null ∷ lit (Int version) ∷ []

-- the text sets the version
abbrev IsVersionText : List ℕ → ℤ → Schema → Type 0
IsVersionText sql version schema = IsUpdateText sql schema 0 [] (version_set version) 0 schema_table

module _ (sql : List ℕ) (version : ℤ) (old new : State) (text : IsVersionText sql version old.now.schema) (idle : (olds news : List Row) → works old.now.schema Enforced 0 0 olds news ≡ [])
    (mode : IsTrue old.in_transaction) (count : ℕ) (ran : Executes sql [] old new (Ok count)) where
  wrote : (new.now.schema ≡ old.now.schema) × Writes old new None (Update 0 (record { lets = []; body = plain_query 0 [] (col 1 0 ∷ col 1 0 ∷ version_set version) [] })) (statement_of sql (understood old.now.schema sql)) [] count
  wrote = update_schema sql [] old new 0 0 idle schema_table text.listed [] (version_set version) text.is text.plain count ran

  version_inside : WritesInside old new
  version_inside = wrote_inside old new _ _ _ _ wrote.1 mode wrote.0

  module _ (was : Row) (one : version_rows old.now.trees ≡ was ∷ []) (num : IsNumbered (old.now.trees 0)) where
    one_row : (r : Row) × (old.now.trees 0 ≡ r ∷ []) × (cells_from 2 1 r ≡ was)
    one_row = one_mapped (cells_from 2 1) (old.now.trees 0) was one

    abbrev r : Row
    r = one_row.0

    id_of : (id : ℤ) × (rowid r ≡ Int id)
    id_of = int_of (rowid r) (subst (AllByRecursion (λ x. IsTrue (store.is_int (rowid x)))) one_row.1 num.whole).0

    abbrev row : Row
    row = Int id_of.0 ∷ Null ∷ Int version ∷ []

    abbrev up : HasUpdated sql [] old new 0 0 idle schema_table text.listed [] (version_set version) text.is text.plain r
    up = (updated sql [] old new 0 0 idle schema_table text.listed [] (version_set version) text.is text.plain count ran r (ap (filter (λ _. true)) one_row.1)).0

    id_path : id_in (column r 0) ≡ id_of.0
    id_path = ap id_in id_of.1

    row_path : cast Integer (column r 0) ∷ cast_all schema_table.columns (eval_all (version_set version) ([] ∷ r ∷ [])) ≡ row
    row_path i = (ap (cast Integer) id_of.1 ∙ cast_whole id_of.0) i ∷ cast_null i ∷ cast_whole version i ∷ []

    new_tree : new.now.trees 0 ≡ row ∷ []
    new_tree = ap (λ (t : Trees). t 0) up.trees ∙ up.applies.rows ∙ (λ i. put_row (row_path i) (without_rowid (id_path i) (one_row.1 i))) ∙ ap (put_row row) (one_out r id_of.0 id_of.1)

    has_version : HasVersion version old new
    has_version = record {
      version_is = ap (map (cells_from 2 1)) new_tree;
      tables = subst (λ (trees : Trees). AllByRecursion (λ u. u.tree ≢ 0 → trees u.tree ≡ old.now.trees u.tree) old.now.schema.tables) (sym up.trees) up.applies.tables;
      numbered = subst IsNumbered (sym new_tree) (numbered_put row [] refl (subst IsNumbered (one_out r id_of.0 id_of.1) (numbered_out id_of.0 (r ∷ []) (subst IsNumbered one_row.1 num))));
    }

  sets_version : SetsVersion version old new
  sets_version = record { inside = version_inside; sound = wrote.1.sound; one = has_version }

-- the contract of a function of such a text, over the schemas that it is meant for
sets_by : (sql : List ℕ) (version : ℤ) (Over : Schema → Type 0) → ((s : Schema) → Over s → IsVersionText sql version s) → ((s : Schema) → Over s → (olds news : List Row) → works s Enforced 0 0 olds news ≡ [])
    → (old new : State) → (HasCleanDisk old → Over old.now.schema × IsTrue old.in_transaction) → WritesBy sql [] (SetsVersion version) old new
sets_by sql version Over means idle old new inside =
    statement_writes sql [] old new (SetsVersion version) (Update 0 (record { lets = []; body = plain_query 0 [] (col 1 0 ∷ col 1 0 ∷ version_set version) [] })) tt (λ a. writes_stay old new a.inside)
    (λ clean. let it = inside clean in let text = means old.now.schema it.0 in (it.1, (old.now.schema, refl, text.is, text.plain)))
    (λ clean count ran. let it = inside clean in sets_version sql version old new (means old.now.schema it.0) (idle old.now.schema it.0) it.1 count ran)

-- the current version
abbrev pub set_version_text : List ℕ
set_version_text = codes "UPDATE schema SET version = 3"

set_version_is : (s : Schema) → IsLedger s → IsVersionText set_version_text (pos 3) s
unfolding understood everything
set_version_is = over_ledger (λ s. IsVersionText set_version_text (pos 3) s) (λ more indexes views. record { is = refl; plain = (refl, refl); listed = refl })

pub current_version_set : (old new : State) → (HasCleanDisk old → IsInside old) → WritesBy set_version_text [] (SetsVersion (pos 3)) old new
current_version_set old new inside = sets_by set_version_text (pos 3) IsLedger set_version_is (λ s h. no_works s h 0 refl) old new (λ clean. let it = inside clean in (it.schema, it.mode))

-- the version of the balance schema
abbrev pub balance_version_text : List ℕ
balance_version_text = codes "UPDATE schema SET version = 2"

balance_version_means : IsVersionText balance_version_text (pos 2) balance_schema
unfolding understood everything
balance_version_means = record { is = refl; plain = (refl, refl); listed = refl }

balance_version_is : (s : Schema) → s ≡ balance_schema → IsVersionText balance_version_text (pos 2) s
balance_version_is s is = subst (IsVersionText balance_version_text (pos 2)) (sym is) balance_version_means

pub balance_version_set : (old new : State) → (HasCleanDisk old → IsMaking balance_schema old) → WritesBy balance_version_text [] (SetsVersion (pos 2)) old new
balance_version_set old new making = sets_by balance_version_text (pos 2) (λ s. s ≡ balance_schema) balance_version_is no_older_works old new (λ clean. let it = making clean in (it.schema_is, it.mode))
