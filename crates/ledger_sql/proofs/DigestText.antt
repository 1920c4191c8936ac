-- What the UPDATE of a tenant's digest means, and what it replaces.
use Rattle.std.proofs.Common.{◌≡◌, ◌≢◌, ℕ, ℤ, List, [], ◌∷◌, map, filter, not, codes, true, Bool, ◌&&◌, None, Ok, refl, sym, ap, subst, ◌∙◌}
use Rattle.std.specs.List.{AllByRecursion, list_all}
use Rattle.std.specs.List.Sorted.{IsPermutation}
use Rattle.std.proofs.lemmas.List.Sorted.{IsPermutation-map}
use Rattle.sqlite_value.specs.declared.value.Value.TheVariants.{Null, Int, Text, Blob}
use Rattle.sqlite_value.specs.Order.{Row, column}
use Rattle.sqlite_trees.specs.Tree.{Trees, put_row, without_rowid}
use Rattle.sqlite_trees.proofs.ListLemmas.{filter-map, all_of, filter_same}
use Rattle.sqlite_sql.specs.Term.{Term, lit, col, eval_all, holds}
use Rattle.sqlite_schema.specs.declared.command.Command.TheVariants.{Update}
use Rattle.sqlite_schema.specs.declared.schema.Keys.TheVariants.{Enforced}
use Rattle.sqlite_schema.specs.declared.schema.Kind.TheVariants.{Integer, Text as IsText}
use Rattle.sqlite_schema.specs.declared.schema.Schema.{Schema}
use Rattle.sqlite_rules.specs.Cast.{cast, cast_all}
use Rattle.sqlite_rules.specs.Edit.{id_in, are_fresh}
use Rattle.sqlite_rules.specs.Action.{works}
use Rattle.sqlite_tied.specs.Compute.{everything}
use Rattle.sqlite.specs.Listing.{understood}
use Rattle.sqlite.specs.State.{State, HasCleanDisk, Writes, Executes}
use Rattle.sqlite.proofs.Callers.{statement_of}
use Rattle.ledger_sql.specs.Effects.{IsLedger, IsInside, WritesInside, HasDigest, SetsDigest}
use Rattle.ledger_sql.specs.Rowids.{IsNumbered}
use Rattle.ledger_sql.specs.Schema.{tenant_table}
use Rattle.ledger_sql.specs.TableRows.{cells_from, directory_rows, is_int}
use Rattle.ledger_sql.specs.Values.{directory_values}
use Rattle.ledger_sql.proofs.AddLemmas.{cast_null, cast_whole}
use Rattle.ledger_sql.proofs.AnswerLemmas.{plain_query, equals_int}
use Rattle.ledger_sql.proofs.KeyLemmas.{is_param, and_true}
use Rattle.ledger_sql.proofs.PutLemmas.{put_more}
use Rattle.ledger_sql.proofs.ReplaceLemmas.{taken_out, numbered_put, numbered_out, one_mapped}
use Rattle.ledger_sql.proofs.OverTables.{over_ledger}
use Rattle.ledger_sql.proofs.SetLemmas.{IsUpdateText}
use Rattle.ledger_sql.proofs.UpdateLemmas.{HasUpdated, no_works, updated, update_schema}
use Rattle.ledger_sql.proofs.WriteLemmas.{WritesBy, wrote_inside, writes_stay, statement_writes}

abbrev pub set_digest_text : List ℕ
set_digest_text = codes "UPDATE tenant SET digest = ?2 WHERE no = ?1"

abbrev by_number : List Term
by_number = is_param 0 0 ∷ []

abbrev digest_set : List Term
digest_set = lit Null ∷ col 1 2 ∷ col 0 1 ∷ []

abbrev IsDigestText : Schema → Type 0
IsDigestText schema = IsUpdateText set_digest_text schema 1 by_number digest_set 1 tenant_table

set_digest_is : (s : Schema) → IsLedger s → IsDigestText s
unfolding understood everything
set_digest_is = over_ledger (λ s. IsDigestText s) (λ more indexes views. record { is = refl; plain = (refl, refl); listed = refl })

module _ (number : ℤ) (digest : List ℕ) (old new : State) (inside : IsInside old) (count : ℕ) (ran : Executes set_digest_text (Int number ∷ Blob digest ∷ []) old new (Ok count)) where
  abbrev good : Row
  good = Int number ∷ Blob digest ∷ []

  abbrev p : Row → Bool
  p r = is_int number (column r 0)

  abbrev entry : Row → Row
  entry r = column r 0 ∷ cells_from 2 2 r

  abbrev rows : List Row
  rows = old.now.trees 1

  text : IsDigestText old.now.schema
  text = set_digest_is old.now.schema inside.schema

  idle : (olds news : List Row) → works old.now.schema Enforced 0 1 olds news ≡ []
  idle = no_works old.now.schema inside.schema 1 refl

  wrote : (new.now.schema ≡ old.now.schema) × Writes old new None (Update 1 (record { lets = []; body = plain_query 1 by_number (col 1 0 ∷ col 1 0 ∷ digest_set) [] })) (statement_of set_digest_text (understood old.now.schema set_digest_text)) good count
  wrote = update_schema set_digest_text good old new 1 1 idle tenant_table text.listed by_number digest_set text.is text.plain count ran

  digest_inside : WritesInside old new
  digest_inside = wrote_inside old new _ _ _ _ wrote.1 inside.mode wrote.0

  passing : filter (λ r. list_all (holds (good ∷ r ∷ [])) by_number) rows ≡ filter p rows
  passing = filter_same (λ r. list_all (holds (good ∷ r ∷ [])) by_number) p rows (all_of _ (λ r. (λ i. equals_int (column r 0) number i && true) ∙ and_true (p r)) rows)

  module _ (name was : List ℕ) (one : filter (λ row. is_int number (column row 0)) (directory_rows old.now.trees) ≡ directory_values number name was ∷ []) (num : IsNumbered (old.now.trees 1)) where
    one_row : (r : Row) × (filter p rows ≡ r ∷ []) × (entry r ≡ directory_values number name was)
    one_row = one_mapped entry (filter p rows) (directory_values number name was) (sym (filter-map (λ row. is_int number (column row 0)) entry rows) ∙ one)

    abbrev r : Row
    r = one_row.0

    keyed : column r 0 ≡ Int number
    keyed = ap (λ row. column row 0) one_row.2

    named : column r 2 ≡ Text name
    named = ap (λ row. column row 1) one_row.2

    abbrev n : Row
    n = Int number ∷ Null ∷ Text name ∷ Blob digest ∷ []

    abbrev ys : List Row
    ys = without_rowid number rows

    abbrev up : HasUpdated set_digest_text good old new 1 1 idle tenant_table text.listed by_number digest_set text.is text.plain r
    up = (updated set_digest_text good old new 1 1 idle tenant_table text.listed by_number digest_set text.is text.plain count ran r (passing ∙ one_row.1)).0

    id_path : id_in (column r 0) ≡ number
    id_path = ap id_in keyed

    row_path : cast Integer (column r 0) ∷ cast_all tenant_table.columns (eval_all digest_set (good ∷ r ∷ [])) ≡ n
    row_path i = (ap (cast Integer) keyed ∙ cast_whole number) i ∷ cast_null i ∷ ap (cast IsText) named i ∷ Blob digest ∷ []

    new_tree : new.now.trees 1 ≡ put_row n ys
    new_tree = ap (λ (t : Trees). t 1) up.trees ∙ up.applies.rows ∙ (λ i. put_row (row_path i) (without_rowid (id_path i) rows))

    fresh : are_fresh ys (n ∷ []) ≡ true
    fresh = sym (λ i. are_fresh (without_rowid (id_path i) rows) (row_path i ∷ [])) ∙ up.applies.fresh

    out : ys ≡ filter (λ x. not (p x)) rows
    out = taken_out p r number keyed rows num one_row.1

    front : map entry (n ∷ ys) ≡ directory_values number name digest ∷ filter (λ row. not (is_int number (column row 0))) (directory_rows old.now.trees)
    front = ap (λ xs. directory_values number name digest ∷ xs) (ap (map entry) out ∙ sym (filter-map (λ row. not (is_int number (column row 0))) entry rows))

    moved : IsPermutation (map entry (n ∷ ys)) (directory_rows new.now.trees)
    moved = subst (λ zs. IsPermutation (map entry (n ∷ ys)) (map entry zs)) (sym new_tree) (IsPermutation-map entry (n ∷ ys) (put_row n ys) (put_more (n ∷ []) ys fresh))

    has_digest : HasDigest number name digest old new
    has_digest = record {
      directory = subst (λ zs. IsPermutation zs (directory_rows new.now.trees)) front moved;
      tables = subst (λ (trees : Trees). AllByRecursion (λ u. u.tree ≢ 1 → trees u.tree ≡ old.now.trees u.tree) old.now.schema.tables) (sym up.trees) up.applies.tables;
      numbered = subst IsNumbered (sym new_tree) (numbered_put n ys refl (numbered_out number rows num));
    }

  sets_digest : SetsDigest number digest old new
  sets_digest = record { inside = digest_inside; one = has_digest }

-- the contract of the function that sets it
pub digest_written : (number : ℤ) (digest : List ℕ) (params : Row) → params ≡ Int number ∷ Blob digest ∷ [] → (old new : State) → (HasCleanDisk old → IsInside old) → WritesBy set_digest_text params (SetsDigest number digest) old new
digest_written number digest params same old new inside =
    statement_writes set_digest_text params old new (SetsDigest number digest) (Update 1 (record { lets = []; body = plain_query 1 by_number (col 1 0 ∷ col 1 0 ∷ digest_set) [] })) tt (λ a. writes_stay old new a.inside)
    (λ clean. let it = inside clean in let text = set_digest_is old.now.schema it.schema in (it.mode, (old.now.schema, refl, text.is, text.plain)))
    (λ clean count ran. sets_digest number digest old new (inside clean) count (subst (λ q. Executes set_digest_text q old new (Ok count)) same ran))
