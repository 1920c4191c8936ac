-- One table of a database moves, and the others stay.
use Rattle.std.proofs.Common.{◌≡◌, ◌≢◌, ℕ, ℤ, Bool, true, false, eqb, cond, List, [], ◌∷◌, ◌++◌, map, filter, refl, sym, ap, subst, ◌∙◌, true≢false, eq-eqb, eqb-true}
use Rattle.std.specs.List.{AllByRecursion}
use Rattle.sqlite_trees.specs.Tree.{Trees}
use Rattle.sqlite_value.specs.Order.{Row, column}
use Rattle.sqlite_schema.specs.declared.schema.Table.{Table}
use Rattle.sqlite.specs.State.{State}
use Rattle.rows.specs.TypedRows.{TypedRows}
use Rattle.ledger_sql.specs.Effects.{IsLedger, OthersStay}
use Rattle.ledger_sql.specs.Rowids.{IsNumbered}
use Rattle.ledger_sql.specs.Schema.{ledger_schema}
use Rattle.ledger_sql.specs.TableRows.{is_int, is_own, cells_from}
use Rattle.stored_tables.specs.Frames.{KeepsRows, AreNumbered}
use Rattle.stored_tables.specs.Holds.{HoldsRows}

-- our tables, but this one, are as before
abbrev pub OursStay : ℕ → Trees → Trees → Type 0
OursStay tree old new = AllByRecursion (λ (t : Table). t.tree ≢ tree → new t.tree ≡ old t.tree) ledger_schema.tables

all_front : {A : Type 0} (P : A → Type 0) (xs ys : List A) → AllByRecursion P (xs ++ ys) → AllByRecursion P xs
all_front P [] ys all = tt
all_front P (x ∷ xs) ys all = (all.0, all_front P xs ys all.1)

pub ours_stay : (tree : ℕ) (old new : State) → IsLedger old.now.schema → OthersStay tree old new → OursStay tree old.now.trees new.now.trees
ours_stay tree old new ledger stay =
    all_front (λ (t : Table). t.tree ≢ tree → new.now.trees t.tree ≡ old.now.trees t.tree) ledger_schema.tables ledger.more
    (subst (AllByRecursion (λ (t : Table). t.tree ≢ tree → new.now.trees t.tree ≡ old.now.trees t.tree)) ledger.tables stay)

-- the new database, with this table as it was
abbrev pub patched : ℕ → Trees → Trees → Trees
patched tree old new k = cond (eqb k tree) (old k) (new k)

module _ (tree : ℕ) (old new : Trees) where
  was : (k : ℕ) → (k ≢ tree → new k ≡ old k) → patched tree old new k ≡ old k
  was k stays = at (eqb k tree) refl
    where
      at : (b : Bool) → eqb k tree ≡ b → cond b (old k) (new k) ≡ old k
      at true is = refl
      at false is = stays (λ same. true≢false (sym (eq-eqb k tree same) ∙ is))

  own_was : (many k : ℕ) (tenant : ℤ) → (k ≢ tree → new k ≡ old k) → map (cells_from 2 many) (filter (is_own tenant) (patched tree old new k)) ≡ map (cells_from 2 many) (filter (is_own tenant) (old k))
  own_was many k tenant stays = ap (λ (rows : List Row). map (cells_from 2 many) (filter (is_own tenant) rows)) (was k stays)

  pub rows_kept : (tenant : ℤ) → OursStay tree old new → KeepsRows tenant old (patched tree old new)
  rows_kept tenant stay = record {
    clock = ap (λ (rows : List Row). map (cells_from 2 1) (filter (λ row. is_int tenant (column row 0)) rows)) (was 4 stay.1.1.0);
    accounts = own_was 8 5 tenant stay.1.1.1.0;
    transfers = own_was 14 8 tenant stay.1.1.1.1.0;
    balances = own_was 5 11 tenant stay.1.1.1.1.1.0;
    statuses = own_was 3 13 tenant stay.1.1.1.1.1.1.0;
    history = own_was 6 15 tenant stay.1.1.1.1.1.1.1.0;
    failed = own_was 1 17 tenant stay.1.1.1.1.1.1.1.1.0;
  }

  pub numbered_kept : OursStay tree old new → AreNumbered old → IsNumbered (new tree) → AreNumbered new
  numbered_kept stay num this = all_both ledger_schema.tables stay num
    where
      at : (k : ℕ) (b : Bool) → eqb k tree ≡ b → (k ≢ tree → new k ≡ old k) → IsNumbered (old k) → IsNumbered (new k)
      at k true is stays n = subst (λ (j : ℕ). IsNumbered (new j)) (sym (eqb-true k tree is)) this
      at k false is stays n = subst IsNumbered (sym (stays (λ same. true≢false (sym (eq-eqb k tree same) ∙ is)))) n

      all_both : (ts : List Table) → AllByRecursion (λ (t : Table). t.tree ≢ tree → new t.tree ≡ old t.tree) ts → AllByRecursion (λ (t : Table). IsNumbered (old t.tree)) ts → AllByRecursion (λ (t : Table). IsNumbered (new t.tree)) ts
      all_both [] s n = tt
      all_both (t ∷ ts) s n = (at t.tree (eqb t.tree tree) refl s.0 n.0, all_both ts s.1 n.1)

-- rows that are kept are held
pub held_kept : (tenant : ℤ) (rows : TypedRows) (old new : Trees) → KeepsRows tenant old new → HoldsRows tenant rows old → HoldsRows tenant rows new
held_kept tenant rows old new keeps held = record {
  clock = keeps.clock ∙ held.clock;
  accounts = rw keeps.accounts held.accounts;
  transfers = rw keeps.transfers held.transfers;
  balances = rw keeps.balances held.balances;
  statuses = rw keeps.statuses held.statuses;
  history = rw keeps.history held.history;
  failed = rw keeps.failed held.failed;
}
