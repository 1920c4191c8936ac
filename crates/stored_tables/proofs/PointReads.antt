-- What is found of a tenant by a whole key.
use Rattle.std.proofs.Common.{◌≡◌, ℕ, ℤ, ◌<◌, ◌^◌, eqb, ◌||◌, List, [], ◌∷◌, map, filter, pos, Option, Some, None, option_map, IfSome, refl, sym, ap, subst, ◌∙◌}
use Rattle.std.specs.List.{AllByRecursion, list_any}
use Rattle.std.specs.List.Sorted.{IsPermutation}
use Rattle.std.specs.Option.{option_to_list}
use Rattle.std.specs.Prelude.{All}
use Rattle.std.specs.Str.{bytes_eq}
use Rattle.std.proofs.lemmas.List.Elements.{recursion_from_All}
use Rattle.amount.specs.Column.{column_of, IsOneToOne}
use Rattle.sqlite_value.specs.Order.{Row}
use Rattle.sqlite_trees.specs.Tree.{Trees}
use Rattle.sqlite_trees.proofs.ListLemmas.{all_weaker}
use Rattle.sqlite.proofs.Callers.{one_permutation}
use Rattle.records.specs.declared.account.Account.{Account}
use Rattle.records.specs.declared.transfer.Transfer.{Transfer}
use Rattle.records.specs.Machine.{Machine}
use Rattle.records.specs.Valid.{IsValid}
use Rattle.rows.specs.Cells.{account_cells, transfer_cells}
use Rattle.rows.specs.Keyed.{row_with}
use Rattle.rows.specs.Prescribed.{rows_for}
use Rattle.rows.specs.Tables.{HasDistinctKeys}
use Rattle.rows.specs.TypedRows.{TypedRows}
use Rattle.rows.specs.Widths.{IsStorableAccount, IsStorableTransfer}
use Rattle.ledger_sql.specs.Effects.{Picks}
use Rattle.ledger_sql.specs.TableRows.{has_id, with_id}
use Rattle.ledger_sql.specs.Values.{clock_values, account_values, transfer_values, id_values}
use Rattle.stored_tables.specs.Found.{TellsById}
use Rattle.stored_tables.specs.Holds.{HasRows, HoldsRows}
use Rattle.stored_tables.specs.MachineOf.{account_of, transfer_of}
use Rattle.stored_tables.proofs.MachineBack.{account_back, transfer_back}
use Rattle.stored_tables.proofs.RowMoves.{tells_id, found_row, found_all}
use Rattle.stored_tables.proofs.Statements.{Alone}

-- the clock
pub clock_read : (clock : ℕ) (was : List Row) (found : Option ℕ) → was ≡ clock_values (pos clock) ∷ [] → Picks was (option_map (λ c. clock_values (pos c)) found) → found ≡ Some clock
clock_read clock was None is picks = absurd (let e = sym is ∙ picks in cc)
clock_read clock was (Some c) is picks =
    let e : clock_values (pos c) ∷ picks.0 ≡ clock_values (pos clock) ∷ [] = one_permutation (clock_values (pos clock)) (clock_values (pos c) ∷ picks.0) (subst (λ rows. IsPermutation rows (clock_values (pos c) ∷ picks.0)) is picks.1) in
    let same : c ≡ clock = cc in
    ap Some same

some_fits : {R : Type 0} (fits : R → Type 0) (found : Option R) → ((row : R) → found ≡ Some row → fits row) → IfSome found fits
some_fits fits None all = tt
some_fits fits (Some row) all = all row refl

-- a table whose values begin with the key
module _ {R : Type 0} (values : R → Row) (key : R → ℕ) (fits : R → Type 0) (starts : (x : R) (id : List ℕ) → has_id id (values x) ≡ bytes_eq (column_of (key x)) id) (narrow : (x : R) → fits x → key x < 2 ^ 128)
    (same : (a b : R) → fits a → fits b → values a ≡ values b → a ≡ b) (one : IsOneToOne) where
  -- what is found under an id is the row with this id
  pub row_read : (id : ℕ) → id < 2 ^ 128 → (xs : List R) (was : List Row) (found : Option R) → filter (λ x. eqb (key x) id) xs ≡ option_to_list (row_with key id xs) → All fits xs → HasRows values xs was → IfSome found fits
      → Picks (with_id (column_of id) was) (option_map values found) → found ≡ row_with key id xs
  row_read id id_fits xs was found alone all held found_fits picks =
      let each = recursion_from_All fits xs all in
      let tells = all_weaker fits (λ x. has_id (column_of id) (values x) ≡ eqb (key x) id) (λ x fit. starts x (column_of id) ∙ tells_id one (key x) id (narrow x fit) id_fits) xs each in
      found_row values key id (has_id (column_of id)) xs tells was held alone fits same found (some_fits fits (row_with key id xs) (λ row is. found_all fits key id xs row each is)) found_fits picks

  -- so it is in each tenant's table of such rows of its machine
  pub tells_rows : (table : ℤ → Trees → List Row) (of : TypedRows → List R) → ((m : Machine) → IsValid m → HasDistinctKeys key (of (rows_for 3 m))) → Alone R → ((m : Machine) → IsValid m → All fits (of (rows_for 3 m)))
      → ((tenant : ℤ) (rows : TypedRows) (trees : Trees) → HoldsRows tenant rows trees → HasRows values (of rows) (table tenant trees)) → TellsById fits values table (λ id m. row_with key id (of (rows_for 3 m)))
  tells_rows table of distinct alone all has tenant m trees id found held id_fits =
      row_read id id_fits (of (rows_for 3 m)) (table tenant trees) found (alone key id (of (rows_for 3 m)) (distinct m held.valid)) (all m held.valid) (has tenant (rows_for 3 m) trees held.rows)

-- one of these ids is there
pub id_read : IsOneToOne → (id : ℕ) → id < 2 ^ 128 → (ids : List ℕ) → AllByRecursion (λ other. other < 2 ^ 128) ids
    → list_any (has_id (column_of id)) (map (λ other. id_values (column_of other)) ids) ≡ list_any (λ other. eqb other id) ids
id_read one id fits [] all = refl
id_read one id fits (other ∷ ids) all = λ i. tells_id one other id all.0 fits i || id_read one id fits ids all.1 i

pub same_account : (a b : Account) → IsStorableAccount a → IsStorableAccount b → account_values (account_cells a) ≡ account_values (account_cells b) → a ≡ b
same_account a b p q e = sym (account_back a p) ∙ ap account_of e ∙ account_back b q

pub same_transfer : (s t : Transfer) → IsStorableTransfer s → IsStorableTransfer t → transfer_values (transfer_cells s) ≡ transfer_values (transfer_cells t) → s ≡ t
same_transfer s t p q e = sym (transfer_back s p) ∙ ap transfer_of e ∙ transfer_back t q
