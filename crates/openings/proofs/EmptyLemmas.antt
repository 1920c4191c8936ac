-- A new ledger.
use Rattle.std.proofs.Common.{◌≡◌, ℕ, ℤ, None, ◌≤◌, length, List, [], ◌∷◌, map, filter, refl, sym, ap, subst, ◌∙◌, arith}
use Rattle.std.specs.List.{AllByRecursion}
use Rattle.sqlite_value.specs.Order.{Row, column}
use Rattle.sqlite_trees.specs.Tree.{Trees}
use Rattle.sqlite_schema.specs.declared.schema.Schema.{Schema}
use Rattle.sqlite.specs.State.{State}
use Rattle.ledger_sql.specs.Rowids.{IsNumbered}
use Rattle.ledger_sql.specs.Schema.{tenant_tree}
use Rattle.ledger_sql.specs.TableRows.{is_own, is_int, is_blob, cells_from, directory_rows, with_name as rows_with_name}
use Rattle.stored_ledgers.specs.Directory.{number_of, first_number, AreDistinct, IsEntry}
use Rattle.stored_ledgers.specs.DueSets.{DueSets}
use Rattle.stored_ledgers.specs.Ledger.{HoldsLedgers}
use Rattle.stored_ledgers.specs.Resting.{IsNewLedger, IsResting}

no_rows : (rows : List Row) → rows ≡ [] → IsNumbered rows
no_rows rows none = subst IsNumbered (sym none) (record { rise = tt; whole = tt })

module _ (trees : Trees) (none : trees tenant_tree ≡ []) where
  no_tenants : directory_rows trees ≡ []
  no_tenants = ap (map (λ row. column row 0 ∷ cells_from 2 2 row)) none

  -- a directory without rows has no tenant
  pub no_number : (digest : List ℕ) → number_of digest trees ≡ None
  unfolding number_of
  no_number digest =
      ap (λ rows. first_number (filter (λ row. is_blob digest (column row 2)) rows)) no_tenants

  none_distinct : AreDistinct trees
  none_distinct = record {
    numbers = λ number.
        subst (λ rows. length (filter (λ row. is_int number (column row 0)) rows) ≤ 1) (sym no_tenants) (omega arith);
    names = λ name. subst (λ rows. length (rows_with_name name rows) ≤ 1) (sym no_tenants) (omega arith);
    digests = λ digest.
        subst (λ rows. length (filter (λ row. is_blob digest (column row 2)) rows) ≤ 1) (sym no_tenants) (omega arith);
  }

-- the rows of a tenant in an empty table
own_none : (width : ℕ) (number : ℤ) (rows : List Row) → rows ≡ []
    → map (cells_from 2 width) (filter (is_own number) rows) ≡ []
own_none width number rows none = ap (λ all. map (cells_from 2 width) (filter (is_own number) all)) none

-- a new ledger holds ledgers, of no tenant
pub new_holds : (s : State) → IsNewLedger s → HoldsLedgers s.now
new_holds s new =
    let trees = s.now.trees in
    let none = new.empty.empty in record {
      schema = record {
        more = [];
        tables = ap (λ (schema : Schema). schema.tables) new.rests.schema_is;
        strangers = refl;
      };
      version = new.empty.version;
      numbered = (
        new.empty.numbered,
        (
          no_rows _ none.0,
          (
            no_rows _ none.1.0,
            (
              no_rows _ none.1.1.0,
              (
                no_rows _ none.1.1.1.0,
                (
                  no_rows _ none.1.1.1.1.0,
                  (
                    no_rows _ none.1.1.1.1.1.0,
                    (no_rows _ none.1.1.1.1.1.1.0, (no_rows _ none.1.1.1.1.1.1.1.0, tt)),
                  ),
                ),
              ),
            ),
          ),
        ),
      );
      entries = subst (AllByRecursion IsEntry) (sym (no_tenants trees none.0)) tt;
      distinct = none_distinct trees none.0;
      machines = λ digest number is. absurd (let e = sym (no_number trees none.0 digest) ∙ is in cc);
      owned = λ number free. record {
        clock =
            ap (λ rows. map (cells_from 2 1) (filter (λ row. is_int number (column row 0)) rows)) none.1.0;
        accounts = own_none 8 number _ none.1.1.0;
        transfers = own_none 14 number _ none.1.1.1.0;
        balances = own_none 5 number _ none.1.1.1.1.0;
        statuses = own_none 3 number _ none.1.1.1.1.1.0;
        history = own_none 6 number _ none.1.1.1.1.1.1.0;
        failed = own_none 1 number _ none.1.1.1.1.1.1.1.0;
      };
    }

-- and so it rests, whatever sets there are
pub new_rests : (sets : DueSets) (s : State) → IsNewLedger s → IsResting sets s
new_rests sets s new = record {
  quiet = record {
    mode = new.rests.mode;
    settled = new.rests.settled;
    unmarked = new.rests.unmarked;
  };
  ledgers = new_holds s new;
  covered = λ digest number is.
      absurd (let e = sym (no_number s.now.trees new.empty.empty.0 digest) ∙ is in cc);
}
