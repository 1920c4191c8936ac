-- A file is sound where its rows, keys, entries and objects are a ledger's, and only there.
use Rattle.std.specs.List.{AllByRecursion}
use Rattle.sqlite_trees.specs.Tree.{Trees}
use Rattle.sqlite_schema.specs.declared.schema.Table.{Table}
use Rattle.sqlite_rules.specs.Audit.{TableObeys}
use Rattle.sqlite_rules.specs.Lists.{Has}
use Rattle.sqlite_rules.specs.Steps.{PassAlone, is_present, is_typed}
use Rattle.sqlite_rules.proofs.EditLemmas.{rules_from_tables, table_from_rules}
use Rattle.sqlite_rules.proofs.ListLemmas.{all_from, all_has, test_from, test_has}
use Rattle.sqlite_schema.specs.Rules.{passes_checks}
use Rattle.ledger_sql.specs.Schema.{ledger_schema}
use Rattle.ledger_rules.specs.Rows.{FitsAlone}
use Rattle.ledger_rules.specs.Whole.{HasOwnKeys, SoundTreesAreWhole, WholeTreesAreSound}

module _ (trees : Trees) where
  fit : (t : Table) → TableObeys ledger_schema trees t → AllByRecursion (FitsAlone t) (trees t.tree)
  fit t obeys = all_from (FitsAlone t) (trees t.tree) (λ row there. record {
    typed = test_has (is_typed t) (trees t.tree) row obeys.alone.typed there;
    present = test_has (is_present t) (trees t.tree) row obeys.alone.present there;
    checked = test_has (passes_checks t) (trees t.tree) row obeys.alone.checked there;
  })

  alone : (t : Table) → AllByRecursion (FitsAlone t) (trees t.tree) → PassAlone t (trees t.tree)
  alone t rows = record {
    typed = test_from (is_typed t) (trees t.tree) (λ row there. (all_has (FitsAlone t) (trees t.tree) row rows there).typed);
    present = test_from (is_present t) (trees t.tree) (λ row there. (all_has (FitsAlone t) (trees t.tree) row rows there).present);
    checked = test_from (passes_checks t) (trees t.tree) (λ row there. (all_has (FitsAlone t) (trees t.tree) row rows there).checked);
  }

pub sound_trees_are_whole : SoundTreesAreWhole
sound_trees_are_whole trees sound =
    let obeys : (t : Table) → Has ledger_schema.tables t → TableObeys ledger_schema trees t =
    table_from_rules ledger_schema trees sound.obeys in record {
      rows = all_from (λ (t : Table). AllByRecursion (FitsAlone t) (trees t.tree)) ledger_schema.tables (λ t known. fit trees t (obeys t known));
      keys = all_from (HasOwnKeys trees) ledger_schema.tables (λ t known. record { unique = (obeys t known).unique; referred = (obeys t known).referred });
      entries = sound.obeys.indexed;
      objects = sound.lists;
    }

pub whole_trees_are_sound : WholeTreesAreSound
whole_trees_are_sound trees file = record {
  lists = file.objects;
  obeys = record {
    rules = rules_from_tables ledger_schema trees
        (all_from (TableObeys ledger_schema trees) ledger_schema.tables (λ t known. record {
          alone = alone trees t (all_has (λ (t : Table). AllByRecursion (FitsAlone t) (trees t.tree)) ledger_schema.tables t file.rows known);
          unique = (all_has (HasOwnKeys trees) ledger_schema.tables t file.keys known).unique;
          referred = (all_has (HasOwnKeys trees) ledger_schema.tables t file.keys known).referred;
        }));
    indexed = file.entries;
  };
}
