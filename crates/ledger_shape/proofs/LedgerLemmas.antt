-- A ledger's tables, and strangers' behind them.
use Rattle.std.proofs.Common.{◌≡◌, Bool, true, List, ◌++◌, drop, sym, ap, refl, ◌∙◌}
use Rattle.std.specs.List.{list_all}
use Rattle.sqlite_schema.specs.declared.schema.Table.{Table}
use Rattle.sqlite_schema.specs.declared.schema.Schema.{Schema}
use Rattle.ledger_sql.specs.Schema.{ledger_schema}
use Rattle.ledger_sql.specs.Effects.{IsLedger, is_stranger}
use Rattle.ledger_shape.specs.Starts.{Starts}
use Rattle.ledger_shape.specs.Strangers.{is_apart, has_own_tree, refers_elsewhere}

apart_is : (tables : List Table) → list_all is_apart tables ≡ list_all is_stranger tables
unfolding has_own_tree refers_elsewhere
apart_is tables = refl

-- behind the first nine tables
behind : List Table → List Table
behind tables = drop 9 tables

behind_ours : (more : List Table) → behind (ledger_schema.tables ++ more) ≡ more
unfolding behind
behind_ours more = refl

stranger_tests : (s : Schema) (more rest : List Table) (tests : Bool)
    → s.tables ≡ ledger_schema.tables ++ more → rest ≡ drop 9 s.tables
    → tests ≡ list_all is_apart rest → tests ≡ list_all is_stranger more
unfolding behind
stranger_tests s more rest tests e cut is =
    is ∙ ap (list_all is_apart) (cut ∙ ap behind e ∙ behind_ours more) ∙ apart_is more

ledger_of : (s : Schema) (more : List Table) → s.tables ≡ ledger_schema.tables ++ more
    → list_all is_stranger more ≡ true → IsLedger s
ledger_of s more tables strangers =
    record { more = more; tables = tables; strangers = strangers }

pub ledger_alike : (s : Schema) (rest : List Table) (tests : Bool)
    → Starts ledger_schema.tables s.tables → rest ≡ drop 9 s.tables
    → tests ≡ list_all is_apart rest → (tests ≡ true → IsLedger s) × (IsLedger s → tests ≡ true)
ledger_alike s rest tests starts cut is =
    let same = stranger_tests s starts.0 rest tests starts.1 cut is in (
      λ all. ledger_of s starts.0 starts.1 (sym same ∙ all),
      λ h. stranger_tests s h.more rest tests h.tables cut is ∙ h.strangers,
    )
