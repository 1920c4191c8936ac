-- The keys of a ledger's tables. A table's keys stand in the trees after its own, in their order.
use Rattle.std.specs.Prelude.{ℕ, suc, ◌+◌, List, [], ◌∷◌}
use Rattle.sqlite_value.specs.Keys.{plain}
use Rattle.ledger_sql.specs.Schema.{schema_tree, tenant_tree, clock_tree, account_tree}
use Rattle.ledger_sql.specs.Schema.{transfer_tree, balance_tree, status_tree, history_tree}
use Rattle.ledger_sql.specs.Schema.{failed_tree}
use Rattle.keyed_trees.specs.Layout.{KeyShape}

-- a key of these columns, in the tree at this distance from its table's
abbrev pub key_at : ℕ → ℕ → List ℕ → KeyShape
key_at table distance columns =
    record { tree = table + distance; table = table; columns = columns; order = plain }

-- the key (tenant, id), which are the first columns of a table
abbrev pub by_id : ℕ → KeyShape
by_id table = key_at table 1 (1 ∷ 2 ∷ [])

-- the key (tenant, timestamp), where the timestamp stands at this place after the tenant
abbrev pub by_time : ℕ → ℕ → KeyShape
by_time table place = key_at table 2 (1 ∷ suc (suc place) ∷ [])

-- the key (tenant, account, timestamp) of the history
abbrev pub by_entry : KeyShape
by_entry = key_at history_tree 1 (1 ∷ 2 ∷ 3 ∷ [])

-- the keys of the directory
abbrev pub by_name : KeyShape
by_name = key_at tenant_tree 1 (2 ∷ [])

abbrev pub by_digest : KeyShape
by_digest = key_at tenant_tree 2 (3 ∷ [])

abbrev pub ledger_tables : List ℕ
ledger_tables =
    schema_tree ∷ tenant_tree ∷ clock_tree ∷ account_tree ∷ transfer_tree ∷ balance_tree
    ∷ status_tree ∷ history_tree ∷ failed_tree ∷ []

abbrev pub ledger_keys : List KeyShape
ledger_keys =
    by_name ∷ by_digest ∷ by_id account_tree ∷ by_time account_tree 7 ∷ by_id transfer_tree
    ∷ by_time transfer_tree 12 ∷ by_id balance_tree ∷ by_id status_tree ∷ by_entry
    ∷ by_id failed_tree ∷ []
