-- The list of tenants, as a body and as lines.
use Rattle.std.specs.Prelude.{◌≡◌, ℕ, List, [], ◌∷◌, ◌++◌, codes, decimal, Option, Some, option_map, option_and_then}
use Rattle.hex.specs.Hex.{encode_lower}
use Rattle.serde_json.specs.Data.{Data, string, Items, no_items, item}
use Rattle.serde_json.specs.Find.{as_array, get}
use Rattle.wire.specs.Body.{json_of}
use Rattle.wire.specs.Reply.{list_data, object_with}
use Rattle.command_texts.specs.Lines.{tenant_line}
use Rattle.control.specs.Members.{text_at}
use Rattle.control.specs.declared.listing.TenantRow.{TenantRow}

-- a tenant
abbrev pub row_data : TenantRow → Data
row_data row = object_with (
    (codes "name", string row.name)
    ∷ (codes "digest", string (encode_lower row.digest))
    ∷ (codes "clock", string (decimal row.clock))
    ∷ [])

-- the tenants
abbrev pub rows_data : List TenantRow → Data
rows_data rows = object_with ((codes "tenants", list_data row_data rows) ∷ [])

-- the line of a tenant
abbrev pub row_line : Data → Option (List ℕ)
row_line d =
    option_and_then (λ name.
    option_and_then (λ digest.
    option_map (tenant_line name digest) (text_at (codes "clock") d))
    (text_at (codes "digest") d))
    (text_at (codes "name") d)

-- the lines of all
abbrev pub row_lines : Items → Option (List ℕ)
row_lines no_items = Some []
row_lines (item d ds) =
    option_and_then (λ line. option_map (λ lines. line ++ lines) (row_lines ds)) (row_line d)

-- a body has these lines
abbrev pub HasLines : List ℕ → List ℕ → Type 0
HasLines body lines =
    option_and_then row_lines (option_and_then as_array
    (option_and_then (get (codes "tenants")) (json_of body))) ≡ Some lines
