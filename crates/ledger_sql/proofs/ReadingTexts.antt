-- A text that only reads, over any schema.
use Rattle.std.proofs.Common.{◌≡◌, ℕ, List, [], true, false, cond, Ok, Err, None, Result, refl}
use Rattle.sqlite_ast.specs.declared.Statement.{Statement}
use Rattle.sqlite_ast.specs.declared.Statement.TheVariants as written
use Rattle.sqlite_syntax.specs.declared.statement.Parsed.{Parsed}
use Rattle.sqlite_schema.specs.declared.schema.Schema.{Schema}
use Rattle.sqlite_schema.specs.declared.schema.Table.{Table}
use Rattle.sqlite_schema.specs.declared.command.Command.{Command}
use Rattle.sqlite_resolve.specs.Lowering.{Checked, and_then}
use Rattle.sqlite_resolve.specs.declared.compiled.Compiled.{Compiled}
use Rattle.sqlite_resolve.specs.declared.error.CompileError.{CompileError}
use Rattle.sqlite_resolve.specs.declared.error.CompileError.TheVariants.{NoSuchTable}
use Rattle.sqlite_resolve.specs.Compile.{compiled, first, planned, meaning, returning, timed, command, read, with_command}
use Rattle.sqlite.specs.Listing.{understood, reads_listing, if_select, is_select, listing_schema}
use Rattle.ledger_sql.specs.Schema.{ledger_schema}
use Rattle.ledger_sql.specs.Effects.{IsLedger, StartsAs}
use Rattle.ledger_sql.proofs.OverTables.{IsBefore, over_tables, over_ledger}
use Rattle.ledger_sql.specs.Queries.{IsSelect, IsTimelessSelect, IsReading}

-- the text only reads, and where these tables come first it means this
pub record IsQuery (ours : List Table) (Is : List ℕ → Schema → Type 0) (text : List ℕ) : Type 0 where
  pub reads : IsReading text
  pub over : IsBefore ours (Is text)

pub table_means : {ours : List Table} {Is : List ℕ → Schema → Type 0} {text : List ℕ} → IsQuery ours Is text → (s : Schema) → StartsAs ours s → Is text s
table_means {ours} {Is} {text} query = over_tables ours (Is text) query.over

pub ledger_means : {Is : List ℕ → Schema → Type 0} {text : List ℕ} → IsQuery ledger_schema.tables Is text → (s : Schema) → IsLedger s → Is text s
ledger_means {Is} {text} query = over_ledger (Is text) query.over

-- it has no RETURNING and does not read the time, or it is not understood
abbrev pub IsCalm : Result Compiled CompileError → Type 0
IsCalm (Ok c) = (c.returning ≡ None) × (c.formats ≡ [])
IsCalm (Err e) = Unit {0}

calm_read : (p : Parsed) (formats : List (List ℕ)) → formats ≡ [] → (r : Checked Command)
    → IsCalm (and_then (and_then (and_then r (λ c. Ok (c, None))) (λ found. Ok (formats, found))) (λ plan. Ok (with_command p plan)))
calm_read p formats none (Ok c) = (refl, none)
calm_read p formats none (Err e) = tt

calm_statement : (s : Schema) (p : Parsed) (it : Statement) → p.statement ≡ it → IsSelect it → p.formats ≡ [] → IsCalm (and_then (planned s p) (λ plan. Ok (with_command p plan)))
unfolding planned meaning returning timed command
calm_statement s p (written.Select q) is _ none = rw is (calm_read p p.formats none (read s q))
calm_statement s p _ is other none = absurd other

calm_compiled : (text : List ℕ) → IsReading text → (s : Schema) → IsCalm (compiled s text)
unfolding compiled IsReading
calm_compiled text query s = at (first text) query
  where
    at : (r : Checked Parsed) → IsTimelessSelect r → IsCalm (and_then r (λ p. and_then (planned s p) (λ plan. Ok (with_command p plan))))
    at (Ok p) (is, none) = calm_statement s p p.statement refl is none
    at (Err e) other = absurd other

calm_listing : (r : Result Compiled CompileError) → IsCalm r → IsCalm (if_select r)
calm_listing (Ok c) calm = elim (is_select c.command) as (λ b. IsCalm (cond b (Ok c) (Err NoSuchTable))) [ true ↦ calm | false ↦ tt ]
calm_listing (Err e) calm = tt

-- whatever the tables are, the text writes nothing
pub calm_text : (text : List ℕ) → IsReading text → (s : Schema) → IsCalm (understood s text)
unfolding understood
calm_text text query s = elim (reads_listing s text) as (λ b. IsCalm (cond b (if_select (compiled listing_schema text)) (compiled s text))) [
  | true ↦ calm_listing _ (calm_compiled text query listing_schema)
  | false ↦ calm_compiled text query s
]
