-- What the texts mean that read the version and the directory, whatever tables lie behind theirs.
use Rattle.std.proofs.Common.{ℕ, List, [], ◌∷◌, codes, refl}
use Rattle.sqlite_value.specs.Keys.{ascending}
use Rattle.sqlite_value.specs.declared.keys.Collation.TheVariants.{Binary}
use Rattle.sqlite_value.specs.declared.keys.Key.{Key}
use Rattle.sqlite_schema.specs.declared.schema.Schema.{Schema}
use Rattle.sqlite_sql.specs.Term.{Term, col}
use Rattle.sqlite_tied.specs.Compute.{everything}
use Rattle.sqlite.specs.Listing.{understood}
use Rattle.ledger_sql.specs.Schema.{after_schema, after_tenant}
use Rattle.ledger_sql.specs.Queries.{IsReading}
use Rattle.ledger_sql.proofs.AnswerLemmas.{IsPlainText}
use Rattle.ledger_sql.proofs.KeyLemmas.{columns_from}
use Rattle.ledger_sql.proofs.ReadingTexts.{IsQuery}

-- by the column that names the tenant, and by so many further columns
abbrev pub by_place : ℕ → Term × Key
by_place place = (col 1 place, ascending Binary)

-- a text that reads a whole table: these columns
abbrev pub IsWhole : ℕ → List Term → List (Term × Key) → List ℕ → Schema → Type 0
IsWhole tree shown order text s = IsPlainText text s tree [] shown order

pub version_query : IsQuery after_schema.tables (IsWhole 0 (columns_from 2 1) []) (codes "SELECT version FROM schema")
unfolding understood everything IsReading
version_query = record { reads = (tt, refl); over = λ _ _ _. record { names = _; is = refl; plain = (refl, refl); unlisted = refl } }

pub tenants_query : IsQuery after_tenant.tables (IsWhole 1 (col 1 0 ∷ columns_from 2 2) (by_place 0 ∷ [])) (codes "SELECT no, name, digest FROM tenant ORDER BY no")
unfolding understood everything IsReading
tenants_query = record { reads = (tt, refl); over = λ _ _ _. record { names = _; is = refl; plain = (refl, refl); unlisted = refl } }
