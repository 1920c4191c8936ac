-- What is asked of a store for an operator's call.
use Rattle.std.specs.Prelude.{◌≡◌, if◌then◌else◌, ℕ, List, map, Result, Ok, Err}
use Rattle.serde_json.specs.Written.{compact_text}
use Rattle.records.specs.declared.filter.Order.TheVariants.{Oldest, Newest}
use Rattle.records.specs.declared.query.Span.{Span}
use Rattle.command_texts.specs.declared.fault.Fault.{Fault}
use Rattle.control.specs.Bodies.{added_data, changed_data}
use Rattle.control.specs.Entries.{entries_data}
use Rattle.control.specs.Listing.{rows_data}
use Rattle.control.specs.declared.piece_asked.PieceAsked.{PieceAsked}
use Rattle.commands.specs.Listing.{row_of}
use Rattle.commands.specs.declared.orders.Done.{Done}
use Rattle.commands.specs.declared.orders.Done.TheVariants.{Changed, Listed, Read}
use Rattle.commands.specs.declared.orders.Order.{Order}
use Rattle.commands.specs.declared.orders.Order.TheVariants.{AddTenant, ChangeKey, Statement}

-- at most a thousand entries, within the bounds that the call tells
abbrev pub span_of : PieceAsked → Span
span_of piece = record {
  first = piece.from;
  last = piece.to;
  order = if piece.is_reversed then Newest else Oldest;
  most = 1000;
}

-- those of an account
abbrev pub order_of : PieceAsked → Order
order_of piece = Statement piece.tenant piece.account (span_of piece)

-- the body that tells what an order came to: the tenants that were listed; that the tenant of the
-- order was added, or has another key; or a piece that was read, its clock and its entries
abbrev pub IsBodyOf : Order → Result Done Fault → List ℕ → Type 0
IsBodyOf order (Ok (Listed tenants)) body =
    body ≡ compact_text (rows_data (map row_of tenants.items))
IsBodyOf order (Ok (Read piece)) body =
    body ≡ compact_text (entries_data piece.clock piece.entries.items)
IsBodyOf (AddTenant name digest) (Ok Changed) body = body ≡ compact_text (added_data name)
IsBodyOf (ChangeKey name digest) (Ok Changed) body = body ≡ compact_text (changed_data name)
IsBodyOf order (Ok Changed) body = ⊥
IsBodyOf order (Err fault) body = ⊥
