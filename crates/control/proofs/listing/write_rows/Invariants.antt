use Rattle.std.proofs.Common.{◌≡◌, ◌++◌, drop, map}
use Rattle.json.specs.Tree.{json_tokens, items_tokens}
use Rattle.serde_json.specs.View.{items_of}
use Rattle.serde_json.specs.Written.{outline, items_outline}
use Rattle.wire.specs.Reply.{list_data}
use Rattle.control.specs.Listing.{row_data}
use Rattle.control.proofs.listing.write_rows.Given as goal

-- the tokens so far and those of the tenants that are left are the tokens of the whole list
abbrev pub invariant-loop-row : goal.invariant-loop-row
invariant-loop-row l = record {
  before : l.writer.before ≡ l.fn.writer.before;
  tokens : l.writer.tokens
      ++ items_tokens (items_outline (items_of (map row_data (drop l.row-index l.rows))))
      ≡ l.fn.writer.tokens ++ json_tokens (outline (list_data row_data l.rows));
}
