use Rattle.std.proofs.Common.{◌≡◌, ◌∷◌, ◌++◌, drop, map}
use Rattle.json.specs.Token.{key}
use Rattle.json.specs.Tree.{json_tokens, items_tokens}
use Rattle.serde_json.specs.View.{items_of}
use Rattle.serde_json.specs.Written.{outline, items_outline}
use Rattle.wire.specs.Reply.{list_data}
use Rattle.wire.proofs.listed.write_list.Given as goal

-- the tokens so far and those of the values that are left are the tokens of the whole list
abbrev pub invariant-loop-shown : goal.invariant-loop-shown
invariant-loop-shown g l = record {
  before : l.writer.before ≡ l.fn.writer.before;
  tokens : l.writer.tokens
      ++ items_tokens (items_outline (items_of (map g.F.Form.shows (drop l.shown-index l.list))))
      ≡ l.fn.writer.tokens
      ++ key l.fn.name ∷ json_tokens (outline (list_data g.F.Form.shows l.list));
}
