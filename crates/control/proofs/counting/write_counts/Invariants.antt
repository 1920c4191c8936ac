use Rattle.std.proofs.Common.{◌≡◌, ◌++◌, drop, map}
use Rattle.json.specs.Tree.{json_tokens, members_tokens}
use Rattle.serde_json.specs.Written.{outline, members_outline}
use Rattle.wire.specs.Reply.{members_with, object_with}
use Rattle.control.specs.Counting.{count_member}
use Rattle.control.proofs.counting.write_counts.Given as goal

-- the tokens so far and those of the counts that are left are the tokens of all
abbrev pub invariant-loop-count : goal.invariant-loop-count
invariant-loop-count l = record {
  before : l.writer.before ≡ l.fn.writer.before;
  tokens : l.writer.tokens
      ++ members_tokens (members_outline (members_with (map count_member (drop l.count-index l.counts))))
      ≡ l.fn.writer.tokens ++ json_tokens (outline (object_with (map count_member l.counts)));
}
