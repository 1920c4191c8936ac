use Rattle.std.proofs.Common.{◌≡◌, ◌++◌, drop, map}
use Rattle.wire.specs.Reply.{member_of}
use Rattle.wire.specs.Writing.{member_tokens}
use Rattle.wire.proofs.members.write_members.Given as goal

-- the tokens so far and those of the members that are left are the tokens of all
abbrev pub invariant-loop-member : goal.invariant-loop-member
invariant-loop-member l = record {
  before : l.writer.before ≡ l.fn.writer.before;
  tokens : l.writer.tokens ++ member_tokens (map member_of (drop l.member-index l.members))
      ≡ l.fn.writer.tokens ++ member_tokens (map member_of l.members);
}
