use Rattle.std.proofs.Common.{ap, map, ◌∙◌, subst, List, ℕ}
use Rattle.serde_json.specs.Data.{Data}
use Rattle.wire.specs.Reply.{member_of, object_with}
use Rattle.wire.specs.Writing.{AddsData}
use Rattle.control.specs.Entries.{entry_data}
use Rattle.control.proofs.entries.ToldFormAccountEntry.write.Goals as goal

pub returns : goal.returns
unfolding entry_data
returns c =
    subst
    (λ (members : List (List ℕ × Data)). AddsData (object_with members) c.args.writer.now
    c.write_object.new.writer c.write_object.result)
    (ap (map member_of) c.as_slice.ensures ∙ c.members_of.ensures) c.write_object.ensures
