use Rattle.std.proofs.Common.{not, option_map}
use Rattle.wire.specs.Fields.{is_among, known_names}
use Rattle.wire.proofs.Objects.{KnowsFirst}
use Rattle.wire.proofs.object.first_stranger.Given as goal

abbrev pub invariant-loop-member : goal.invariant-loop-member
invariant-loop-member g l =
    KnowsFirst (λ name. not (is_among (known_names g.O.Object.fields) name)) l.members
    l.member-index (option_map (λ name. name.now) l.first)
