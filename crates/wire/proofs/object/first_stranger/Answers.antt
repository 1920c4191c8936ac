use Rattle.std.proofs.Common.{not, option_map, refl, arith}
use Rattle.serde_json.specs.Data.{no_members}
use Rattle.wire.specs.Fields.{is_among, known_names}
use Rattle.wire.proofs.Objects.{knows_all, knows_more}
use Rattle.wire.proofs.object.first_stranger.Goals as goal

pub loop-member-init : goal.loop-member-init
loop-member-init g c = (no_members, tt, refl, refl)

pub loop-member-preserved : goal.loop-member-preserved
loop-member-preserved g c =
    knows_more (λ name. not (is_among (known_names g.O.Object.fields) name)) c.args.members.now
    c.loop-member.member-index c.member-item.result _ _ c.loop-member-test.true c.member-item.is
    c.loop-member.invariant c.noted-first.ensures

pub returns : goal.returns
returns g c =
    knows_all (λ name. not (is_among (known_names g.O.Object.fields) name)) c.args.members.now
    c.loop-member.member-index _ (omega (arith, c.loop-member-test.false)) c.loop-member.invariant
