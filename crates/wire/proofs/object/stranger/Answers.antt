use Rattle.std.proofs.Common.{◌≡◌, ◌∙◌, Some, sym, ap}
use Rattle.std.specs.Prelude.{is_none, option_map}
use Rattle.wire.specs.Fields.{is_among, known_names}
use Rattle.wire.specs.Misfits.{first_stranger}
use Rattle.wire.specs.Trees.{members_data, tree_data}
use Rattle.wire.proofs.Misfits.{a_stranger}
use Rattle.wire.proofs.Objects.{first_stranger-object, has_only-object, is_none-find}
use Rattle.wire.proofs.object.stranger.Goals as goal

pub returns-in-Some-first_stranger-clause-some : goal.returns-in-Some-first_stranger-clause-some
returns-in-Some-first_stranger-clause-some g c =
    let known = known_names g.O.Object.fields in
    let d = tree_data c.args.value.now in
    let name = c.in-Some-first_stranger.name.now in
    let first : first_stranger known d ≡ Some name =
    first_stranger-object known d (members_data c.in-Some.members.now) (sym c.in-Some.ensures)
    ∙ sym c.in-Some-first_stranger.ensures in
    a_stranger g.O.Object.fields d c.of_field.result name
    (ap (option_map (λ n. n.now)) c.of_field.ensures.field) c.of_field.ensures.wanted first

pub returns-in-Some-first_stranger-clause-none : goal.returns-in-Some-first_stranger-clause-none
returns-in-Some-first_stranger-clause-none g c =
    let known = known_names g.O.Object.fields in
    ap is_none c.in-Some-first_stranger.ensures ∙ is_none-find (is_among known) _
    ∙ sym (has_only-object known _ _ (sym c.in-Some.ensures))

pub returns-in-None-clause-none : goal.returns-in-None-clause-none
returns-in-None-clause-none g c =
    let known = known_names g.O.Object.fields in
    ap is_none c.in-None.ensures ∙ is_none-find (is_among known) _
    ∙ sym (has_only-object known _ _ (sym c.in-Some.ensures))
