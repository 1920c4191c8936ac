use Rattle.std.proofs.Common.{[], ◌∷◌, ◌^◌, codes, Err, sym, ap, ◌∙◌}
use Rattle.std.specs.Prelude.{is_none}
use Rattle.std.proofs.lemmas.Result.{err_from_is_err_and}
use Rattle.wire.specs.declared.wanted.Wanted.TheVariants.{Digits128, Digits64, WholeBelow}
use Rattle.wire.specs.Fields.{KnownFields}
use Rattle.wire.specs.KnownObjects.{tag_fields}
use Rattle.wire.specs.Trees.{tree_data}
use Rattle.wire.proofs.Misfits.{after_good, after_one, at_bad, in_first}
use Rattle.wire.proofs.known_objects.AccountEventObject.read_fields.Goals as goal

-- the fields behind the tags, from each of them on
abbrev from_timestamp : KnownFields
from_timestamp = (codes "timestamp", Digits64) ∷ []

abbrev from_flags : KnownFields
from_flags = (codes "flags", WholeBelow (2 ^ 16)) ∷ from_timestamp

abbrev from_credits_posted : KnownFields
from_credits_posted = (codes "credits_posted", Digits128) ∷ from_flags

abbrev from_credits_pending : KnownFields
from_credits_pending = (codes "credits_pending", Digits128) ∷ from_credits_posted

abbrev from_debits_posted : KnownFields
from_debits_posted = (codes "debits_posted", Digits128) ∷ from_credits_pending

abbrev from_debits_pending : KnownFields
from_debits_pending = (codes "debits_pending", Digits128) ∷ from_debits_posted

abbrev from_id : KnownFields
from_id = (codes "id", Digits128) ∷ from_debits_pending

pub returns-in_err-tags-clause-misfit : goal.returns-in_err-tags-clause-misfit
returns-in_err-tags-clause-misfit c =
    let p = err_from_is_err_and c.from_residual.result c.from_residual.ensures.1 in
    rw (p.1 ∙ ap Err p.2)
    (in_first tag_fields from_id (tree_data c.args.object.now) _ c.in_err-tags.ensures.misfit)

pub returns-in_err-u128_field-clause-misfit : goal.returns-in_err-u128_field-clause-misfit
returns-in_err-u128_field-clause-misfit c =
    let d = tree_data c.args.object.now in
    let p = err_from_is_err_and c.from_residual-in_err-u128_field.result c.from_residual-in_err-u128_field.ensures.1 in
    rw (p.1 ∙ ap Err p.2)
    (after_good tag_fields from_id d _ c.in_ok-tags.ensures.misfit
    (at_bad (codes "id", Digits128) from_debits_pending d _
    c.in_err-u128_field.ensures.misfit))

pub returns-in_err-u128_field-2-clause-misfit : goal.returns-in_err-u128_field-2-clause-misfit
returns-in_err-u128_field-2-clause-misfit c =
    let d = tree_data c.args.object.now in
    let p = err_from_is_err_and c.from_residual-in_err-u128_field-2.result c.from_residual-in_err-u128_field-2.ensures.1 in
    rw (p.1 ∙ ap Err p.2)
    (after_good tag_fields from_id d _ c.in_ok-tags.ensures.misfit
    (after_one (codes "id", Digits128) from_debits_pending d _
    (ap is_none (sym c.in_ok-u128_field.ensures.value))
    (at_bad (codes "debits_pending", Digits128) from_debits_posted d _
    c.in_err-u128_field-2.ensures.misfit)))

pub returns-in_err-u128_field-3-clause-misfit : goal.returns-in_err-u128_field-3-clause-misfit
returns-in_err-u128_field-3-clause-misfit c =
    let d = tree_data c.args.object.now in
    let p = err_from_is_err_and c.from_residual-in_err-u128_field-3.result c.from_residual-in_err-u128_field-3.ensures.1 in
    rw (p.1 ∙ ap Err p.2)
    (after_good tag_fields from_id d _ c.in_ok-tags.ensures.misfit
    (after_one (codes "id", Digits128) from_debits_pending d _
    (ap is_none (sym c.in_ok-u128_field.ensures.value))
    (after_one (codes "debits_pending", Digits128) from_debits_posted d _
    (ap is_none (sym c.in_ok-u128_field-2.ensures.value))
    (at_bad (codes "debits_posted", Digits128) from_credits_pending d _
    c.in_err-u128_field-3.ensures.misfit))))

pub returns-in_err-u128_field-4-clause-misfit : goal.returns-in_err-u128_field-4-clause-misfit
returns-in_err-u128_field-4-clause-misfit c =
    let d = tree_data c.args.object.now in
    let p = err_from_is_err_and c.from_residual-in_err-u128_field-4.result c.from_residual-in_err-u128_field-4.ensures.1 in
    rw (p.1 ∙ ap Err p.2)
    (after_good tag_fields from_id d _ c.in_ok-tags.ensures.misfit
    (after_one (codes "id", Digits128) from_debits_pending d _
    (ap is_none (sym c.in_ok-u128_field.ensures.value))
    (after_one (codes "debits_pending", Digits128) from_debits_posted d _
    (ap is_none (sym c.in_ok-u128_field-2.ensures.value))
    (after_one (codes "debits_posted", Digits128) from_credits_pending d _
    (ap is_none (sym c.in_ok-u128_field-3.ensures.value))
    (at_bad (codes "credits_pending", Digits128) from_credits_posted d _
    c.in_err-u128_field-4.ensures.misfit)))))

pub returns-in_err-u128_field-5-clause-misfit : goal.returns-in_err-u128_field-5-clause-misfit
returns-in_err-u128_field-5-clause-misfit c =
    let d = tree_data c.args.object.now in
    let p = err_from_is_err_and c.from_residual-in_err-u128_field-5.result c.from_residual-in_err-u128_field-5.ensures.1 in
    rw (p.1 ∙ ap Err p.2)
    (after_good tag_fields from_id d _ c.in_ok-tags.ensures.misfit
    (after_one (codes "id", Digits128) from_debits_pending d _
    (ap is_none (sym c.in_ok-u128_field.ensures.value))
    (after_one (codes "debits_pending", Digits128) from_debits_posted d _
    (ap is_none (sym c.in_ok-u128_field-2.ensures.value))
    (after_one (codes "debits_posted", Digits128) from_credits_pending d _
    (ap is_none (sym c.in_ok-u128_field-3.ensures.value))
    (after_one (codes "credits_pending", Digits128) from_credits_posted d _
    (ap is_none (sym c.in_ok-u128_field-4.ensures.value))
    (at_bad (codes "credits_posted", Digits128) from_flags d _
    c.in_err-u128_field-5.ensures.misfit))))))

pub returns-in_err-u16_field-clause-misfit : goal.returns-in_err-u16_field-clause-misfit
returns-in_err-u16_field-clause-misfit c =
    let d = tree_data c.args.object.now in
    let p = err_from_is_err_and c.from_residual-in_err-u16_field.result c.from_residual-in_err-u16_field.ensures.1 in
    rw (p.1 ∙ ap Err p.2)
    (after_good tag_fields from_id d _ c.in_ok-tags.ensures.misfit
    (after_one (codes "id", Digits128) from_debits_pending d _
    (ap is_none (sym c.in_ok-u128_field.ensures.value))
    (after_one (codes "debits_pending", Digits128) from_debits_posted d _
    (ap is_none (sym c.in_ok-u128_field-2.ensures.value))
    (after_one (codes "debits_posted", Digits128) from_credits_pending d _
    (ap is_none (sym c.in_ok-u128_field-3.ensures.value))
    (after_one (codes "credits_pending", Digits128) from_credits_posted d _
    (ap is_none (sym c.in_ok-u128_field-4.ensures.value))
    (after_one (codes "credits_posted", Digits128) from_flags d _
    (ap is_none (sym c.in_ok-u128_field-5.ensures.value))
    (at_bad (codes "flags", WholeBelow (2 ^ 16)) from_timestamp d _
    c.in_err-u16_field.ensures.misfit)))))))

pub returns-in_err-u64_field-clause-misfit : goal.returns-in_err-u64_field-clause-misfit
returns-in_err-u64_field-clause-misfit c =
    let d = tree_data c.args.object.now in
    let p = err_from_is_err_and c.from_residual-in_err-u64_field.result c.from_residual-in_err-u64_field.ensures.1 in
    rw (p.1 ∙ ap Err p.2)
    (after_good tag_fields from_id d _ c.in_ok-tags.ensures.misfit
    (after_one (codes "id", Digits128) from_debits_pending d _
    (ap is_none (sym c.in_ok-u128_field.ensures.value))
    (after_one (codes "debits_pending", Digits128) from_debits_posted d _
    (ap is_none (sym c.in_ok-u128_field-2.ensures.value))
    (after_one (codes "debits_posted", Digits128) from_credits_pending d _
    (ap is_none (sym c.in_ok-u128_field-3.ensures.value))
    (after_one (codes "credits_pending", Digits128) from_credits_posted d _
    (ap is_none (sym c.in_ok-u128_field-4.ensures.value))
    (after_one (codes "credits_posted", Digits128) from_flags d _
    (ap is_none (sym c.in_ok-u128_field-5.ensures.value))
    (after_one (codes "flags", WholeBelow (2 ^ 16)) from_timestamp d _
    (ap is_none (sym c.in_ok-u16_field.ensures.value))
    (at_bad (codes "timestamp", Digits64) [] d _
    c.in_err-u64_field.ensures.misfit))))))))
