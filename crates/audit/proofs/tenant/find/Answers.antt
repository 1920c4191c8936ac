use Rattle.std.proofs.Common.{ℕ, Option, subst}
use Rattle.std.specs.Option.{IfNone}
use Rattle.rows.specs.TypedRows.{lists_of}
use Rattle.audit.specs.declared.damage.DamageKind.TheVariants as kind
use Rattle.audit.specs.Shapes.{AreShaped}
use Rattle.audit.proofs.Stages.{none_yet, answers_found, still_clear, first_of_told}
use Rattle.audit.proofs.tenant.find.Goals as goal

pub returns-in-Some-clause-first : goal.returns-in-Some-clause-first
returns-in-Some-clause-first c =
    let rows = lists_of c.args.rows.now in
    let v = c.args.version in
    answers_found v rows kind.Shape c.in-Some.place c.first_misshapen.result c.damage_at.result (none_yet v rows) c.first_misshapen.ensures.first c.in-Some.is c.damage_at.ensures

pub read-requires : goal.read-requires
read-requires c = subst (λ (o : Option ℕ). IfNone o (AreShaped (lists_of c.args.rows.now))) c.in_default.is c.first_misshapen.ensures.shaped

pub returns-in-Some-time-clause-first : goal.returns-in-Some-time-clause-first
returns-in-Some-time-clause-first c =
    let rows = lists_of c.args.rows.now in
    let v = c.args.version in
    let held = c.in_ok-told.ensures in
    let clear = still_clear v rows kind.Shape c.first_misshapen.result (none_yet v rows) c.first_misshapen.ensures.first c.in_default.is in
    let first = first_of_told c.cells_tell_rows.ensures v rows held.0 kind.Timestamp c.in_ok-time.time held.1 (c.in_ok-time.ensures held.0 held.2) in
    answers_found v rows kind.Timestamp c.in-Some-time.place c.in_ok-time.time c.damage_at-in-Some-time.result clear first c.in-Some-time.is c.damage_at-in-Some-time.ensures

pub find_in_entries-requires-clause-clear : goal.find_in_entries-requires-clause-clear
find_in_entries-requires-clause-clear c =
    let rows = lists_of c.args.rows.now in
    let v = c.args.version in
    let held = c.in_ok-told.ensures in
    let clear = still_clear v rows kind.Shape c.first_misshapen.result (none_yet v rows) c.first_misshapen.ensures.first c.in_default.is in
    let first = first_of_told c.cells_tell_rows.ensures v rows held.0 kind.Timestamp c.in_ok-time.time held.1 (c.in_ok-time.ensures held.0 held.2) in
    still_clear v rows kind.Timestamp c.in_ok-time.time clear first c.in_default-time.is
