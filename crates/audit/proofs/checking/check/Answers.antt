use Rattle.std.proofs.Common.{subst}
use Rattle.rows.specs.TypedRows.{lists_of}
use Rattle.audit.specs.Damage.{TellsFirst}
use Rattle.audit.proofs.checking.check.Goals as goal

pub returns-in-Some-clause-unsound : goal.returns-in-Some-clause-unsound
returns-in-Some-clause-unsound c =
    let version = c.args.rows.now.version in
    let damage = c.in-Some.damage in
    let first = subst (TellsFirst version c.args.rows.now.tenants.items) c.in-Some.is c.in_ok-damage.ensures.first in
    let is = first.is in
    (is.0, is.1, is.2, is.3, λ sound. c.sound_rows_pass.ensures version (lists_of is.1.rows) sound damage.kind damage.place is.4.1)
