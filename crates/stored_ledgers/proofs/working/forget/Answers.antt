use Rattle.std.proofs.Common.{◌≡◌, Some, ap, rules}
use Rattle.std.specs.BTreeMap.{get}
use Rattle.std.specs.Option.{option_copied_mut}
use Rattle.std.specs.Ordering.{int_cmp}
use Rattle.stored_tables.specs.MachineOf.{machine_of}
use Rattle.stored_ledgers.proofs.OutcomeLemmas.{sets_again}
use Rattle.stored_ledgers.proofs.working.forget.Goals as goal

pub returns-in-Some : goal.returns-in-Some
returns-in-Some c trees past covered =
    let number = c.args.past.tenant.0 in
    let sets = c.get_mut.follows.lender c.forget_past.new.due_times in
    let some : option_copied_mut c.get_mut.result ≡ Some c.in-Some.set.now =
    ap option_copied_mut c.in-Some.is in
    let was : get int_cmp c.args.due.now number ≡ Some c.in-Some.set.now =
    let value = c.get_mut.ensures.value in cc in
    let written = (c.get_mut.follows.holds c.forget_past.new.due_times).3 (search rules) in
    let found : get int_cmp sets number ≡ Some c.forget_past.new.due_times =
    let e = written.1 in cc in
    sets_again c.args.due.now sets number c.forget_past.new.due_times found
    (λ other apart. written.2 other (let a = apart in cc)) c.in-Some.set.now trees was
    (λ before. record { all = c.forget_past.ensures.covers (machine_of number trees) past before.all })
    covered
