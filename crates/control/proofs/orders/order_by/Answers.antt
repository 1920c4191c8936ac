use Rattle.std.proofs.Common.{refl}
use Rattle.control.proofs.orders.order_by.Goals as goal

pub returns-in_ok-path_of-in-Copy-clause-ordered :
    goal.returns-in_ok-path_of-in-Copy-clause-ordered
returns-in_ok-path_of-in-Copy-clause-ordered c =
    let copied = c.in_ok-path_of-in-Copy in
    rw c.in-Copy.is (copied.field-0, copied.ensures.path, refl)
