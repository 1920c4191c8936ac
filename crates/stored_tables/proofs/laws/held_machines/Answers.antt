use Rattle.stored_tables.proofs.MachineBack.{machine_back}
use Rattle.stored_tables.proofs.laws.held_machines.Goals as goal

pub returns : goal.returns
returns c tenant m trees held =
    let order = c.rows_stand_in_order.ensures in
    machine_back tenant m trees held (c.rows_fit.ensures 3 m held.valid) c.read_in_order.ensures.ascending c.read_in_order-2.ensures.ascending c.read_in_order-3.ensures.ascending
    (order.accounts m held.valid) (order.transfers m held.valid) (order.failed m held.valid)
