use Rattle.rows.proofs.Shared.{own_permuted, own_pushed, others_pushed, own_after, others_after}
use Rattle.rows.proofs.table_laws.shared_by_tenants.Goals as goal

pub returns : goal.returns
returns g c = record { permuted = own_permuted; pushed = own_pushed; pushed_for_another = others_pushed; changed = own_after; changed_for_another = λ key id change tenant other rows away. others_after key tenant other id change rows away }
