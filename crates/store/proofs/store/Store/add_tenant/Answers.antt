use Rattle.std.proofs.Common.{refl, rules}
use Rattle.stored_ledgers.specs.Joining.{joining_answer}
use Rattle.store.proofs.DeedLemmas.{deed_made, joining_deed}
use Rattle.store.proofs.store.Store.add_tenant.Goals as goal

pub returns : goal.returns
returns g c =
    let did = deed_made (joining_deed c.joining_adds_one.ensures c.args.name.now c.args.digest.now) c.args.self.now c.in-Open.tables
    c.join-joined.new.tables c.in-Open.is (search rules) c.is_disk_fault.ensures c.requires joining_answer c.joining_answer.ensures.told refl
    c.joining_answer.ensures.disk c.join-joined.ensures c.is_settled.ensures in
    record { told = did.told; finds = did.finds; answers = did.answers; moves = did.moves }
