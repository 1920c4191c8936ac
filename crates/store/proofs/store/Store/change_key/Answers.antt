use Rattle.std.proofs.Common.{refl, rules}
use Rattle.stored_ledgers.specs.Keying.{keying_answer}
use Rattle.store.specs.Names.{digest_named}
use Rattle.store.proofs.DeedLemmas.{deed_made, keying_deed}
use Rattle.store.proofs.store.Store.change_key.Goals as goal

pub returns : goal.returns
returns g c =
    let did = deed_made (keying_deed c.keying_moves_key.ensures c.args.name.now c.args.digest.now) c.args.self.now c.in-Open.tables
    c.change_key-keyed.new.tables c.in-Open.is (search rules) c.is_disk_fault.ensures c.requires keying_answer c.keying_answer.ensures.told refl
    c.keying_answer.ensures.disk c.change_key-keyed.ensures c.is_settled.ensures in
    record { told = did.told; finds = did.finds; answers = did.answers; whose = did.moves; moves = (digest_named c.args.self.now c.args.name.now, did.moves) }
