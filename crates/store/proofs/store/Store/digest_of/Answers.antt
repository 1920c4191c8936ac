use Rattle.std.proofs.Common.{refl, rules}
use Rattle.store.proofs.ReadLemmas.{reads_here, reads_open}
use Rattle.store.proofs.store.Store.digest_of.Goals as goal

pub digest_of-digest-requires : goal.digest_of-digest-requires
digest_of-digest-requires g c = reads_here g.D.Disk c.args.self.now _ c.in-Open.is (search rules) c.requires

pub returns-clause-reads : goal.returns-clause-reads
returns-clause-reads g c = reads_open g.D.Disk c.digest_of-digest.result c.is_disk_fault.result c.args.self.now _ c.in-Open.tables c.digest_of-digest.new.tables c.in-Open.is refl (search rules) refl c.is_disk_fault.ensures c.requires refl c.digest_of-digest.ensures.reads
