use Rattle.std.proofs.Common.{refl, rules}
use Rattle.store.proofs.ReadLemmas.{reads_here, reads_open}
use Rattle.store.proofs.store.Store.all_rows.Goals as goal

pub all_rows-rows-requires : goal.all_rows-rows-requires
all_rows-rows-requires g c = reads_here g.D.Disk c.args.self.now _ c.in-Open.is (search rules) c.requires

pub returns-clause-reads : goal.returns-clause-reads
returns-clause-reads g c = reads_open g.D.Disk c.all_rows-rows.result c.is_disk_fault.result c.args.self.now _ c.in-Open.tables c.all_rows-rows.new.tables c.in-Open.is refl (search rules) refl c.is_disk_fault.ensures c.requires refl c.all_rows-rows.ensures.reads
