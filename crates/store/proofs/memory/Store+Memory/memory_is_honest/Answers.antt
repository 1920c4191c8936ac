use Rattle.std.proofs.Common.{refl}
use Rattle.store.proofs.MemoryLemmas.{place_is_honest}
use Rattle.store.proofs.memory.Store+Memory.memory_is_honest.Goals as goal

pub returns : goal.returns
returns c = place_is_honest (λ file. refl) c.args.self.now.place
