use Rattle.store.proofs.NamedRows.{named_at}
use Rattle.store.proofs.store.Store.are_named.Goals as goal

pub returns : goal.returns
returns g c = named_at c.args.self.now.ready c.args.self.now.due c.args.self.now.place c.requires
