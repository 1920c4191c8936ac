use Rattle.std.proofs.Common.{subst}
use Rattle.store.specs.declared.store.Store.{Store}
use Rattle.commands.specs.Serving.{ServesStore}
use Rattle.commands.specs.declared.kept.Kept.{Kept}
use Rattle.commands.proofs.store_serving.serve_store.Goals as goal

pub returns-clause-served : goal.returns-clause-served
returns-clause-served g c =
    subst
    (λ (first : Kept (Store _ _)). ServesStore g.H.Home.opens g.C.Moments.gives g.P.Peers.does first c.args.moments.now
    c.args.peers.now c.args.most c.serve_kept.new.moments c.serve_kept.new.peers
    c.serve_kept.result.0)
    c.of-kept.ensures c.serve_kept.ensures.served.serves
