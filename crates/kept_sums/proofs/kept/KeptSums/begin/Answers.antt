use Rattle.std.proofs.Common.{Option, List, ℕ, [], ap, subst, sym}
use Rattle.file_sums.specs.declared.sums.Sums.{Sums}
use Rattle.kept_sums.specs.Kept.{Keeps}
use Rattle.kept_sums.specs.Places.{WritesPart}
use Rattle.kept_sums.proofs.KeptLemmas.{begun}
use Rattle.kept_sums.proofs.kept.KeptSums.begin.Goals as goal

pub returns : goal.returns
returns g c empty knows =
    let place = ap g.F.Place.bytes c.over.ensures.place in
    let written = subst (λ (o : Option (List ℕ)). WritesPart 0 c.args.head.now (g.F.Place.bytes c.args.place) o)
    (sym place) c.in_ok-write_part.ensures.written in
    subst (λ (s : Sums). Keeps (g.F.Place.bytes c.over.result.place) s c.over.result.len []) (sym c.over.ensures.sums)
    (begun _ _ c.args.sums c.args.head.now c.over.result.len c.over.ensures.len written empty knows)
