use Rattle.std.proofs.Common.{arith}
use Rattle.polling.proofs.AllLemmas.{none_served}
use Rattle.polling.proofs.gathered.share.Goals as goal

pub returns-then-numbers-lt2-clause-replies : goal.returns-then-numbers-lt2-clause-replies
returns-then-numbers-lt2-clause-replies g c =
    record { serves = λ next. none_served; few = omega arith }
