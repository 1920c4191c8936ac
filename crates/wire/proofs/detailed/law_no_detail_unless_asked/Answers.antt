use Rattle.std.proofs.Common.{refl}
use Rattle.wire.proofs.detailed.law_no_detail_unless_asked.Goals as goal

pub returns : goal.returns
returns c = λ question refusal none. rw none refl
