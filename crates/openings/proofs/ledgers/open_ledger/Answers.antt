use Rattle.std.proofs.Common.{Result, Ok, Err, IfOk}
use Rattle.std.proofs.lemmas.Result.{IfOk-weaker}
use Rattle.sqlite.specs.Files.{image_of}
use Rattle.openings.proofs.OpenedLemmas.{served}
use Rattle.openings.proofs.ledgers.open_ledger.Goals as goal

both_ok : {T E : Type 0} (r : Result T E) (P Q R : T → Type 0) → ((t : T) → P t → Q t → R t) → IfOk r P
    → IfOk r Q → IfOk r R
both_ok (Ok it) P Q R more p q = more it p q
both_ok (Err e) P Q R more p q = tt

pub returns-clause-serves : goal.returns-clause-serves
returns-clause-serves g c =
    let r = c.open_telling.result in
    served g.D.Disk (image_of g.D.Disk c.args.files) r
    (IfOk-weaker r _ _ (λ it comes. comes.opened) c.open_telling.ensures.opened)
    (IfOk-weaker r _ _ (λ it finds clean. (finds clean).0) c.open_telling.ensures.finds)

pub returns-clause-opened : goal.returns-clause-opened
returns-clause-opened g c =
    both_ok c.open_telling.result _ _ _ (λ it comes finds. record {
      opened = λ clean. (comes.opened clean, (finds clean).1);
      honest = comes.honest;
    }) c.open_telling.ensures.opened c.open_telling.ensures.finds
