use Rattle.std.proofs.Common.{refl}
use Rattle.whole_runs.proofs.named_book.NamedBookReopening.open_again.Goals as goal

pub returns-clause-opened : goal.returns-clause-opened
returns-clause-opened c =
    record { member = λ live. ∣ (λ digest. refl) ∣₁; found = λ found keeps. (c.are_live.ensures, keeps) }

pub returns-clause-named : goal.returns-clause-named
returns-clause-named c =
    record { member = λ live. ∣ (λ name. refl) ∣₁; found = λ found keeps. (c.are_live.ensures, keeps) }
