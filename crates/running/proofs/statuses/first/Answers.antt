use Rattle.std.proofs.Common.{ℕ, Option, IfSome, sym, subst}
use Rattle.std.specs.BTreeSet as sorted
use Rattle.std.specs.Bool.{IsTrue}
use Rattle.running.specs.Holds.{key_cmp}
use Rattle.running.proofs.HeldMaps.{some_copied}
use Rattle.running.proofs.statuses.first.Goals as goal

pub returns-clause-member : goal.returns-clause-member
returns-clause-member c =
    let P : ℕ × ℕ → Type 0 = λ key. IsTrue (sorted.contains key_cmp c.args.due.now key) in
    subst (λ (o : Option (ℕ × ℕ)). IfSome o P) (sym c.copied.ensures) (some_copied P c.first.result c.first.ensures.member)
