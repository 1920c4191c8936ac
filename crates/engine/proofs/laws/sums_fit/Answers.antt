use Rattle.records.specs.declared.side.Side.TheVariants.{Debit, Credit}
use Rattle.engine.proofs.Sound.{sound}
use Rattle.engine.proofs.laws.sums_fit.Goals as goal

pub returns : goal.returns
returns c m valid id =
    let s = sound m valid in
    record { debits = s.sums Debit id; credits = s.sums Credit id }
