use Rattle.std.proofs.Common.{arith}
use Rattle.std.proofs.lemmas.Grind.{common_steps}
use Rattle.tenants.proofs.NameLemmas.{IsUtf8-name}
use Rattle.tenants.proofs.name.TenantName.as_str.Goals as goal

pub unwrap-requires : goal.unwrap-requires
unwrap-requires c = let text = IsUtf8-name _ c.self.invariant.name in grind (arith, common_steps, text, c.from_utf8.ensures.cases)
