use Rattle.std.proofs.Common.{inl, inr}
use Rattle.command_line.proofs.read.named.Goals as goal

pub over_store-requires-clause-filled : goal.over_store-requires-clause-filled
over_store-requires-clause-filled c = elim c.requires [
  | inl lint ↦ absurd (c.in_default.not-lint lint)
  | inr other ↦ elim other [
    | inl version ↦ absurd (c.in_default.not-version version)
    | inr filled ↦ filled.1
  ]
]
