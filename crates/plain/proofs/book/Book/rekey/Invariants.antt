use Rattle.std.proofs.Common.{◌≡◌}
use Rattle.plain.proofs.Rekeyed.{front}
use Rattle.plain.proofs.book.Book.rekey.Given as goal

-- The tenants so far have been looked at.
abbrev pub invariant-loop-tenant : goal.invariant-loop-tenant
invariant-loop-tenant l =
    l.tenant-items ≡ front l.was l.digest l.tenant-index l.fn.self
