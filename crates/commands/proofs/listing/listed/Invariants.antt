use Rattle.std.proofs.Common.{◌≡◌, map, take}
use Rattle.commands.specs.Listing.{row_of}
use Rattle.commands.proofs.listing.listed.Given as goal

-- There is a row for each tenant so far.
abbrev pub invariant-loop-tenant : goal.invariant-loop-tenant
invariant-loop-tenant l =
    l.rows.items ≡ map (λ tenant. row_of tenant) (take l.tenant-index l.tenants)
