-- Tenants as they are listed.
use Rattle.control.specs.declared.listing.TenantRow.{TenantRow}
use Rattle.stored_ledgers.specs.declared.directory.ListedTenant.{ListedTenant}

abbrev pub row_of : ListedTenant → TenantRow
row_of tenant = record { name = tenant.name; digest = tenant.digest; clock = tenant.clock }
