-- The names of the tenants of a book.
use Rattle.std.specs.Prelude.{ℕ, Bool, List, bytes_eq}
use Rattle.std.specs.List.{find}
use Rattle.std.specs.Option.{option_map}
use Rattle.chain.specs.Ledgers.{AreValid}
use Rattle.plain.specs.declared.book.Tenant.{Tenant}
use Rattle.plain.specs.BookLedgers.{machines_in}
use Rattle.stored_ledgers.specs.Names.{Names}
use Rattle.store.specs.Names.{AreNamed}
use Rattle.whole_runs.specs.declared.named_book.Named.{Named}

-- whether the tenant has this name
abbrev pub has_name : List ℕ → Named → Bool
has_name name named = bytes_eq named.name name

-- the digest of the first that has each name
abbrev pub names_among : List Named → Names
names_among tenants name = option_map (λ named. named.digest) (find (has_name name) tenants)

-- the tenants of a book, and their names
pub record NamedTenants : Type 0 where
  pub book : List Tenant
  pub names : List Named

-- a book of valid machines, whose tenants have these names
abbrev pub IsNamedBook : List Tenant → List Named → Type 0
IsNamedBook book tenants =
    AreValid (machines_in book) × AreNamed (names_among tenants) (machines_in book)
