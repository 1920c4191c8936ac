-- What a book ends as, once a tenant's tables that it lent have come back.
use Rattle.std.specs.Prelude.{◌≡◌, ℕ, List, Option}
use Rattle.std.specs.Option.{OnSome}
use Rattle.std.specs.Borrow.{Fml, MutBor, Lends, LendsSo}
use Rattle.chain.specs.Tables.{State}
use Rattle.plain.specs.declared.book.Tenant.{Tenant}
use Rattle.plain.specs.contracts.plain_tables.PlainTables as tables
use Rattle.plain.specs.contracts.book.Tenant as tenant
use Rattle.plain.specs.contracts.book.Book as book
use Rattle.plain.specs.Book.{ChangesOne}

-- the tenant has the tables that are left behind r
abbrev pub LendsTables : MutBor Tenant → MutBor State → Fml
LendsTables t r = Lends tenant.the_row tables.the_row t r (λ state. record t.now { tables = state })

-- the tenant with this digest has the tables that are left behind r; where there is none, the book
-- stays
abbrev pub LendsTablesOf : List ℕ → MutBor (List Tenant) → Option (MutBor State) → Fml
LendsTablesOf digest b r =
    LendsSo book.the_row tables.the_row b r
    (λ new state. OnSome r (ChangesOne digest state b.now new)) (λ new. new ≡ b.now)
