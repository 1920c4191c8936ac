-- A book as what keeps the ledgers of many tenants: it is always live and never fails, may be called
-- where all its machines are valid, and stands on nothing that could be opened again.
use Rattle.std.specs.Prelude.{List, false}
use Rattle.chain.specs.Backends.{BackendMeaning}
use Rattle.chain.specs.Ledgers.{Tenants, AreValid}
use Rattle.plain.specs.declared.book.Tenant.{Tenant}
use Rattle.plain.specs.Book.{machine_with}

-- the machine of each tenant of a book
abbrev pub machines_in : List Tenant → Tenants
machines_in book digest = machine_with digest book

-- what a book means
abbrev pub book_meaning : BackendMeaning (List Tenant)
book_meaning = record {
  ledgers = record {
    tenants = machines_in;
    is_live = λ book. Unit {0};
    has_failed = λ book. false;
    follows = λ old new. Unit {0};
    may_find = λ book found. ⊥;
  };
  is_usable = λ book. AreValid (machines_in book);
}
