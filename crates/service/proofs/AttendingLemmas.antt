-- What a service does for a tenant between messages.
use Rattle.std.proofs.Common.{◌≡◌, ℕ, Bool, true, false, nat_lt, cond, [], Option, Some}
use Rattle.std.proofs.Common.{refl, subst}
use Rattle.records.specs.Machine.{Machine}
use Rattle.records.specs.Chains.{chains_of, after_chains}
use Rattle.records.specs.Step.{at_clock, clock_after, max_clock, step_machine, transfer_rules}
use Rattle.service.specs.Attending.{MayTry, Joins, Changes_key, Settles, Reads_part}
use Rattle.service.specs.Attending.{BooksNothing, ServiceBooksNothing}
use Rattle.service.specs.Deeds.{Deed, after_deed}

still_books : (m : Machine) → BooksNothing m m
still_books m = record { accounts = refl; transfers = refl; failed = refl }

at_clock_books : (over : Bool) (m : Machine) (clock : ℕ) → BooksNothing m (cond over m (at_clock m clock))
at_clock_books true m clock = still_books m
at_clock_books false m clock = record { accounts = refl; transfers = refl; failed = refl }

settled_books : (m : Machine) (moment : ℕ) → BooksNothing m (step_machine transfer_rules m [] moment)
unfolding step_machine chains_of after_chains
settled_books m moment =
    at_clock_books (nat_lt max_clock (clock_after m 0 moment)) m (clock_after m 0 moment)

books_by :
    (m left now : Machine) → Some left ≡ Some now → BooksNothing m left → BooksNothing m now
books_by m left now is books =
    let same : left ≡ now = cc in subst (λ (n : Machine). BooksNothing m n) same books

books_so :
    (given : Option ℕ) (deed : Deed) → MayTry given deed →
    (m now : Machine) → after_deed deed (Some m) ≡ Some now → BooksNothing m now
books_so given deed (Joins digest) m now is = books_by m m now is (still_books m)
books_so given deed (Changes_key was other) m now is = books_by m m now is (still_books m)
books_so given deed (Settles digest moment until asked within) m now is =
    books_by m (step_machine transfer_rules m [] until) now is (settled_books m until)
books_so given deed (Reads_part digest account) m now is = books_by m m now is (still_books m)

pub books_nothing : ServiceBooksNothing
books_nothing given deed may = record {
  given = given;
  may = may;
  books = books_so given deed may;
}
