-- The names of tenants, behind one that has joined or whose key was changed.
use Rattle.std.proofs.Common.{◌≡◌, ◌≢◌, ℕ, ℤ, pos, Bool, true, false, cond, List, ◌∷◌, filter}
use Rattle.std.proofs.Common.{Some, refl, sym, ap, ◌∙◌}
use Rattle.std.specs.List.Sorted.{IsPermutation}
use Rattle.std.specs.Str.{bytes_eq}
use Rattle.std.proofs.lemmas.Bool.{false_from_ne_true}
use Rattle.std.proofs.lemmas.Slice.Eq.{bytes_eq-Decides}
use Rattle.sqlite_value.specs.Order.{Row, column}
use Rattle.ledger_sql.specs.TableRows.{directory_rows, is_int, is_text}
use Rattle.ledger_sql.specs.Values.{directory_values}
use Rattle.stored_ledgers.specs.Keying.{without_number}
use Rattle.stored_ledgers.specs.Names.{first_named, JoiningGivesName, KeyingGivesName}
use Rattle.stored_ledgers.proofs.JoinedLemmas.{filtered}
use Rattle.stored_ledgers.proofs.KeyedLemmas.{one_apart, one_numbered, before, few_rest, alone_rest}

-- whether a row has this name
abbrev named : List ℕ → Row → Bool
named name row = is_text name (column row 1)

same_name : (name : List ℕ) → bytes_eq name name ≡ true
same_name name = (bytes_eq-Decides name name).1 refl

other_name : (name other : List ℕ) → other ≢ name → bytes_eq name other ≡ false
other_name name other differs =
    false_from_ne_true _ (λ same. differs (sym ((bytes_eq-Decides name other).0 same)))

-- the first row of a name, where a row of that name or of another stands before some rows
own_first :
    (number : ℤ) (name digest : List ℕ) (rest : List Row) →
    first_named (filter (named name) (directory_values number name digest ∷ rest)) ≡ Some digest
own_first number name digest rest =
    ap (λ b. first_named (cond b (directory_values number name digest ∷ filter (named name) rest)
    (filter (named name) rest))) (same_name name)

other_first :
    (number : ℤ) (name other digest : List ℕ) (rest : List Row) → other ≢ name →
    filter (named other) (directory_values number name digest ∷ rest) ≡ filter (named other) rest
other_first number name other digest rest differs =
    ap (λ b. cond b (directory_values number name digest ∷ filter (named other) rest)
    (filter (named other) rest)) (other_name name other differs)

pub joining_gives_name : JoiningGivesName
joining_gives_name name digest old new ledgers free joined =
    let row = directory_values (pos joined.number) name digest in
    let rows = directory_rows old.trees in
    let more = joined.joins.directory in (
      ap first_named free.0,
      record {
        own =
            ap first_named (filtered (named name) row rows (directory_rows new.trees) more
            (λ passes. free.0) (ledgers.distinct.names name))
            ∙ own_first (pos joined.number) name digest rows;
        others = λ other differs.
            ap first_named (filtered (named other) row rows (directory_rows new.trees) more
            (λ passes. absurd (differs (sym ((bytes_eq-Decides name other).0 passes))))
            (ledgers.distinct.names other)
            ∙ other_first (pos joined.number) name other digest rows differs);
      },
    )

pub keying_gives_name : KeyingGivesName
keying_gives_name name digest old new ledgers keyed =
    let had = directory_values keyed.number name keyed.was in
    let has = directory_values keyed.number name digest in
    let rows = directory_rows old.trees in
    let rest = without_number keyed.number old.trees in
    let apart : IsPermutation (had ∷ rest) rows =
    one_apart (λ row. is_int keyed.number (column row 0)) had rows
    (one_numbered name keyed.number keyed.was old.trees (ledgers.distinct.numbers keyed.number)
    keyed.named) in (
      ap first_named keyed.named,
      record {
        own =
            ap first_named (filtered (named name) has rest (directory_rows new.trees) keyed.directory
            (λ passes. alone_rest (named name) had rest rows apart (ledgers.distinct.names name)
            (same_name name))
            (few_rest (named name) had rest rows apart (ledgers.distinct.names name)))
            ∙ own_first keyed.number name digest rest;
        others = λ other differs.
            ap first_named
            (filtered (named other) has rest (directory_rows new.trees) keyed.directory
            (λ passes. absurd (differs (sym ((bytes_eq-Decides name other).0 passes))))
            (few_rest (named other) had rest rows apart (ledgers.distinct.names other))
            ∙ other_first keyed.number name other digest rest differs
            ∙ sym (other_first keyed.number name other keyed.was rest differs)
            ∙ before (named other) had rest rows apart (ledgers.distinct.names other));
      },
    )
