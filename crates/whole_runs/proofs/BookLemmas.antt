-- A change of key over lists.
use Rattle.std.proofs.Common.{◌≡◌, ◌≢◌, Bool, true, false, not, ℕ, List, Option, Some, None}
use Rattle.std.proofs.Common.{is_some, option_map, bytes_eq, refl, sym, ap, ◌∙◌}
use Rattle.std.specs.Prelude.{IsNone}
use Rattle.std.proofs.lemmas.Bool.{true≢false}
use Rattle.std.proofs.lemmas.Slice.Eq.{bytes_eq-Decides}
use Rattle.records.specs.Machine.{Machine}
use Rattle.chain.specs.Tables.{State}
use Rattle.plain.specs.declared.book.Tenant.{Tenant}
use Rattle.plain.specs.Book.{state_with, machine_with, ChangesOne, IsRekeyed}
use Rattle.plain.specs.BookLedgers.{machines_in}
use Rattle.service.specs.Deeds.{Keyed, IsDeedDone}
use Rattle.service.specs.DeedLaws.{key_changed}

some_of : (found : Option Machine) → found ≢ None → (m : Machine) × (found ≡ Some m)
some_of (Some m) there = (m, refl)
some_of None there = absurd (there refl)

pub none_of : (found : Option Machine) → is_some found ≡ false → found ≡ None
none_of (Some m) gone = absurd (cc)
none_of None gone = refl

no_machine : (found : Option State) → IsNone found → option_map (λ (s : State). s.now) found ≡ None
no_machine None none = refl
no_machine (Some s) none = absurd (cc)

not_false : (b : Bool) → not b ≡ false → b ≡ true
not_false true is = refl
not_false false is = absurd (cc)

pub same_digest : (was digest : List ℕ) → not (bytes_eq was digest) ≡ false → was ≡ digest
same_digest was digest is =
    (bytes_eq-Decides was digest).0 (not_false (bytes_eq was digest) is)

pub another_digest : (was digest : List ℕ) → not (bytes_eq was digest) ≡ true → was ≢ digest
another_digest was digest is same =
    true≢false (sym is ∙ ap not ((bytes_eq-Decides was digest).1 same))

-- whoever was known by another digest is known by this one
pub rekeyed_done :
    (was digest : List ℕ) (old new : List Tenant) → machine_with was old ≢ None →
    (was ≢ digest → is_some (machine_with digest old) ≡ false) → IsRekeyed was digest old new →
    IsDeedDone (Keyed was digest) (machines_in old) (machines_in new)
rekeyed_done was digest old new there free rekeyed =
    let machine = some_of (machine_with was old) there in
    key_changed was digest (machines_in old) (machines_in new) machine.0 machine.1
    (ap (option_map (λ (s : State). s.now)) rekeyed.has ∙ machine.1)
    (λ moved. none_of (machine_with digest old) (free moved))
    (λ moved. no_machine (state_with was new) (rekeyed.gone moved))
    (λ other unlike differs.
    ap (option_map (λ (s : State). s.now)) (rekeyed.others other unlike differs))

-- and is there
pub rekeyed_own :
    (was digest : List ℕ) (old new : List Tenant) → machines_in old was ≢ None →
    IsRekeyed was digest old new → machines_in new digest ≢ None
rekeyed_own was digest old new there rekeyed none =
    there (sym (ap (option_map (λ (s : State). s.now)) rekeyed.has) ∙ none)

-- nobody is known by the one before
pub rekeyed_gone :
    (was digest : List ℕ) (old new : List Tenant) → IsRekeyed was digest old new → was ≢ digest →
    machines_in new was ≡ None
rekeyed_gone was digest old new rekeyed moved = no_machine (state_with was new) (rekeyed.gone moved)

-- nobody else has moved
pub rekeyed_others :
    (was digest : List ℕ) (old new : List Tenant) → IsRekeyed was digest old new →
    (d : List ℕ) → d ≢ was → d ≢ digest → machines_in new d ≡ machines_in old d
rekeyed_others was digest old new rekeyed d unlike differs =
    ap (option_map (λ (s : State). s.now)) (rekeyed.others d unlike differs)

-- whoever has come is there
pub added_own :
    (digest : List ℕ) (tables : State) (old new : List Tenant) → ChangesOne digest tables old new →
    machines_in new digest ≢ None
added_own digest tables old new changes none =
    let there : Some tables.now ≡ None =
    sym (ap (option_map (λ (s : State). s.now)) changes.own) ∙ none in cc

-- and nobody else has moved
pub added_others :
    (digest : List ℕ) (tables : State) (old new : List Tenant) → ChangesOne digest tables old new →
    (other : List ℕ) → other ≢ digest → machines_in new other ≡ machines_in old other
added_others digest tables old new changes other differs =
    ap (option_map (λ (s : State). s.now)) (changes.others other differs)
