-- What a batch on the tables that a book lends leaves of the book.
use Rattle.std.proofs.Common.{◌≡◌, ℕ, Bool, true, false, cond, List, [], ◌∷◌, Option, Some, option_map, inl, inr}
use Rattle.std.proofs.Common.{is_some, refl, sym, ap, ◌∙◌, subst, arith}
use Rattle.std.specs.List.{position, find, AllZip}
use Rattle.std.specs.Str.{bytes_eq}
use Rattle.std.proofs.lemmas.Slice.Eq.{bytes_eq-Decides}
use Rattle.std.proofs.lemmas.Bool.{cases_Bool}
use Rattle.std.proofs.lemmas.Bool.Decides.{not_from_Decides}
use Rattle.std.proofs.lemmas.Option.{same_Some}
use Rattle.records.specs.Machine.{Machine}
use Rattle.chain.specs.Tables.{State}
use Rattle.records.specs.Valid.{IsValid}
use Rattle.chain.specs.Ledgers.{AreValid, KeepsAll, IsDone}
use Rattle.plain.specs.declared.book.Tenant.{Tenant}
use Rattle.plain.specs.Beginning.{beginning_at}
use Rattle.plain.specs.Book.{has_digest, state_with, machine_with, ChangesOne, IsCopy}
use Rattle.plain.specs.BookLedgers.{machines_in}

-- a digest that has a place is some tenant's
pub has_place : (digest : List ℕ) (book : List Tenant) →
    is_some (position (has_digest digest) book) ≡ is_some (machine_with digest book)
has_place digest [] = refl
has_place digest (tenant ∷ book) = grind (arith, has_place digest book)

machine_of : (digest : List ℕ) (book : List Tenant) (s : State) →
    state_with digest book ≡ Some s → machine_with digest book ≡ Some s.now
machine_of digest book s found = ap (option_map (λ (state : State). state.now)) found

machine_stays : (digest : List ℕ) (old new : List Tenant) →
    state_with digest new ≡ state_with digest old →
    machine_with digest new ≡ machine_with digest old
machine_stays digest old new same = ap (option_map (λ (state : State). state.now)) same

-- tables that come back as they were lent
stays_so :
    (digest : List ℕ) (old new : List Tenant) (before after : State) →
    state_with digest old ≡ Some before → ChangesOne digest after old new →
    after.now ≡ before.now → KeepsAll (machines_in old) (machines_in new)
stays_so digest old new before after found changes same other =
    elim (cases_Bool (bytes_eq other digest)) [
      | inl is ↦
          subst (λ (d : List ℕ). machine_with d new ≡ machine_with d old)
          (sym ((bytes_eq-Decides other digest).0 is))
          (machine_of digest new after changes.own
          ∙ (ap (λ (m : Machine). Some m) same ∙ sym (machine_of digest old before found)))
      | inr not ↦
          machine_stays other old new (changes.others other
          (not_from_Decides (bytes_eq other digest) (bytes_eq-Decides other digest) not))
    ]

-- tables that come back from the end of a batch to its beginning
pub given_back :
    (digest : List ℕ) (old new : List Tenant) (before begun ran after : State) →
    state_with digest old ≡ Some before → begun ≡ beginning_at before.now →
    ran.begun ≡ begun.begun → after ≡ beginning_at ran.begun → ChangesOne digest after old new →
    KeepsAll (machines_in old) (machines_in new)
given_back digest old new before begun ran after found begins runs ends changes =
    stays_so digest old new before after found changes
    (ap (λ (s : State). s.now) ends ∙ (runs ∙ ap (λ (s : State). s.begun) begins))

-- tables that come back with an answer
pub answered :
    {O : Type 0} (gives : Machine → O → Machine → Type 0) (digest : List ℕ)
    (old new : List Tenant) (before after : State) (output : O) →
    state_with digest old ≡ Some before → ChangesOne digest after old new →
    gives before.now output after.now →
    IsDone gives digest (machines_in old) (machines_in new) output
answered gives digest old new before after output found changes given = record {
  before = before.now;
  after = after.now;
  held = machine_of digest old before found;
  given = given;
  holds = machine_of digest new after changes.own;
  others = λ other differs. machine_stays other old new (changes.others other differs);
}

-- tables that come back valid, to a book that was so
pub stay_valid :
    (digest : List ℕ) (old new : List Tenant) (after : State) → AreValid (machines_in old) →
    ChangesOne digest after old new → IsValid after.now → AreValid (machines_in new)
stay_valid digest old new after valid changes own other m found =
    elim (cases_Bool (bytes_eq other digest)) [
      | inl is ↦
          let here =
          subst (λ (d : List ℕ). machine_with d new ≡ Some m) ((bytes_eq-Decides other digest).0 is)
          found in
          subst IsValid
          (same_Some after.now m (sym (machine_of digest new after changes.own) ∙ here)) own
      | inr not ↦
          valid other m
          (sym (machine_stays other old new (changes.others other
          (not_from_Decides (bytes_eq other digest) (bytes_eq-Decides other digest) not))) ∙ found)
    ]

-- a copy has the same machines
copy_first :
    (b : Bool) (x y : Tenant) (before after : Option Tenant) → y.tables.now ≡ x.tables.now →
    option_map (λ (s : State). s.now) (option_map (λ (t : Tenant). t.tables) after)
    ≡ option_map (λ (s : State). s.now) (option_map (λ (t : Tenant). t.tables) before) →
    option_map (λ (s : State). s.now) (option_map (λ (t : Tenant). t.tables) (cond b (Some y) after))
    ≡ option_map (λ (s : State). s.now)
    (option_map (λ (t : Tenant). t.tables) (cond b (Some x) before))
copy_first true x y before after same rest = ap (λ (m : Machine). Some m) same
copy_first false x y before after same rest = rest

pub copies_keep :
    (old new : List Tenant) → AllZip IsCopy old new → KeepsAll (machines_in old) (machines_in new)
copies_keep [] [] copies digest = refl
copies_keep [] (copy ∷ new) copies digest = absurd copies
copies_keep (tenant ∷ old) [] copies digest = absurd copies
copies_keep (tenant ∷ old) (copy ∷ new) copies digest =
    ap
    (λ (b : Bool). option_map (λ (s : State). s.now)
    (option_map (λ (t : Tenant). t.tables) (cond b (Some copy) (find (has_digest digest) new))))
    (ap (λ (d : List ℕ). bytes_eq d digest) copies.0.digest)
    ∙ copy_first (has_digest digest tenant) tenant copy (find (has_digest digest) old)
    (find (has_digest digest) new) copies.0.machine (copies_keep old new copies.1 digest)
