-- What a change of key makes of the tenants' machines.
use Rattle.std.proofs.Common.{◌≡◌, ◌≢◌, Bool, true, false, List, ℕ, bytes_eq, Some, None}
use Rattle.std.proofs.Common.{if◌then◌else◌, refl, sym, ap, ◌∙◌}
use Rattle.std.proofs.lemmas.Bool.{true≢false}
use Rattle.std.proofs.lemmas.Slice.Eq.{bytes_eq-Decides}
use Rattle.records.specs.Machine.{Machine}
use Rattle.chain.specs.Ledgers.{Tenants}
use Rattle.service.specs.Deeds.{Keyed, IsDeedDone, exchanged}

-- the first of two digests is exchanged for the second
exchanged_first : (one other : List ℕ) → exchanged one other one ≡ other
exchanged_first one other = rw ((bytes_eq-Decides one one).1 refl) refl

module _ (was digest : List ℕ) (old new : Tenants) (machine : Machine) (had : old was ≡ Some machine)
    (has : new digest ≡ Some machine) (free : was ≢ digest → old digest ≡ None)
    (gone : was ≢ digest → new was ≡ None)
    (others : (other : List ℕ) → other ≢ was → other ≢ digest → new other ≡ old other) where
  others_moved :
      (first second : Bool) (other : List ℕ) → bytes_eq other was ≡ first →
      bytes_eq other digest ≡ second → other ≢ was →
      new (if first then digest else if second then was else other) ≡ old other
  others_moved true second other is also differs =
      absurd (differs ((bytes_eq-Decides other was).0 is))
  others_moved false true other is also differs =
      let same = (bytes_eq-Decides other digest).0 also in
      let moved : was ≢ digest = λ (unmoved : was ≡ digest). differs (same ∙ sym unmoved) in
      gone moved ∙ (sym (free moved) ∙ sym (ap old same))
  others_moved false false other is also differs =
      others other differs (λ (same : other ≡ digest).
      true≢false (sym ((bytes_eq-Decides other digest).1 same) ∙ also))

  -- a machine that stands under another digest from then on, where there was none, leaves none behind
  pub key_changed : IsDeedDone (Keyed was digest) old new
  key_changed = record {
    may = ((machine, had), free);
    own = ap new (exchanged_first was digest) ∙ (has ∙ sym had);
    others = λ other differs.
        others_moved (bytes_eq other was) (bytes_eq other digest) other refl refl differs;
  }
