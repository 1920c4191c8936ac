-- A statement that is read to its end, part by part.
use Rattle.std.proofs.Common.{◌≡◌, ◌∙◌, refl, ℕ, inl, inr, List, [], Some, ◌++◌, Option, ap, subst, append_assoc}
use Rattle.records.specs.Machine.{Machine}
use Rattle.chain.specs.LedgerReads.{ReadsOnly}
use Rattle.chain.specs.Ledgers.{Tenants, LedgersMeaning, Finds, KeepsAll}
use Rattle.chain.proofs.StatementPieces.{HasRead}
use Rattle.parts.specs.Parts.{IsPart, chunks_left}
use Rattle.parts.proofs.LeftLemmas.{part_left}
use Rattle.parts.specs.declared.rest.Part.{Part}
use Rattle.parts.specs.declared.rest.Rest.{Rest}

pub none_read :
    {S : Type 0} (t : LedgersMeaning S) (a : S) → t.follows a a → HasRead t a a
none_read t a stays = record {
  same = λ live digest. refl;
  follows = stays;
  found = λ found may. inl may;
}

-- one more
pub read_more :
    {S : Type 0} (t : LedgersMeaning S) (old mid new : S) (A : Type 0) →
    (t.follows old mid → t.follows mid new → t.follows old new) →
    (t.is_live mid → t.is_live old) → (t.is_live new → t.is_live mid) →
    HasRead t old mid → ReadsOnly t mid new → Finds t A KeepsAll mid new → HasRead t old new
read_more t old mid new A then lived lived' before reads finds = record {
  same = λ live digest. reads.same live digest ∙ before.same (lived' live) digest;
  follows = then before.follows reads.follows;
  found = λ found may. elim (finds.found found may) [
    | inl early ↦ before.found found early
    | inr led ↦ inr (lived led.0, λ digest. led.1 digest ∙ before.same led.0 digest)
  ];
}

-- a part more
pub part_more :
    (tenants now : Tenants) (rest : Rest) (part : Part) (text more whole : List ℕ) →
    KeepsAll tenants now → IsPart [] (now rest.digest) rest part →
    text ++ chunks_left tenants (Some rest) ≡ whole → more ≡ text ++ part.chunks →
    more ++ chunks_left tenants part.rest ≡ whole
part_more tenants now rest part text more whole keeps is so_far grown =
    let there = subst (λ (o : Option Machine). IsPart [] o rest part) (keeps rest.digest) is in
    ap (λ (xs : List ℕ). xs ++ chunks_left tenants part.rest) grown
    ∙ append_assoc text part.chunks (chunks_left tenants part.rest)
    ∙ ap (λ (xs : List ℕ). text ++ xs) (part_left tenants rest part there)
    ∙ so_far
