-- Equal seals of as many records are seals of equal records, or two texts share a digest.
use Rattle.std.proofs.Common.{◌≡◌, ◌≢◌, ℕ, suc, Bool, true, false, List, [], ◌∷◌, ◌++◌, length, take, drop, refl, sym, ap, ◌∙◌, ◌⊎◌, inl, inr, arith, bytes_eq}
use Rattle.std.specs.List.{AllByRecursion}
use Rattle.std.proofs.Math.Nat.{suc-ne-zero}
use Rattle.std.proofs.lemmas.List.{append_cancel_left}
use Rattle.std.proofs.lemmas.Slice.Eq.{bytes_eq-Decides}
use Rattle.std.proofs.lemmas.Bool.Decides.{not_from_Decides}
use Rattle.std.proofs.Math.Seq.{take-append_seam}
use Rattle.amount.specs.Column.{IsOneToOne}
use Rattle.sha2.specs.Sha256.{sha256}
use Rattle.sha2.proofs.Facts256.{length-sha256}
use Rattle.seals.specs.declared.record.Record.{Record}
use Rattle.seals.specs.Seals.{Collision, next_seal, seal_from, text_of}
use Rattle.seals.proofs.Texts.{IsInWidth, same_record}

pub seal_from-append : (seal : List ℕ) (records : List Record) (newest : Record)
    → seal_from seal (records ++ newest ∷ []) ≡ next_seal (seal_from seal records) newest
unfolding seal_from
seal_from-append seal [] newest = refl
seal_from-append seal (oldest ∷ later) newest = seal_from-append (next_seal seal oldest) later newest

-- texts of one digest are one text, or at hand as two
decided : (x y : List ℕ) → sha256 x ≡ sha256 y → (x ≡ y) ⊎ Collision
decided x y same = at (bytes_eq x y) refl
  where
    at : (b : Bool) → bytes_eq x y ≡ b → (x ≡ y) ⊎ Collision
    at true is = inl ((bytes_eq-Decides x y).0 is)
    at false is = inr (record { one = x; other = y; differ = not_from_Decides (bytes_eq x y) (bytes_eq-Decides x y) is; same = same })

-- a digest and a text, of one joined text
parts : IsOneToOne → (seal other : List ℕ) (r s : Record) → length seal ≡ 32 → length other ≡ 32 → IsInWidth r → IsInWidth s
    → seal ++ text_of r ≡ other ++ text_of s → (seal ≡ other) × (r ≡ s)
parts unlike seal other r s l m v w e =
    let front : seal ≡ other = sym (front_of seal (text_of r) l) ∙ ap (take 32) e ∙ front_of other (text_of s) m in
    (front, same_record unlike r s v w (append_cancel_left other (text_of r) (text_of s) (ap (λ it. it ++ text_of r) (sym front) ∙ e)))
  where
    front_of : (seal text : List ℕ) → length seal ≡ 32 → take 32 (seal ++ text) ≡ seal
    front_of seal text l = ap (λ n. take n (seal ++ text)) (sym l) ∙ take-append_seam seal text

-- what two chains of steps that end alike began with
pub same_chain : IsOneToOne → (seal other : List ℕ) (records others : List Record) → length seal ≡ 32 → length other ≡ 32
    → length records ≡ length others → AllByRecursion IsInWidth records → AllByRecursion IsInWidth others
    → seal_from seal records ≡ seal_from other others
    → ((seal ≡ other) × (records ≡ others)) ⊎ Collision
unfolding seal_from
same_chain unlike seal other [] [] l m size v w e = inl (e, refl)
same_chain unlike seal other [] (s ∷ others) l m size v w e = absurd (suc-ne-zero (length others) (sym size))
same_chain unlike seal other (r ∷ records) [] l m size v w e = absurd (suc-ne-zero (length records) size)
same_chain unlike seal other (r ∷ records) (s ∷ others) l m size v w e =
    at (same_chain unlike (next_seal seal r) (next_seal other s) records others
    (length-sha256 (seal ++ text_of r)) (length-sha256 (other ++ text_of s)) (omega (arith, size)) v.1 w.1 e)
  where
    last : records ≡ others → (seal ++ text_of r ≡ other ++ text_of s) ⊎ Collision
        → ((seal ≡ other) × (r ∷ records ≡ s ∷ others)) ⊎ Collision
    last rest (inr found) = inr found
    last rest (inl same) =
        let both = parts unlike seal other r s l m v.0 w.0 same in
        inl (both.0, λ i. both.1 i ∷ rest i)

    at : ((next_seal seal r ≡ next_seal other s) × (records ≡ others)) ⊎ Collision
        → ((seal ≡ other) × (r ∷ records ≡ s ∷ others)) ⊎ Collision
    at (inr found) = inr found
    at (inl (same, rest)) = last rest (decided (seal ++ text_of r) (other ++ text_of s) same)
