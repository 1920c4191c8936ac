-- What stands in a file of FILE-sums once a part was written.
use Rattle.std.proofs.Common.{◌≡◌, ◌≤◌, ◌+◌, ◌∙◌, ℕ, zero, suc, List, [], ◌∷◌, ◌++◌, length, take, drop, Option, Some, refl, sym, ap, subst, arith, append-nil, append_assoc, length-append}
use Rattle.std.proofs.lemmas.List.{length-take, length-take-le, take_all, take_at}
use Rattle.file_sums.specs.Sums.{Knows}
use Rattle.file_sums.specs.declared.record.Record.{Record}
use Rattle.file_sums.specs.declared.sums.Sums.{Sums}
use Rattle.kept_sums.specs.Kept.{HasRecords, Keeps}
use Rattle.kept_sums.specs.Places.{KeepsBefore, WritesPart}

bytes_in : Option (List ℕ) → List ℕ
bytes_in (Some bytes) = bytes
bytes_in other = []

same_bytes : (a b : List ℕ) → Some a ≡ Some b → a ≡ b
unfolding bytes_in
same_bytes a b e = ap bytes_in e

no_front : (bytes : List ℕ) → take {A = ℕ} 0 bytes ≡ []
no_front [] = refl
no_front (b ∷ bytes) = refl

nothing : (n : ℕ) → drop {A = ℕ} n [] ≡ []
nothing zero = refl
nothing (suc n) = refl

-- a head that was written to an empty file
pub begun : (before after : Option (List ℕ)) (sums : Sums) (head : List ℕ) (end : ℕ) → end ≡ length head
    → WritesPart 0 head before after → before ≡ Some [] → Knows sums [] head → Keeps after sums end []
begun before after sums head end ends writes empty knows all is =
    let was = writes all is in
    let none : was.0 ≡ [] = same_bytes was.0 [] (sym was.1 ∙ empty) in
    let whole : all ≡ head =
    was.2 (omega arith) ∙ ap (λ (l : List ℕ). l ++ (head ++ drop (0 + length head) was.0)) (no_front was.0)
    ∙ ap (λ (l : List ℕ). head ++ drop (0 + length head) l) none
    ∙ ap (λ (l : List ℕ). head ++ l) (nothing (0 + length head)) ∙ append-nil head in
    record {
      long = omega (arith, ends, ap length whole);
      knows = subst (λ (l : List ℕ). Knows sums [] l)
          (sym (take_all end all (omega (arith, ends, ap length whole)) ∙ whole)) knows;
    }

module _ (before after : Option (List ℕ)) (sums : Sums) (len : ℕ) (records : List Record)
    (keeps : Keeps before sums len records) where
  -- what stood there stands
  pub stands : KeepsBefore len before after → Keeps after sums len records
  stands same all is =
      let was = same all is in
      let had = keeps was.0 was.1 in
      record {
        long = omega (arith, had.long, length-take len all, ap length was.2, length-take-le len was.0 had.long);
        knows = subst (λ (l : List ℕ). Knows sums records l) (sym was.2) had.knows;
      }

  -- a record more stands behind it
  pub further : (part : List ℕ) (next : Sums) (end : ℕ) (entry : Record) → end ≡ len + length part
      → WritesPart len part before after
      → ((bytes : List ℕ) → Knows sums records bytes → Knows next (entry ∷ records) (bytes ++ part))
      → Keeps after next end (entry ∷ records)
  further part next end entry ends writes appends all is =
      let was = writes all is in
      let had = keeps was.0 was.1 in
      let front : List ℕ = take len was.0 ++ part in
      let whole : all ≡ front ++ drop (len + length part) was.0 = was.2 had.long ∙ group (take len was.0) part (drop (len + length part) was.0) in
      let size : end ≡ length front = omega (arith, ends, length-append (take len was.0) part, length-take-le len was.0 had.long) in
      record {
        long = omega (arith, size, ap length whole, length-append front (drop (len + length part) was.0));
        knows = subst (λ (l : List ℕ). Knows next (entry ∷ records) l)
            (sym (ap (λ (l : List ℕ). take end l) whole ∙ take_at front (drop (len + length part) was.0) end (sym size)))
            (appends (take len was.0) had.knows);
      }
    where
      group : (a b c : List ℕ) → a ++ (b ++ c) ≡ (a ++ b) ++ c
      group a b c = sym (append_assoc a b c)
