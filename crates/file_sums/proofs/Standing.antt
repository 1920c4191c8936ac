-- What stands first in bytes.
use Rattle.std.proofs.Common.{◌≡◌, ◌<◌, ◌+◌, ◌^◌, ◌∙◌, ℕ, List, ◌++◌, length, take, refl, sym, ap, arith, append_assoc, length-append}
use Rattle.std.proofs.lemmas.List.{take_at}
use Rattle.std.specs.Int.{w32, w64, to_le_bytes}
use Rattle.sqlite_disk.specs.Digest.{digest}
use Rattle.file_sums.specs.Bytes.{kind_of, body_of, IsContent, StandsFirst}
use Rattle.file_sums.specs.declared.record.Record.{Record}
use Rattle.file_sums.specs.declared.record.Record.TheVariants.{Pages, Log, NoLog, Mark, Doubt}
use Rattle.file_sums.specs.declared.reading.Found.{Found}

-- a kind is a small number
pub kind_fits : (entry : Record) → kind_of entry < 2 ^ 32
kind_fits Pages = omega arith
kind_fits (Log salt) = omega arith
kind_fits NoLog = omega arith
kind_fits (Mark moment) = omega arith
kind_fits (Doubt place) = omega arith

-- the length of a content fits its place
pub content_fits : (entry : Record) (content : List ℕ) → IsContent entry content → length content < 2 ^ 32
content_fits Pages content is = is
content_fits (Log salt) content is = omega (arith, ap length is.1)
content_fits NoLog content is = omega (arith, ap length is)
content_fits (Mark moment) content is = omega (arith, ap length is.1)
content_fits (Doubt place) content is = omega (arith, ap length is.1)

-- the parts of bytes in which a record stands first
pub record Parts (before : ℕ) (bytes : List ℕ) (entry : Record) (seal : ℕ) : Type 0 where
  pub content : List ℕ
  pub more : List ℕ
  pub means : IsContent entry content
  pub sealed : seal ≡ digest before (body_of (kind_of entry) content)
  pub split : bytes ≡ to_le_bytes w32 (kind_of entry) ++ (to_le_bytes w32 (length content) ++ (content ++ (to_le_bytes w64 seal ++ more)))

pub parts_of : (before : ℕ) (bytes : List ℕ) (found : Found) → StandsFirst before bytes found
    → Parts before bytes found.entry found.seal
parts_of before bytes found stands = record {
  content = stands.is.content;
  more = stands.rest;
  means = stands.is.means;
  sealed = stands.is.sealed;
  split = stands.split ∙ ap (λ (l : List ℕ). l ++ stands.rest) stands.is.whole
      ∙ regroup (to_le_bytes w32 (kind_of found.entry)) (to_le_bytes w32 (length stands.is.content)) stands.is.content (to_le_bytes w64 found.seal) stands.rest;
}
  where
    regroup : (a b c d e : List ℕ) → (((a ++ b) ++ c) ++ d) ++ e ≡ a ++ (b ++ (c ++ (d ++ e)))
    regroup a b c d e = simp append_assoc

-- the record's bytes before its seal
body_front : (kind : ℕ) (content rest : List ℕ)
    → take (8 + length content) (body_of kind content ++ rest) ≡ body_of kind content
body_front kind content rest =
    take_at (body_of kind content) rest (8 + length content)
    (omega (arith, length-append (to_le_bytes w32 kind ++ to_le_bytes w32 (length content)) content))

-- what was read in parts stands first
pub built : (before kind len seal : ℕ) (bytes second third content fourth fifth : List ℕ) (entry : Record)
    → bytes ≡ to_le_bytes w32 kind ++ second → second ≡ to_le_bytes w32 len ++ third
    → third ≡ content ++ fourth → length content ≡ len → fourth ≡ to_le_bytes w64 seal ++ fifth
    → kind ≡ kind_of entry → IsContent entry content
    → seal ≡ digest before (take (8 + length content) bytes)
    → StandsFirst before bytes (record { entry = entry; seal = seal; len = 16 + length content })
built before kind len seal bytes second third content fourth fifth entry at_0 at_4 at_8 long at_end same means sealed =
    let body = body_of (kind_of entry) content in
    let start : to_le_bytes w32 kind ≡ to_le_bytes w32 (kind_of entry) = ap (λ (k : ℕ). to_le_bytes w32 k) same in
    let middle : to_le_bytes w32 len ≡ to_le_bytes w32 (length content) = ap (λ (k : ℕ). to_le_bytes w32 k) (sym long) in
    let parts : bytes ≡ to_le_bytes w32 (kind_of entry) ++ (to_le_bytes w32 (length content) ++ (content ++ (to_le_bytes w64 seal ++ fifth))) =
    at_0 ∙ (λ i. start i ++ (at_4 ∙ (λ j. middle j ++ (at_8 ∙ ap (λ (l : List ℕ). content ++ l) at_end) j)) i) in
    let grouped : bytes ≡ body ++ (to_le_bytes w64 seal ++ fifth) =
    parts ∙ sym (regroup (to_le_bytes w32 (kind_of entry)) (to_le_bytes w32 (length content)) content (to_le_bytes w64 seal ++ fifth)) in
    record {
      first = body ++ to_le_bytes w64 seal;
      rest = fifth;
      is = record {
        content = content;
        means = means;
        sealed = sealed ∙ ap (λ (l : List ℕ). digest before l) (ap (λ (l : List ℕ). take (8 + length content) l) grouped ∙ body_front (kind_of entry) content (to_le_bytes w64 seal ++ fifth));
        whole = refl;
      };
      split = grouped ∙ sym (append_assoc body (to_le_bytes w64 seal) fifth);
      len = omega (arith, length-append body (to_le_bytes w64 seal), length-append (to_le_bytes w32 (kind_of entry) ++ to_le_bytes w32 (length content)) content);
    }
  where
    regroup : (a b c d : List ℕ) → ((a ++ b) ++ c) ++ d ≡ a ++ (b ++ (c ++ d))
    regroup a b c d = simp append_assoc
