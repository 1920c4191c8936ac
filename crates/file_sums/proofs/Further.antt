-- One record more of what is read.
use Rattle.std.proofs.Common.{◌≡◌, ◌≤◌, ◌+◌, ◌-◌, ◌∙◌, ℕ, List, ◌∷◌, ◌++◌, length, take, drop, refl, sym, ap, arith, append_assoc, length-append, length-drop}
use Rattle.std.proofs.lemmas.List.{drop_at, take_all}
use Rattle.file_sums.specs.Bytes.{StandsFirst}
use Rattle.file_sums.specs.Records.{noted_of}
use Rattle.file_sums.specs.Sums.{AreWholeTo}
use Rattle.file_sums.specs.declared.record.Record.{Record}
use Rattle.file_sums.specs.declared.noted.Noted.{Noted}
use Rattle.file_sums.specs.declared.reading.Found.{Found}
use Rattle.file_sums.specs.declared.sums.Sums.{Sums}

-- what was read, and the record that stands behind it
pub further : (bytes : List ℕ) (sums : Sums) (len : ℕ) (found : Found) (noted : Noted)
    → AreWholeTo bytes sums len → StandsFirst sums.seal (drop len bytes) found
    → ((records : List Record) → sums.noted ≡ noted_of records → noted ≡ noted_of (found.entry ∷ records))
    → AreWholeTo bytes (record { page_size = sums.page_size; key = sums.key; seal = found.seal; noted = noted }) (len + found.len)
further bytes sums len found noted so_far stands notes =
    let behind : drop len bytes ≡ so_far.rest =
    ap (λ (l : List ℕ). drop len l) so_far.split ∙ drop_at so_far.front so_far.rest len (sym so_far.size) in
    record {
      records = found.entry ∷ so_far.records;
      front = so_far.front ++ stands.first;
      rest = stands.rest;
      split = so_far.split ∙ ap (λ (l : List ℕ). so_far.front ++ l) (sym behind ∙ stands.split) ∙ sym (append_assoc so_far.front stands.first stands.rest);
      size = omega (arith, so_far.size, stands.len, length-append so_far.front stands.first);
      knows = record {
        whole = (so_far.front, stands.first, sums.seal, so_far.knows.whole, stands.is, refl);
        noted = notes so_far.records so_far.knows.noted;
      };
    }

-- the whole is not longer
pub within : (bytes : List ℕ) (sums : Sums) (len : ℕ) → AreWholeTo bytes sums len → len ≤ length bytes
within bytes sums len so_far = omega (arith, so_far.size, ap length so_far.split, length-append so_far.front so_far.rest)

-- what stands behind these bytes
pub behind : (bytes : List ℕ) (len : ℕ) → take (length bytes - len) (drop len bytes) ≡ drop len bytes
behind bytes len = take_all (length bytes - len) (drop len bytes) (omega (arith, length-drop len bytes))
