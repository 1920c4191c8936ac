-- The chunks of rows, by how many there are.
use Rattle.std.proofs.Common.{◌≡◌, ◌∙◌, ℕ, zero, suc, ◌+◌, ◌<◌, ◌≤◌, Bool, ltb, true, false, List, [], ◌∷◌, ◌++◌, length, map, take, drop, get_or, refl, sym, ap, arith, inl, inr, append_assoc, length-append, drop-cons, add-one}
use Rattle.std.proofs.lemmas.Bool.{cases_Bool, ltb-true, ltb-false}
use Rattle.std.proofs.lemmas.Bool.Decides.{nat_tests}
use Rattle.std.proofs.lemmas.List.{length-drop}
use Rattle.std.specs.Fmt.{digits}
use Rattle.ledger_http.specs.Chunks.{chunk}
use Rattle.ledger_http.specs.ReplyText.{line_end}
use Rattle.records.specs.declared.statement_row.StatementRow.{StatementRow}
use Rattle.statement.specs.Text.{line_of, lines_of}
use Rattle.chain.specs.AccountEntries.{row_of}
use Rattle.chain.specs.declared.account_entry.AccountEntry.{AccountEntry}
use Rattle.parts.specs.Chunks.{chunks_of, last_chunks, part_chunks, rows_in_a_chunk}

-- an entry's line more
pub one_line_more :
    (account : ℕ) (entries : List AccountEntry) (i : ℕ) (entry : AccountEntry) (front whole : List ℕ)
    → i < length entries → entry ≡ get_or entries i entry
    → front ++ lines_of (map (row_of account) (drop i entries)) ≡ whole
    → (front ++ line_of (row_of account entry))
    ++ lines_of (map (row_of account) (drop (i + 1) entries)) ≡ whole
one_line_more account entries i entry front whole inside is sent =
    let text = λ (es : List AccountEntry). lines_of (map (row_of account) es) in
    let from : text (drop i entries) ≡ line_of (row_of account entry) ++ text (drop (i + 1) entries) =
    ap text (drop-cons entries i entry inside)
    ∙ ap (λ (e : AccountEntry). line_of (row_of account e) ++ text (drop (suc i) entries)) (sym is)
    ∙ ap (λ (k : ℕ). line_of (row_of account entry) ++ text (drop k entries)) (sym (add-one i)) in
    append_assoc front (line_of (row_of account entry)) (text (drop (i + 1) entries))
    ∙ ap (λ (xs : List ℕ). front ++ xs) (sym from) ∙ sent

few_so : (n : ℕ) → n < rows_in_a_chunk → ltb n rows_in_a_chunk ≡ true
few_so n few = grind (arith, nat_tests)

pub many_so : (n : ℕ) → rows_in_a_chunk ≤ n → ltb n rows_in_a_chunk ≡ false
many_so n many = grind (arith, nat_tests)

-- few rows are one chunk, however many there might be
pub few :
    (n : ℕ) (before : List ℕ) (rows : List StatementRow) → length rows < rows_in_a_chunk
    → chunks_of n before rows ≡ last_chunks (before ++ lines_of rows)
few zero before rows less = refl
few (suc n) before rows less = rw (few_so (length rows) less) refl

-- many are a chunk, and those of the rest
more :
    (n : ℕ) (before : List ℕ) (rows : List StatementRow) → rows_in_a_chunk ≤ length rows
    → chunks_of (suc n) before rows
    ≡ chunk (before ++ lines_of (take rows_in_a_chunk rows))
    ++ chunks_of n [] (drop rows_in_a_chunk rows)
more n before rows many = rw (many_so (length rows) many) refl

-- it does not matter how many there might be
enough :
    (n m : ℕ) (before : List ℕ) (rows : List StatementRow) → length rows ≤ n → length rows ≤ m
    → chunks_of n before rows ≡ chunks_of m before rows
enough zero zero before rows fits fits' = refl
enough zero (suc m) before rows fits fits' = sym (few (suc m) before rows (omega arith))
enough (suc n) zero before rows fits fits' = few (suc n) before rows (omega arith)
enough (suc n) (suc m) before rows fits fits' =
    elim (cases_Bool (ltb (length rows) rows_in_a_chunk)) [
      | inl less ↦
          let is = ltb-true (length rows) rows_in_a_chunk less in
          few (suc n) before rows is ∙ sym (few (suc m) before rows is)
      | inr not ↦
          let many = ltb-false (length rows) rows_in_a_chunk not in
          let left = length-drop rows_in_a_chunk rows in
          more n before rows many
          ∙ ap (λ (xs : List ℕ). chunk (before ++ lines_of (take rows_in_a_chunk rows)) ++ xs)
          (enough n m [] (drop rows_in_a_chunk rows) (omega (arith, left, many)) (omega (arith, left, many)))
          ∙ sym (more m before rows many)
    ]

-- a whole chunk, and the rest
pub many :
    (before : List ℕ) (rows : List StatementRow) → rows_in_a_chunk ≤ length rows
    → chunks_of (length rows) before rows
    ≡ chunk (before ++ lines_of (take rows_in_a_chunk rows))
    ++ chunks_of (length (drop rows_in_a_chunk rows)) [] (drop rows_in_a_chunk rows)
many before rows least = at (length rows) refl
  where
    at :
        (n : ℕ) → length rows ≡ n →
        chunks_of n before rows
        ≡ chunk (before ++ lines_of (take rows_in_a_chunk rows))
        ++ chunks_of (length (drop rows_in_a_chunk rows)) [] (drop rows_in_a_chunk rows)
    at zero is = absurd (let none : length rows ≡ 0 = is in omega (arith, none, least))
    at (suc n) is =
        let left = length-drop rows_in_a_chunk rows in
        more n before rows least
        ∙ ap (λ (xs : List ℕ). chunk (before ++ lines_of (take rows_in_a_chunk rows)) ++ xs)
        (enough n (length (drop rows_in_a_chunk rows)) [] (drop rows_in_a_chunk rows) (omega (arith, left, is, least)) (omega arith))

-- a chunk has bytes, so each part has
chunk_some : (bytes : List ℕ) → 0 < length (chunk bytes)
chunk_some bytes =
    let front = digits 16 false (length bytes) ++ line_end ++ bytes in
    let size : length (chunk bytes) ≡ length front + 2 = length-append front line_end in
    omega (arith, size)

last_some : (lines : List ℕ) → 0 < length (last_chunks lines)
last_some [] = chunk_some []
last_some (byte ∷ bytes) =
    let size : length (last_chunks (byte ∷ bytes)) ≡ length (chunk (byte ∷ bytes)) + length (chunk []) =
    length-append (chunk (byte ∷ bytes)) (chunk []) in
    omega (arith, size, chunk_some [])

pub part_some : (is_last : Bool) (lines : List ℕ) → 0 < length (part_chunks is_last lines)
part_some true lines = last_some lines
part_some false lines = chunk_some lines
