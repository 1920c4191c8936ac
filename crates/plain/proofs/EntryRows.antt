-- Rows made of a list's entries, one after the other, each beside the entries before it.
use Rattle.std.proofs.Common.{◌≡◌, ℕ, ◌+◌, ◌<◌, ◌≤◌, Bool, true, false, List, [], ◌∷◌, ◌++◌, length}
use Rattle.std.proofs.Common.{take, drop, get_or, map, filter, refl, ap, sym, ◌∙◌, append_assoc}
use Rattle.std.proofs.Common.{append-nil}
use Rattle.std.proofs.lemmas.List.{take_more, drop_more, drop_all}
use Rattle.records.specs.declared.transfer.Transfer.{Transfer}
use Rattle.records.specs.Reads.{Entry, entries_after}

-- the rows of the entries from a place on that pass a test
abbrev pub rows_from :
    {A : Type 0} → (Entry → A) → (Entry → Bool) → ℕ → List Transfer → List A
rows_from row passes place entries =
    map row (filter passes (entries_after (take place entries) (drop place entries)))

-- the entry at a place
abbrev pub entry_at : ℕ → List Transfer → Transfer → Entry
entry_at place entries entry = record { before = take (place + 1) entries; transfer = entry }

first_of :
    (place : ℕ) (entries : List Transfer) (entry : Transfer) → place < length entries →
    entry ≡ get_or entries place entry →
    entries_after (take place entries) (drop place entries)
    ≡ entry_at place entries entry
    ∷ entries_after (take (place + 1) entries) (drop (place + 1) entries)
first_of place entries entry within is =
    let front : take (place + 1) entries ≡ take place entries ++ entry ∷ [] =
    take_more entries place entry within
    ∙ ap (λ (e : Transfer). take place entries ++ e ∷ []) (sym is) in
    let back : drop place entries ≡ entry ∷ drop (place + 1) entries =
    drop_more entries place entry within
    ∙ ap (λ (e : Transfer). e ∷ drop (place + 1) entries) (sym is) in
    ap (entries_after (take place entries)) back
    ∙ ap
    (λ (before : List Transfer).
    record { before = before; transfer = entry } ∷ entries_after before (drop (place + 1) entries))
    (sym front)

filter_yes :
    {A : Type 0} (row : Entry → A) (passes : Entry → Bool) (e : Entry) (es : List Entry) →
    passes e ≡ true → map row (filter passes (e ∷ es)) ≡ row e ∷ map row (filter passes es)
filter_yes row passes e es passing = rw passing refl

filter_no :
    {A : Type 0} (row : Entry → A) (passes : Entry → Bool) (e : Entry) (es : List Entry) →
    passes e ≡ false → map row (filter passes (e ∷ es)) ≡ map row (filter passes es)
filter_no row passes e es failing = rw failing refl

-- an entry that passes gives its row
pub one_row_more :
    {A : Type 0} (row : Entry → A) (passes : Entry → Bool) (place : ℕ) (entries : List Transfer)
    (entry : Transfer) (rows more all : List A) →
    place < length entries → entry ≡ get_or entries place entry →
    passes (entry_at place entries entry) ≡ true →
    more ≡ rows ++ row (entry_at place entries entry) ∷ [] →
    rows ++ rows_from row passes place entries ≡ all →
    more ++ rows_from row passes (place + 1) entries ≡ all
one_row_more row passes place entries entry rows more all within is passing one_more so_far =
    let later = rows_from row passes (place + 1) entries in
    let next =
    ap (λ (es : List Entry). map row (filter passes es)) (first_of place entries entry within is)
    ∙ filter_yes row passes (entry_at place entries entry) _ passing in
    ap (λ items. items ++ later) one_more
    ∙ (append_assoc rows (row (entry_at place entries entry) ∷ []) later
    ∙ (ap (λ items. rows ++ items) (sym next) ∙ so_far))

-- another entry gives none
pub no_row_more :
    {A : Type 0} (row : Entry → A) (passes : Entry → Bool) (place : ℕ) (entries : List Transfer)
    (entry : Transfer) (rows all : List A) →
    place < length entries → entry ≡ get_or entries place entry →
    passes (entry_at place entries entry) ≡ false →
    rows ++ rows_from row passes place entries ≡ all →
    rows ++ rows_from row passes (place + 1) entries ≡ all
no_row_more row passes place entries entry rows all within is failing so_far =
    ap (λ more. rows ++ more)
    (sym (ap (λ (es : List Entry). map row (filter passes es))
    (first_of place entries entry within is)
    ∙ filter_no row passes (entry_at place entries entry) _ failing))
    ∙ so_far

-- behind the last entry there are no more rows
pub all_rows :
    {A : Type 0} (row : Entry → A) (passes : Entry → Bool) (place : ℕ) (entries : List Transfer)
    (rows all : List A) → length entries ≤ place →
    rows ++ rows_from row passes place entries ≡ all → rows ≡ all
all_rows row passes place entries rows all past so_far =
    sym (append-nil rows)
    ∙ (ap (λ (es : List Transfer). rows
    ++ map row (filter passes (entries_after (take place entries) es)))
    (sym (drop_all place entries past))
    ∙ so_far)
