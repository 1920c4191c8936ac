-- The last bytes of a text.
use Rattle.std.proofs.Common.{◌≡◌, ap, sym, ◌∙◌, ℕ, ◌+◌, ◌-◌, ◌≤◌, List, [], ◌∷◌, length, drop, nat_eq, arith}
use Rattle.std.proofs.lemmas.Bool.{eq-eqb, ne_eqb}
use Rattle.std.proofs.lemmas.List.{length-drop, drop-drop, drop_all}
use Rattle.clients.specs.Talk.{is_empty, last_bytes}

pub length_of_last : (left : ℕ) (bytes : List ℕ) → left ≤ length bytes → length (last_bytes left bytes) ≡ left
length_of_last left bytes few = omega (arith, length-drop (length bytes - left) bytes)

empty_by_length : (xs : List ℕ) (n : ℕ) → length xs ≡ n → is_empty xs ≡ nat_eq n 0
empty_by_length [] n is = sym (eq-eqb n 0 (sym is))
empty_by_length (x ∷ xs) n is = sym (ne_eqb n 0 (λ (none : n ≡ 0). omega arith))

-- all is written where no byte is left
pub is_empty-last : (left : ℕ) (bytes : List ℕ) → left ≤ length bytes
    → is_empty (last_bytes left bytes) ≡ nat_eq left 0
is_empty-last left bytes few = empty_by_length (last_bytes left bytes) left (length_of_last left bytes few)

-- fewer are left
pub last_bytes-fewer : (left count : ℕ) (bytes : List ℕ) → left ≤ length bytes → count ≤ left
    → last_bytes (left - count) bytes ≡ drop count (last_bytes left bytes)
last_bytes-fewer left count bytes few less =
    let same : length bytes - (left - count) ≡ (length bytes - left) + count = omega arith in
    ap (λ n. drop n bytes) same ∙ sym (drop-drop count (length bytes - left) bytes)

-- no more is written than is left
pub count-le-left : (left count : ℕ) (bytes unsent : List ℕ) → left ≤ length bytes
    → last_bytes left bytes ≡ unsent → count ≤ length unsent → count ≤ left
count-le-left left count bytes unsent few is less =
    omega (arith, length_of_last left bytes few, ap length is)

pub last_bytes-wrote : (left count : ℕ) (bytes unsent : List ℕ) → left ≤ length bytes
    → last_bytes left bytes ≡ unsent → count ≤ length unsent
    → last_bytes (left - count) bytes ≡ drop count unsent
last_bytes-wrote left count bytes unsent few is less =
    last_bytes-fewer left count bytes few (count-le-left left count bytes unsent few is less) ∙ ap (drop count) is

-- all is written
pub nothing-wrote : (left count : ℕ) (bytes unsent : List ℕ) → left ≤ length bytes
    → last_bytes left bytes ≡ unsent → left - count ≡ 0 → [] ≡ drop count unsent
nothing-wrote left count bytes unsent few is none =
    sym (drop_all count unsent (omega (arith, length_of_last left bytes few, ap length is, none)))

-- all of a text
pub last_bytes-all : (bytes text : List ℕ) → bytes ≡ text → last_bytes (length bytes) text ≡ text
last_bytes-all bytes text same =
    let none : length text - length bytes ≡ 0 = omega (arith, ap length same) in
    ap (λ n. drop n text) none
