-- Bytes that are read into a room from the front on.
use Rattle.std.proofs.Common.{◌≡◌, refl, ap, sym, ◌∙◌, ◌≤◌, ◌<◌, ◌+◌, ◌-◌, ⊎_elim, if◌then◌else◌, true, false, ℕ, List, [], ◌∷◌, ◌++◌, length, take, drop, set, Option, Some, None, Ok, Err, min, nat_eq, arith}
use Rattle.std.proofs.lemmas.Bool.{cases_lt, lt-ltb, le-ltb}
use Rattle.std.proofs.lemmas.List.{length-take, length-take-le, length-drop, length-append, take-take, take_at, take-append-le, drop_at, drop-drop, take_more_set, take-set-le}
use Rattle.std.proofs.Math.Seq.{take-add}
use Rattle.std.specs.List.{slice_get, ends_with}
use Rattle.std.specs.Io.KnownBytes.{Consumes}
use borrow.Rule.Slice.PartMut.{put_mid, post_of}
use Rattle.ledger_http.specs.declared.refusal.Refusal.TheVariants.{Truncated, HeadTooLarge}
use Rattle.ledger_http.specs.Limits.{max_head}
use Rattle.ledger_http.specs.Message.{blank_line, end_of_head, length_of_head}
use Rattle.ledger_http.specs.Progress.{HasNoEnd}
use Rattle.ledger_http.proofs.EndLemmas.{end_of_head-first, end_of_head-none, length_of_head-ended, length_of_head-open}

-- the first byte, if there is one
first_byte : (bytes : List ℕ) (b : ℕ) → Some b ≡ slice_get bytes 0 → (take 1 bytes ≡ b ∷ []) × (1 ≤ length bytes)
first_byte [] b here = cc
first_byte (x ∷ bytes) b here = (let same : b ≡ x = cc in ap (λ y. y ∷ []) (sym same), omega arith)

pub no_byte : (bytes : List ℕ) → None ≡ slice_get bytes 0 → bytes ≡ []
no_byte [] none = refl
no_byte (x ∷ bytes) none = cc

-- one byte more at the end of what was read
pub one_more : (head bytes : List ℕ) (at b : ℕ) → take at head ≡ take at bytes → at ≤ length bytes
    → at < length head → Some b ≡ slice_get (drop at bytes) 0
    → (take (at + 1) (set head at b) ≡ take (at + 1) bytes) × (at + 1 ≤ length bytes)
one_more head bytes at b same within room here =
    let next = first_byte (drop at bytes) b here in (
      take_more_set head at b room
          ∙ ap (λ front. front ++ b ∷ []) same
          ∙ ap (λ rest. take at bytes ++ rest) (sym next.0)
          ∙ sym (take-add at 1 bytes),
      omega (arith, next.1, length-drop at bytes),
    )

-- shorter beginnings are the same too
shorter : (head bytes : List ℕ) (j n : ℕ) → j ≤ n → take n head ≡ take n bytes → take j head ≡ take j bytes
shorter head bytes j n below same =
    sym (take-take j n head below) ∙ ap (take j) same ∙ take-take j n bytes below

-- the same in what the bytes begin with
same_ends : (head bytes : List ℕ) (n m j : ℕ) → take n head ≡ take n bytes → j ≤ n → j ≤ m
    → ends_with nat_eq (take j (take m bytes)) blank_line ≡ ends_with nat_eq (take j head) blank_line
same_ends head bytes n m j same below inside =
    ap (λ front. ends_with nat_eq front blank_line)
    (take-take j m bytes inside ∙ sym (shorter head bytes j n below same))

-- the head ends where a beginning of what was read first ends with a blank line
pub length_of_head-read : (head bytes : List ℕ) (n : ℕ) → n ≤ max_head → n ≤ length bytes
    → take n head ≡ take n bytes
    → ends_with nat_eq (take n head) blank_line ≡ true
    → ((j : ℕ) → j < n → ends_with nat_eq (take j head) blank_line ≡ false)
    → length_of_head bytes ≡ Ok n
length_of_head-read head bytes n room within same here before =
    let m = min max_head (length bytes) in
    let inside : n ≤ m = omega arith in
    sym (length_of_head-ended bytes n m refl
    (sym (end_of_head-first (take m bytes) n
    (omega (arith, length-take m bytes))
    (same_ends head bytes n m n same (omega arith) inside ∙ here)
    (λ j below. same_ends head bytes n m j same (omega arith) (omega arith) ∙ before j below))))

-- what was read of a head without end
none_read : (head bytes : List ℕ) (n : ℕ) → n ≡ min max_head (length bytes)
    → take n head ≡ take n bytes → HasNoEnd head n → None ≡ end_of_head (take n bytes)
none_read head bytes n all same none =
    sym (end_of_head-none (take n bytes) (λ j inside.
    let below : j ≤ n = omega (arith, inside, length-take n bytes) in
    same_ends head bytes n n j same below below ∙ none j below))

-- the input ends before the head does
pub length_of_head-cut : (head bytes : List ℕ) (n : ℕ) → n < max_head → length bytes ≡ n
    → take n head ≡ take n bytes → HasNoEnd head n → length_of_head bytes ≡ Err Truncated
length_of_head-cut head bytes n room all same none =
    let m : n ≡ min max_head (length bytes) = omega arith in
    sym (length_of_head-open bytes n m (none_read head bytes n m same none))
    ∙ ap (λ b. Err (if b then Truncated else HeadTooLarge)) (lt-ltb (length bytes) max_head (omega arith))

-- the head does not end where it has to
pub length_of_head-long : (head bytes : List ℕ) (n : ℕ) → n ≡ max_head → n ≤ length bytes
    → take n head ≡ take n bytes → HasNoEnd head n → length_of_head bytes ≡ Err HeadTooLarge
length_of_head-long head bytes n room within same none =
    let m : n ≡ min max_head (length bytes) = omega arith in
    sym (length_of_head-open bytes n m (none_read head bytes n m same none))
    ∙ ap (λ b. Err (if b then Truncated else HeadTooLarge)) (le-ltb (length bytes) max_head (omega arith))

-- one byte more that ends no head
pub none_more : (head : List ℕ) (at b : ℕ) → HasNoEnd head at
    → ends_with nat_eq (take (at + 1) (set head at b)) blank_line ≡ false → HasNoEnd (set head at b) (at + 1)
none_more head at b none here j below =
    ⊎_elim
    (λ (less : j < at + 1).
    ap (λ front. ends_with nat_eq front blank_line) (take-set-le j head at b (omega arith))
    ∙ none j (omega arith))
    (λ (more : at + 1 ≤ j).
    let same : j ≡ at + 1 = omega arith in
    ap (λ k. ends_with nat_eq (take k (set head at b)) blank_line) same ∙ here)
    (cases_lt j (at + 1))

-- known bytes that begin with others
pub consumed : (old new : Option (List ℕ)) (bytes taken : List ℕ) → old ≡ Some bytes → Consumes old new taken
    → (rest : List ℕ) × (new ≡ Some rest) × (bytes ≡ taken ++ rest)
consumed None new bytes taken known took = cc
consumed (Some xs) None bytes taken known took = absurd took
consumed (Some xs) (Some ys) bytes taken known took =
    let same : bytes ≡ xs = cc in (ys, refl, same ∙ took)

-- the room with a part more of the bytes in it
pub part_more : (bytes room part rest : List ℕ) (filled count k : ℕ)
    → filled ≤ length room → filled ≤ length bytes → take filled room ≡ take filled bytes → count ≤ length part
    → drop filled bytes ≡ take count part ++ rest
    → (take (filled + count) (put_mid filled k room part) ≡ take (filled + count) bytes)
    × (filled + count ≤ length bytes) × (rest ≡ drop (filled + count) bytes)
part_more bytes room part rest filled count k inside within same few next =
    let size = length-take-le count part few in
    let front = length-take-le filled room inside in (
      take-add filled count (put_mid filled k room part)
          ∙ ap (λ xs. xs ++ take count (drop filled (put_mid filled k room part)))
          (take_at (take filled room) (part ++ post_of filled k room) filled front ∙ same)
          ∙ ap (λ xs. take filled bytes ++ take count xs)
          (drop_at (take filled room) (part ++ post_of filled k room) filled front)
          ∙ ap (λ xs. take filled bytes ++ xs)
          (take-append-le count part (post_of filled k room) few
          ∙ sym (take_at (take count part) rest count size)
          ∙ ap (take count) (sym next))
          ∙ sym (take-add filled count bytes),
      omega (arith, length-drop filled bytes, ap length next, length-append (take count part) rest, size),
      sym (drop_at (take count part) rest count size) ∙ ap (drop count) (sym next) ∙ drop-drop count filled bytes,
    )

-- a room keeps its size where its rest is written
pub part_size : (room part : List ℕ) (filled : ℕ) → filled ≤ length room
    → length part ≡ length (take (length room - filled) (drop filled room))
    → length (put_mid filled (length room - filled) room part) ≡ length room
part_size room part filled inside size =
    omega (
      arith,
      size,
      length-append (take filled room) (part ++ post_of filled (length room - filled) room),
      length-append part (post_of filled (length room - filled) room),
      length-take filled room,
      length-take (length room - filled) (drop filled room),
      length-drop (length room - filled) (drop filled room),
      length-drop filled room,
    )
