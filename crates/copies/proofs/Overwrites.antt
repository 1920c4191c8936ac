-- Bytes with parts written over them, one behind the other.
use Rattle.std.proofs.Common.{◌≡◌, ◌≤◌, ◌∙◌, sym, ap, ap₂, ℕ, ◌+◌, ◌-◌, List, ◌++◌, length, take, drop, arith, append_assoc, length-append}
use Rattle.std.proofs.lemmas.List.{take-append-drop, drop-drop, drop-take, take-take, take_at, drop_at, take_all, length-take, length-take-le, length-drop}
use Rattle.std.proofs.Math.Seq.{take-add}
use Rattle.copies.specs.Places.{overwritten}

-- what is there already changes nothing
pub overwritten_same : (at : ℕ) (part all : List ℕ) →
    take (length part) (drop at all) ≡ part → overwritten at part all ≡ all
unfolding overwritten
overwritten_same at part all h =
    ap (λ l. take at all ++ l ++ drop (at + length part) all) (sym h)
    ∙ ap (λ l. l ++ drop (at + length part) all) (sym (take-add at (length part) all))
    ∙ take-append-drop (at + length part) all

-- all before the end of what was written
pub length_to_end : (at : ℕ) (part all : List ℕ) → at ≤ length all →
    length (take at all ++ part) ≡ at + length part
length_to_end at part all within =
    length-append (take at all) part ∙ ap (λ n. n + length part) (length-take-le at all within)

-- behind what was written all is as it was
pub behind_overwritten : (at : ℕ) (part all : List ℕ) → at ≤ length all →
    drop (at + length part) (overwritten at part all) ≡ drop (at + length part) all
unfolding overwritten
behind_overwritten at part all within =
    drop_at (take at all ++ part) (drop (at + length part) all) (at + length part) (length_to_end at part all within)

-- a part behind another: both at once
pub overwritten_on : (at : ℕ) (part more all : List ℕ) → at ≤ length all →
    overwritten (at + length part) more (overwritten at part all) ≡ overwritten at (part ++ more) all
unfolding overwritten
overwritten_on at part more all within =
    let front = take_at (take at all ++ part) (drop (at + length part) all) (at + length part) (length_to_end at part all within) in
    let rest = sym (drop-drop (length more) (at + length part) (overwritten at part all))
    ∙ ap (drop (length more)) (behind_overwritten at part all within)
    ∙ drop-drop (length more) (at + length part) all in
    let size : at + length part + length more ≡ at + length (part ++ more) = omega (arith, length-append part more) in
    ap₂ (λ l m. l ++ more ++ m) front rest
    ∙ ap₂ (λ l m. l ++ m) (append_assoc (take at all) part more) (ap (λ n. drop n all) size)

-- what is found behind a part that was written: what was there
pub found_behind : (at size n : ℕ) (part had all : List ℕ) → at ≤ length all →
    take size (drop at all) ≡ had → length part + n ≤ size →
    take n (drop (at + length part) (overwritten at part all)) ≡ take n (drop (length part) had)
found_behind at size n part had all within h few =
    let whole : size ≡ length part + (size - length part) = omega arith in
    let few' : n ≤ size - length part = omega arith in
    ap (take n) (behind_overwritten at part all within ∙ sym (drop-drop (length part) at all))
    ∙ sym (take-take n (size - length part) (drop (length part) (drop at all)) few')
    ∙ ap (take n) (sym (drop-take (length part) (size - length part) (drop at all))
    ∙ ap (λ m. drop (length part) (take m (drop at all))) (sym whole)
    ∙ ap (drop (length part)) h)

-- what is written reaches so far at least
pub reaches : (at : ℕ) (part all : List ℕ) → at ≤ length all →
    at + length part ≤ length (overwritten at part all)
unfolding overwritten
reaches at part all within =
    omega (arith, length_to_end at part all within, length-append (take at all ++ part) (drop (at + length part) all))

-- one page more of a part, where it is written
pub written_on : (at done step : ℕ) (part all : List ℕ) → at ≤ length all → done + step ≤ length part →
    overwritten (at + done) (take step (drop done part)) (overwritten at (take done part) all)
    ≡ overwritten at (take (done + step) part) all
written_on at done step part all within few =
    let page = take step (drop done part) in
    let size : length (take done part) ≡ done = length-take-le done part (omega arith) in
    ap (λ n. overwritten (at + n) page (overwritten at (take done part) all)) (sym size)
    ∙ overwritten_on at (take done part) page all within
    ∙ ap (λ l. overwritten at l all) (sym (take-add done step part))

-- and where it is there already
pub same_on : (at done step : ℕ) (part had all : List ℕ) → at ≤ length all → done + step ≤ length part →
    take (length part) (drop at all) ≡ had → take step (drop done had) ≡ take step (drop done part) →
    overwritten at (take done part) all ≡ overwritten at (take (done + step) part) all
same_on at done step part had all within few h same =
    let size : length (take done part) ≡ done = length-take-le done part (omega arith) in
    let left : length (drop done part) ≡ length part - done = length-drop done part in
    let long : length (take step (drop done part)) ≡ step = length-take-le step (drop done part) (omega arith) in
    let found = found_behind at (length part) step (take done part) had all within h (omega arith) in
    let page : take (length (take step (drop done part))) (drop (at + done) (overwritten at (take done part) all))
    ≡ take step (drop done part) =
    ap (λ n. take n (drop (at + done) (overwritten at (take done part) all))) long
    ∙ ap (λ n. take step (drop (at + n) (overwritten at (take done part) all))) (sym size)
    ∙ found
    ∙ ap (λ n. take step (drop n had)) size
    ∙ same in
    sym (overwritten_same (at + done) (take step (drop done part)) (overwritten at (take done part) all) page)
    ∙ written_on at done step part all within few

-- before a part that was written all is as it was
pub before_overwritten : (at : ℕ) (part all : List ℕ) → at ≤ length all →
    take at (overwritten at part all) ≡ take at all
unfolding overwritten
before_overwritten at part all within =
    ap (take at) (append_assoc (take at all) part (drop (at + length part) all))
    ∙ take_at (take at all) (part ++ drop (at + length part) all) at (length-take-le at all within)

-- up to its end there is what was before it, and the part
pub up_to_end : (at : ℕ) (part all : List ℕ) → at ≤ length all →
    take (at + length part) (overwritten at part all) ≡ take at all ++ part
unfolding overwritten
up_to_end at part all within =
    take_at (take at all ++ part) (drop (at + length part) all) (at + length part) (length_to_end at part all within)

-- a piece of a list is as long as it says
pub piece_of : (n room : ℕ) (all : List ℕ) → n ≡ length (take room all) → take n all ≡ take room all
piece_of n room all long =
    let few : n ≤ room = omega (arith, length-take room all) in
    sym (take-take n room all few) ∙ take_all n (take room all) (omega arith)

-- so much was read as the file has there
pub count_read : (count : ℕ) (room file : List ℕ) → count ≤ length room →
    take count room ≡ take (length room) file → count ≡ length (take (length room) file)
count_read count room file few same = sym (length-take-le count room few) ∙ ap length same

-- of what was read each front is the file's
pub front_read : (n count : ℕ) (room file : List ℕ) → n ≤ count → count ≤ length room →
    take count room ≡ take (length room) file → take n file ≡ take n room
front_read n count room file few long same =
    let short : n ≤ length room = omega arith in
    sym (take-take n (length room) file short) ∙ ap (take n) (sym same) ∙ take-take n count room few

-- a copy that is the file up to a piece, and has the piece, is the file up to the piece's end
pub piece_on : (at count room : ℕ) (all now : List ℕ) → at ≤ length all → at ≤ length now → take at now ≡ take at all →
    count ≡ length (take room (drop at all)) →
    take (at + count) (overwritten at (take room (drop at all)) now) ≡ take (at + count) all
piece_on at count room all now within within' same long =
    ap (λ n. take (at + n) (overwritten at (take room (drop at all)) now)) long
    ∙ up_to_end at (take room (drop at all)) now within'
    ∙ ap₂ (λ l m. l ++ m) same (sym (piece_of count room (drop at all) long))
    ∙ sym (take-add at count all)
