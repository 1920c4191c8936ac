use Rattle.std.proofs.Common.{rules, ◌≡◌, ◌≤◌, ◌∙◌, sym, ap, Some, length, take, drop}
use Rattle.std.proofs.lemmas.List.{length-take-le}
use Rattle.copies.specs.Places.{overwritten}
use Rattle.copies.proofs.Overwrites.{overwritten_same, count_read, front_read}
use Rattle.copies.proofs.pieces.match_piece.Goals as goal

pub returns-in_ok-mend : goal.returns-in_ok-mend
returns-in_ok-mend g c = λ all had e f within.
    let room = c.read_from.new.room in
    let long : length room ≡ length c.args.room.now = search rules in
    let read = c.in_ok-count.ensures in
    let found = c.in_ok-had.ensures in
    let fits : c.in_ok-count.count ≤ c.in_ok-had.had = search rules in
    let size = length-take-le c.in_ok-count.count room read.few in
    let there = ap (λ n. take n (drop c.args.at had)) size
    ∙ front_read c.in_ok-count.count c.in_ok-had.had c.read_from-2.new.room (drop c.args.at had) fits found.few (found.same had f) in
    let part = read.same all e ∙ ap (λ n. take n (drop c.args.at all)) long in (
      count_read c.in_ok-count.count room (drop c.args.at all) read.few (read.same all e) ∙ ap (λ n. length (take n (drop c.args.at all))) long,
      c.in_ok-mend.ensures had f within there ∙ ap (λ l. Some (overwritten c.args.at l had)) part,
    )

pub returns-else-not-are_same : goal.returns-else-not-are_same
returns-else-not-are_same g c = λ all had e f within.
    let room = c.read_from.new.room in
    let long : length room ≡ length c.args.room.now = search rules in
    let read = c.in_ok-count.ensures in
    let found = c.in_ok-had.ensures in
    let fits : c.in_ok-count.count ≤ c.in_ok-had.had = search rules in
    let same : take c.in_ok-count.count c.read_from-2.new.room ≡ take c.in_ok-count.count room = search rules in
    let part = read.same all e ∙ ap (λ n. take n (drop c.args.at all)) long in
    let count = count_read c.in_ok-count.count room (drop c.args.at all) read.few (read.same all e) ∙ ap (λ n. length (take n (drop c.args.at all))) long in
    let there = ap (λ n. take n (drop c.args.at had)) (sym count)
    ∙ front_read c.in_ok-count.count c.in_ok-had.had c.read_from-2.new.room (drop c.args.at had) fits found.few (found.same had f)
    ∙ same ∙ part in
    (count, f ∙ ap Some (sym (overwritten_same c.args.at (take (length c.args.room.now) (drop c.args.at all)) had there)))
