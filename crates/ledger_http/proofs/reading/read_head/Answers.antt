use Rattle.std.proofs.Common.{◌≡◌, ◌<◌, ◌+◌, ◌∙◌, ap, sym, [], Some, nat_eq, length, drop, set, arith, rules}
use Rattle.std.proofs.lemmas.List.{length-drop, length-set, take-set-le, drop-drop, drop_all}
use Rattle.std.specs.List.{ends_with}
use Rattle.ledger_http.specs.Limits.{max_head}
use Rattle.ledger_http.specs.Message.{blank_line}
use Rattle.ledger_http.proofs.ReadingLemmas.{no_byte, one_more, length_of_head-read, length_of_head-cut, length_of_head-long, none_more}
use Rattle.ledger_http.proofs.BrokenLemmas.{at_error, kept, broken_in_head}
use Rattle.ledger_http.proofs.reading.read_head.Goals as goal

pub returns-then-at-eq0-clause-bytes : goal.returns-then-at-eq0-clause-bytes
returns-then-at-eq0-clause-bytes g c bytes known =
    let so_far = c.loop-at.invariant.3 bytes known in
    let next = c.in_ok-byte.ensures.byte (drop c.loop-at.at bytes) so_far.2 in
    let none : drop c.loop-at.at bytes ≡ [] = no_byte _ (sym c.in_default.is ∙ next.0) in
    let start : c.loop-at.at ≡ 0 = c.if-at-eq0.true in
    let empty : bytes ≡ [] = ap (λ n. drop n bytes) (sym start) ∙ none in
    (empty, next.1 ∙ ap (λ xs. Some (drop 1 xs)) none)

pub returns-else-at-eq0-clause-bytes : goal.returns-else-at-eq0-clause-bytes
returns-else-at-eq0-clause-bytes g c bytes known =
    let so_far = c.loop-at.invariant.3 bytes known in
    let next = c.in_ok-byte.ensures.byte (drop c.loop-at.at bytes) so_far.2 in
    let none : drop c.loop-at.at bytes ≡ [] = no_byte _ (sym c.in_default.is ∙ next.0) in
    let all : length bytes ≡ c.loop-at.at = omega (arith, ap length none, length-drop c.loop-at.at bytes, so_far.1) in (
      λ empty. absurd (omega (arith, ap length empty)),
      length_of_head-cut c.loop-at.head bytes c.loop-at.at (omega arith) all so_far.0 c.loop-at.invariant.2,
      next.1 ∙ ap (λ xs. Some (drop 1 xs)) none ∙ ap (λ xs. Some xs) (sym (drop_all max_head bytes (omega arith))),
    )

pub returns-then-ends_head-clause-bytes : goal.returns-then-ends_head-clause-bytes
returns-then-ends_head-clause-bytes g c bytes known =
    let so_far = c.loop-at.invariant.3 bytes known in
    let next = c.in_ok-byte.ensures.byte (drop c.loop-at.at bytes) so_far.2 in
    let at = c.loop-at.at in
    let room : at < length c.loop-at.head = omega (arith, c.loop-at.invariant.1) in
    let more = one_more c.loop-at.head bytes at c.in-Some.byte so_far.0 so_far.1 room (sym c.in-Some.is ∙ next.0) in (
      length_of_head-read (set c.loop-at.head at c.in-Some.byte) bytes (at + 1) (omega arith) more.1 more.0
          (sym c.if-ends_head.ensures)
          (λ j below.
          ap (λ front. ends_with nat_eq front blank_line) (take-set-le j c.loop-at.head at c.in-Some.byte (omega arith))
          ∙ c.loop-at.invariant.2 j (omega arith)),
      more.1,
      more.0,
      next.1 ∙ ap (λ xs. Some xs) (drop-drop 1 at bytes),
    )

pub loop-at-preserved : goal.loop-at-preserved
loop-at-preserved g c =
    let at = c.loop-at.at in
    let room : at < length c.loop-at.head = omega (arith, c.loop-at.invariant.1) in (
      search rules,
      length-set c.loop-at.head at c.in-Some.byte ∙ c.loop-at.invariant.1,
      none_more c.loop-at.head at c.in-Some.byte c.loop-at.invariant.2 (sym c.if-ends_head.ensures),
      λ bytes known.
          let so_far = c.loop-at.invariant.3 bytes known in
          let next = c.in_ok-byte.ensures.byte (drop at bytes) so_far.2 in
          let more = one_more c.loop-at.head bytes at c.in-Some.byte so_far.0 so_far.1 room (sym c.in-Some.is ∙ next.0) in
          (more.0, more.1, next.1 ∙ ap (λ xs. Some xs) (drop-drop 1 at bytes)),
    )

pub returns-clause-bytes : goal.returns-clause-bytes
returns-clause-bytes g c bytes known =
    let so_far = c.loop-at.invariant.3 bytes known in
    let full : c.loop-at.at ≡ max_head = omega arith in (
      λ empty. absurd (omega (arith, ap length empty, so_far.1)),
      length_of_head-long c.loop-at.head bytes c.loop-at.at full so_far.1 so_far.0 c.loop-at.invariant.2,
      so_far.2 ∙ ap (λ n. Some (drop n bytes)) full,
    )

pub returns-in_err-byte-clause-broken : goal.returns-in_err-byte-clause-broken
returns-in_err-byte-clause-broken g c =
    at_error c.from_residual.result _ (λ bytes known.
    let so_far = c.loop-at.invariant.3 bytes known in
    broken_in_head c.loop-at.head bytes c.loop-at.at (g.R.Source.left c.take_byte.new.reader) (omega arith) so_far.1 so_far.0
    c.loop-at.invariant.2 (kept _ _ _ so_far.2 c.in_err-byte.ensures.kept))
