use Rattle.std.proofs.Common.{◌≤◌, ◌∙◌, length, take, arith, codes}
use Rattle.std.proofs.lemmas.List.{length-take}
use Rattle.std.proofs.lemmas.Result.{err_from_is_err_and, MatchResult-at_ok}
use Rattle.ledger_http.specs.Limits.{max_headers}
use Rattle.ledger_http.proofs.HeaderLemmas.{good_head, no_good_head, values_shown}
use Rattle.ledger_http.proofs.head.head_of.Goals as goal

pub returns-in_err-length-clause-bad : goal.returns-in_err-length-clause-bad
returns-in_err-length-clause-bad c =
    let whole = c.in_ok-spans.ensures.good in
    let refused = c.in_err-length.ensures.bad in
    let p = err_from_is_err_and c.from_residual-in_err-length.result c.from_residual-in_err-length.ensures.1 in
    rw (p.1, p.2) (refused.0, no_good_head c.args.bytes.now _ whole.0 whole.3.fields whole.1 refused.1)

pub returns-clause-good : goal.returns-clause-good
returns-clause-good c =
    let whole = c.in_ok-spans.ensures.good in
    let lengths = c.in_ok-length.ensures.good in
    let headers = take c.in_ok-spans.spans.headers c.spans_of.new.headers in
    let few : length headers ≤ max_headers = omega (arith, length-take c.in_ok-spans.spans.headers c.spans_of.new.headers) in
    let shown = values_shown c.args.bytes.now headers whole.0 whole.3.fields in
    let text = MatchResult-at_ok _ _ _ c.unwrap.ensures c.from_utf8.ensures.cases in (
      whole.0,
      good_head c.args.bytes.now headers whole.0 whole.3.fields whole.1 whole.2 few lengths.0 lengths.1,
      record {
        method = c.of.ensures ∙ whole.3.method;
        target = text.0 ∙ c.of-2.ensures ∙ whole.3.path;
        size = rw (shown (codes "content-length")) at lengths.2;
        key = rw (shown (codes "x-ledger-key")) at c.key_in.ensures;
        detail = rw (shown (codes "x-ledger-detail")) at c.wants_detail.ensures;
        close = rw (shown (codes "connection")) at c.lists_token.ensures;
      },
    )
