use Rattle.std.proofs.Common.{◌≡◌, drop, map}
use Rattle.std.specs.List.{list_any}
use Rattle.httparse.specs.Spans.{header_bytes}
use Rattle.ledger_http.specs.Head.{has_token}
use Rattle.ledger_http.specs.Header.{values_in}
use Rattle.ledger_http.proofs.header.lists_token.Given as goal

-- The token stands in a header to come if it stands in any.
abbrev pub invariant-loop-header : goal.invariant-loop-header
invariant-loop-header l =
    list_any (has_token l.token)
    (values_in l.name (map (header_bytes l.bytes) (drop l.header-index l.headers)))
    ≡ list_any (has_token l.token) (values_in l.name (map (header_bytes l.bytes) l.headers))
