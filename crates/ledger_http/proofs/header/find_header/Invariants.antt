use Rattle.std.proofs.Common.{◌≡◌, ◌++◌, drop, map, option_map}
use Rattle.std.specs.Option.{option_to_list}
use Rattle.httparse.specs.Spans.{header_bytes}
use Rattle.ledger_http.specs.Header.{values_in}
use Rattle.ledger_http.proofs.header.find_header.Given as goal

-- The value that was found, if there is one, and those of the headers to come are all.
abbrev pub invariant-loop-header : goal.invariant-loop-header
invariant-loop-header l =
    option_to_list (option_map (λ value. value.now) l.only)
    ++ values_in l.name (map (header_bytes l.bytes) (drop l.header-index l.headers))
    ≡ values_in l.name (map (header_bytes l.bytes) l.headers)
