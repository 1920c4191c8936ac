use Rattle.std.proofs.Common.{◌≡◌, ◌+◌, min, take}
use Rattle.std.specs.Str.Parse.{digits_value}
use Rattle.ledger_http.specs.Limits.{max_body}
use Rattle.ledger_http.proofs.header.read_length.Given as goal

abbrev pub invariant-loop-digit : goal.invariant-loop-digit
invariant-loop-digit l = l.length ≡ min (max_body + 1) (digits_value 10 (take l.digit-index l.text))
