use Rattle.std.proofs.Common.{◌≡◌, ◌∙◌, ◌+◌, ◌++◌, length, take, sym, rules, take-append-drop}
use Rattle.sqlite_disk.specs.Digest.{digest}
use Rattle.file_sums.proofs.Standing.{built}
use Rattle.file_sums.proofs.reading.first_record.Goals as goal

pub returns : goal.returns
returns c =
    let cut = c.in_ok-content.ensures.cases in
    let joined : c.in_ok-content.content.now ++ c.in_ok-content.rest.now ≡ c.in_ok-len.rest.now =
    (λ i. cut.1 i ++ cut.2 i) ∙ take-append-drop c.in_ok-len.len c.in_ok-len.rest.now in
    let sealed : c.in_ok-seal.seal ≡ digest c.args.before (take (8 + length c.in_ok-content.content.now) c.args.bytes.now) =
    search rules in
    built _ _ _ _ _ _ _ c.in_ok-content.content.now _ _ _ c.in_ok-kind.ensures c.in_ok-len.ensures
    (sym joined) cut.3 c.in_ok-seal.ensures c.in_ok-entry.ensures.0 c.in_ok-entry.ensures.1 sealed
