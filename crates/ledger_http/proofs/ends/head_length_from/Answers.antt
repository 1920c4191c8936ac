use Rattle.std.proofs.Common.{◌≡◌, ◌∙◌, ap, sym, Err, if◌then◌else◌, nat_lt, true, false, length, rules}
use Rattle.ledger_http.specs.declared.refusal.Refusal.TheVariants.{Truncated, HeadTooLarge}
use Rattle.ledger_http.specs.Limits.{max_head}
use Rattle.ledger_http.proofs.EndLemmas.{length_of_head-ended, length_of_head-open}
use Rattle.ledger_http.proofs.ends.head_length_from.Goals as goal

pub returns-in-Some-clause-size : goal.returns-in-Some-clause-size
returns-in-Some-clause-size c =
    length_of_head-ended c.args.bytes.now c.in-Some.size c.min.result c.min.ensures c.in-Some.ensures.end

pub returns-in-None-clause-size : goal.returns-in-None-clause-size
returns-in-None-clause-size c =
    let short : nat_lt (length c.args.bytes.now) max_head ≡ true = search rules in
    ap (λ b. Err (if b then Truncated else HeadTooLarge)) (sym short)
    ∙ length_of_head-open c.args.bytes.now c.min.result c.min.ensures c.in-None.ensures.end

pub returns-in-None-2-clause-size : goal.returns-in-None-2-clause-size
returns-in-None-2-clause-size c =
    let long : nat_lt (length c.args.bytes.now) max_head ≡ false = search rules in
    ap (λ b. Err (if b then Truncated else HeadTooLarge)) (sym long)
    ∙ length_of_head-open c.args.bytes.now c.min.result c.min.ensures c.in-None-2.ensures.end
