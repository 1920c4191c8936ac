use Rattle.std.proofs.Common.{rules, append_assoc}
use Rattle.control.specs.Counting.{counts_data}
use Rattle.control.proofs.Texts.{text_from_tokens}
use Rattle.control.proofs.counting.counts_body.Goals as goal

pub returns : goal.returns
returns c =
    text_from_tokens (counts_data c.args.counts.now) _ _ _ c.into_inner.ensures.items
    (search rules) (search (rules, append_assoc))
