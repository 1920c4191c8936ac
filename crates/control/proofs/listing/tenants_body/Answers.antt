use Rattle.std.proofs.Common.{rules, append_assoc}
use Rattle.control.specs.Listing.{rows_data}
use Rattle.control.proofs.Texts.{text_from_tokens}
use Rattle.control.proofs.listing.tenants_body.Goals as goal

pub returns : goal.returns
returns c =
    text_from_tokens (rows_data c.args.rows.now) _ _ _ c.into_inner.ensures.items
    (search rules) (search (rules, append_assoc))
