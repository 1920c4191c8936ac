use Rattle.std.proofs.Common.{◌∙◌, ap, is_some}
use Rattle.std.specs.List.{position}
use Rattle.plain.specs.Book.{has_digest}
use Rattle.plain.proofs.BatchLemmas.{has_place}
use Rattle.plain.proofs.book.Book.holds.Goals as goal

pub returns : goal.returns
returns c =
    c.is_some.ensures
    ∙ (ap is_some (c.place_of.ensures
    ∙ ap (position (has_digest c.args.digest.now)) (c.deref.ensures.value ∙ c.self.view_is))
    ∙ has_place c.args.digest.now c.args.self.now)
