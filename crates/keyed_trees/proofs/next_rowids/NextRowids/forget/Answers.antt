use Rattle.std.proofs.Common.{◌≡◌, ◌==◌, not, subst, rules}
use Rattle.std.proofs.lemmas.Fn.{filter_same}
use Rattle.keyed_trees.specs.NextRowids.{without}
use Rattle.keyed_trees.proofs.next_rowids.NextRowids.forget.Goals as goal

pub returns : goal.returns
returns c =
    subst (λ known. c.retain.new.self.items ≡ without c.args.table known) c.self.view_is
    (filter_same _ (λ e. not (e.0 == c.args.table)) _ (λ x b f' k. search rules) _ _ c.retain.ensures.filtered)
