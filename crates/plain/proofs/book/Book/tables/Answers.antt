use Rattle.std.proofs.Common.{◌≡◌, Some, None, refl, sym, ◌∙◌, ap, get_or}
use Rattle.std.specs.List.{position}
use Rattle.plain.specs.Book.{has_digest}
use Rattle.plain.proofs.Tenants.{changed, there, not_there}
use Rattle.plain.proofs.book.Book.tables.Goals as goal

pub returns-in-None : goal.returns-in-None
returns-in-None c =
    let none : position (has_digest c.args.digest.now) c.args.self.now ≡ None =
    sym (c.in-None.ensures
    ∙ ap (position (has_digest c.args.digest.now)) (c.deref.ensures.value ∙ c.self.view_is)) in (
      (refl, λ state. tt, c.self.view_is),
      record { writes_back = tt; value = sym (not_there c.args.digest.now c.args.self.now none) },
    )

pub returns-in-Some : goal.returns-in-Some
returns-in-Some c =
    let found : position (has_digest c.args.digest.now) c.args.self.now ≡ Some c.in-Some.place =
    sym (c.in-Some.ensures
    ∙ ap (position (has_digest c.args.digest.now)) (c.deref.ensures.value ∙ c.self.view_is)) in
    let tenant : c.index_mut.result.now
    ≡ get_or c.args.self.now c.in-Some.place c.index_mut.result.now =
    c.index_mut.ensures.value
    ∙ ap (λ tenants. get_or tenants c.in-Some.place c.index_mut.result.now) c.self.view_is in (
      (
        refl,
        λ state. rw c.self.view_is
            (changed c.args.digest.now state c.args.self.now _ _ found tenant),
        refl,
      ),
      record {
        writes_back = tt;
        value = ap Some c.tables.ensures.value
            ∙ sym (there c.args.digest.now c.args.self.now _ _ found tenant);
      },
    )
