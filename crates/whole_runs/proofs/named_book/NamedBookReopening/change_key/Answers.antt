use Rattle.std.proofs.Common.{◌≡◌, ◌≢◌, false, List, [], Some, None, is_some, refl, sym, ap, subst, ◌∙◌}
use Rattle.std.specs.List.{position}
use Rattle.plain.specs.declared.book.Tenant.{Tenant}
use Rattle.plain.specs.Book.{machine_with, IsRekeyed}
use Rattle.plain.specs.BookLedgers.{machines_in}
use Rattle.service.specs.Openings.{As_now}
use Rattle.whole_runs.specs.BookNames.{has_name, names_among}
use Rattle.whole_runs.proofs.BookLemmas.{another_digest, none_of, rekeyed_done, rekeyed_gone, rekeyed_others, rekeyed_own, same_digest}
use Rattle.whole_runs.proofs.NameLemmas.{gives_on, some_named}
use Rattle.whole_runs.proofs.NamedLemmas.{named_so, rekeyed_named, rekeys_name, unnamed}
use Rattle.whole_runs.proofs.named_book.NamedBookReopening.change_key.Goals as goal
use Rattle.whole_runs.proofs.named_book.NamedBookReopening.change_key.Goals.{else-ne-via-then-ne+else-holds, else-ne-via-else-ne}

-- nobody has the name
pub returns-in_default-clause-moves : goal.returns-in_default-clause-moves
returns-in_default-clause-moves c = rw (← c.self.view_is) (record {
  was = [];
  moves = record {
    happens = λ live d. refl;
    lived = λ live. live;
    found = λ found keeps. As_now c.self.invariant keeps;
  };
  told = λ live. (
    unnamed c.args.name.now c.self.inside.names.items
        (ap is_some (sym (c.place_of.ensures
        ∙ ap (position (has_name c.args.name.now)) c.deref.ensures.value) ∙ c.in_default.is)),
    λ name. refl,
  );
  found = λ found keeps. ∣ keeps ∣₁;
})

-- another tenant has the digest
pub returns-then-holds-clause-moves : goal.returns-then-holds-clause-moves
returns-then-holds-clause-moves c = rw (← c.self.view_is) (record {
  was = c.index.result.now.digest;
  moves = record {
    happens = λ live d. refl;
    lived = λ live. live;
    found = λ found keeps. As_now c.self.invariant keeps;
  };
  told = λ live. (
    named_so c.args.name.now c.self.inside.names.items c.in-Some.place c.index.result.now
        (sym (c.place_of.ensures ∙ ap (position (has_name c.args.name.now)) c.deref.ensures.value)
        ∙ c.in-Some.is)
        c.index.ensures,
    another_digest c.index.result.now.digest c.args.digest.now (sym c.ne.ensures ∙ c.if-ne.true),
    λ name. refl,
  );
  found = λ found keeps. ∣ keeps ∣₁;
})

module _ (c : goal.After-self-1) where
  found : position (has_name c.args.name.now) c.self.inside.names.items ≡ Some c.in-Some.place
  found =
      sym (c.place_of.ensures ∙ ap (position (has_name c.args.name.now)) c.deref.ensures.value)
      ∙ c.in-Some.is

  had : names_among c.self.inside.names.items c.args.name.now ≡ Some c.index.result.now.digest
  had =
      named_so c.args.name.now c.self.inside.names.items c.in-Some.place c.index.result.now found
      c.index.ensures

  there : machines_in c.self.inside.book c.index.result.now.digest ≢ None
  there = c.self.invariant.1.there c.args.name.now c.index.result.now.digest had

  rekeyed : IsRekeyed c.index.result.now.digest c.args.digest.now c.self.inside.book c.rekey.new.self
  rekeyed =
      subst (λ (book : List Tenant). IsRekeyed c.index.result.now.digest c.args.digest.now book c.rekey.new.self)
      c.book.view_is c.rekey.ensures.rekeyed

  free :
      c.index.result.now.digest ≢ c.args.digest.now →
      is_some (machine_with c.args.digest.now c.self.inside.book) ≡ false
  free moved =
      elim c.else-ne.branch [
        | else-ne-via-then-ne+else-holds w ↦
            sym (w.holds.ensures
            ∙ ap (λ (book : List Tenant). is_some (machine_with c.args.digest.now book)) c.book.view_is)
            ∙ w.if-holds.false
        | else-ne-via-else-ne w ↦
            absurd (moved (same_digest c.index.result.now.digest c.args.digest.now
            (sym c.ne.ensures ∙ w.if-ne.false)))
      ]

pub invariant_of-self-2 : goal.invariant_of-self-2
invariant_of-self-2 c = (
  c.rekey.ensures.usable c.book.invariant,
  rekeyed_named c.args.name.now c.args.digest.now _ _ (machines_in c.self.inside.book)
      (machines_in c.rekey.new.self)
      (rekeys_name c.args.name.now c.self.inside.names.items c.in-Some.place
      c.index_mut.result.now (found c) c.index_mut.ensures.value c.args.digest.now)
      c.self.invariant.1
      (rekeyed_own c.index.result.now.digest c.args.digest.now c.self.inside.book c.rekey.new.self
      (there c) (rekeyed c))
      c.index.result.now.digest (had c) (λ moved. none_of _ (free c moved))
      (rekeyed_gone c.index.result.now.digest c.args.digest.now c.self.inside.book c.rekey.new.self
      (rekeyed c))
      (rekeyed_others c.index.result.now.digest c.args.digest.now c.self.inside.book
      c.rekey.new.self (rekeyed c)),
)

pub returns-clause-moves : goal.returns-clause-moves
returns-clause-moves c =
    let gives =
    rekeys_name c.args.name.now c.self.inside.names.items c.in-Some.place c.index_mut.result.now
    (found c) c.index_mut.ensures.value c.args.digest.now in
    rw (← c.self.view_is) (record {
      was = c.index.result.now.digest;
      moves = record {
        happens = λ live.
            rekeyed_done c.index.result.now.digest c.args.digest.now c.self.inside.book
            c.rekey.new.self (there c) (free c) (rekeyed c);
        lived = λ live. c.self.invariant;
        found = λ found keeps. As_now (invariant_of-self-2 c) keeps;
      };
      told = λ live. (had c, gives);
      found = λ found keeps. ∣ (
        c.self.invariant,
        (
          some_named _ c.index.result.now.digest (had c),
          gives_on c.args.name.now c.args.digest.now _ _ found gives keeps,
        ),
      ) ∣₁;
    })
