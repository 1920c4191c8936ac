use Rattle.std.proofs.Common.{◌≡◌, false, List, Some, None, option_map, is_some, refl, sym, ap, subst, ◌∙◌}
use Rattle.chain.specs.Tables.{State}
use Rattle.plain.specs.declared.book.Tenant.{Tenant}
use Rattle.plain.specs.Book.{machine_with, ChangesOne}
use Rattle.plain.specs.BookLedgers.{machines_in}
use Rattle.service.specs.Deeds.{joined as after_joining}
use Rattle.service.specs.Openings.{As_now}
use Rattle.whole_runs.specs.BookNames.{names_among}
use Rattle.whole_runs.specs.Names.{AddsName}
use Rattle.whole_runs.proofs.BookLemmas.{added_others, added_own, none_of}
use Rattle.whole_runs.proofs.NameLemmas.{gives_on}
use Rattle.whole_runs.proofs.NamedLemmas.{is_named, joined_named, joins_name, name_looked_up, unnamed}
use Rattle.whole_runs.proofs.named_book.NamedBookReopening.join.Goals as goal

pub returns-then-is_some-clause-named : goal.returns-then-is_some-clause-named
returns-then-is_some-clause-named c =
    let known = is_named c.args.name.now c.self.inside.names.items (name_looked_up _ _ _ _ _ _ c.is_some.ensures
    c.place_of.ensures c.deref.ensures.value c.if-is_some.true) in
    rw (← c.self.view_is) (record { told = λ live. (known, λ name. refl); found = λ found keeps. ∣ keeps ∣₁ })

pub returns-then-holds-clause-named : goal.returns-then-holds-clause-named
returns-then-holds-clause-named c =
    let known = unnamed c.args.name.now c.self.inside.names.items (name_looked_up _ _ _ _ _ _ c.is_some.ensures
    c.place_of.ensures c.deref.ensures.value c.if-is_some.false) in
    rw (← c.self.view_is) (record { told = λ live. (known, λ name. refl); found = λ found keeps. ∣ keeps ∣₁ })

module _ (c : goal.After-push_reserved) where
  joined : AddsName c.args.name.now c.args.digest.now (names_among c.self.inside.names.items)
      (names_among c.push_reserved.new.self.items)
  joined =
      let none =
      unnamed c.args.name.now c.self.inside.names.items (name_looked_up _ _ _ _ _ _ c.is_some.ensures
      c.place_of.ensures c.deref.ensures.value c.if-is_some.false) in (
        none,
        rw (c.push_reserved.ensures.items, c.reserve.ensures.items)
            (joins_name c.args.name.now c.args.digest.now c.self.inside.names.items none),
      )

  added : ChangesOne c.args.digest.now c.new.result c.self.inside.book c.add.new.self
  added =
      subst (λ (book : List Tenant). ChangesOne c.args.digest.now c.new.result book c.add.new.self)
      c.book.view_is c.in-Ok.ensures.ok

  free : machines_in c.self.inside.book c.args.digest.now ≡ None
  free =
      none_of _ (sym (c.holds.ensures
      ∙ ap (λ (book : List Tenant). is_some (machine_with c.args.digest.now book)) c.book.view_is)
      ∙ c.if-holds.false)

pub invariant_of-self-in-Ok : goal.invariant_of-self-in-Ok
invariant_of-self-in-Ok c = (
  c.in-Ok.ensures.usable c.new.ensures.usable c.book.invariant,
  joined_named c.args.name.now c.args.digest.now _ _ (machines_in c.self.inside.book)
      (machines_in c.add.new.self) (joined c).1 c.self.invariant.1
      (added_own c.args.digest.now c.new.result c.self.inside.book c.add.new.self (added c))
      (joined c).0 (free c)
      (added_others c.args.digest.now c.new.result c.self.inside.book c.add.new.self (added c)),
)

pub returns-in-Ok-clause-moves : goal.returns-in-Ok-clause-moves
returns-in-Ok-clause-moves c = rw (← c.self.view_is) (record {
  happens = λ live. record {
    may = free c;
    own = ap (option_map (λ (s : State). s.now)) (added c).own
        ∙ ap (λ (s : State). Some s.now) c.new.ensures.state ∙ sym (ap after_joining (free c));
    others = added_others c.args.digest.now c.new.result c.self.inside.book c.add.new.self (added c);
  };
  lived = λ live. c.self.invariant;
  found = λ found keeps. As_now (invariant_of-self-in-Ok c) keeps;
})

pub returns-in-Ok-clause-named : goal.returns-in-Ok-clause-named
returns-in-Ok-clause-named c = rw (← c.self.view_is) (record {
  told = λ live. joined c;
  found = λ found keeps. ∣ (
    c.self.invariant,
    ((joined c).0, gives_on c.args.name.now c.args.digest.now _ _ found (joined c).1 keeps),
  ) ∣₁;
})
