use Rattle.std.proofs.Common.{ℤ, ◌<◌, [], ◌∷◌, map, length, MatchOption, w64, refl, sym, ap, subst, arith, rules}
use Rattle.std.specs.Map.Iter.{deref_pair}
use Rattle.std.proofs.lemmas.Int.{to_z-of_z}
use Rattle.std.proofs.lemmas.List.{map-append, length-map, length-append}
use Rattle.std.proofs.lemmas.List.Elements.{All-push}
use Rattle.stored_ledgers.specs.DueSets.{DueSet}
use Rattle.stored_ledgers.specs.Overdue.{IsOverdue, IsNotOverdue, IsDuePiece, settled_to, number_behind}
use Rattle.stored_ledgers.specs.declared.due_search.Search.{Search}
use Rattle.stored_ledgers.proofs.SeenLemmas.{seen_all}
use Rattle.stored_ledgers.proofs.SearchLemmas.{entries_on, walks_all, comes_to, stops, begins_anew, finds, still_settled}
use Rattle.stored_ledgers.proofs.due_search.Search.next.Goals as goal

pub loop-number-preserved : goal.loop-number-preserved
loop-number-preserved c =
    let P : ℤ × DueSet → Type 0 = λ e. IsNotOverdue e.1 (settled_to c.args.self.now e.0) c.args.moment in
    let same = to_z-of_z w64 c.in-Some.number.now (search rules) in
    let to = still_settled c.args.self.now c.loop-number.self c.in-Some.number.now _ c.released.result
    c.loop-number.invariant.2.unchanged same c.released.ensures in
    let none = subst (λ r. MatchOption r (IsNotOverdue c.in-Some.set.now c.released.result c.args.moment)
    (λ piece. IsOverdue c.in-Some.set.now c.released.result c.args.moment
    × IsDuePiece c.in-Some.set.now c.released.result c.args.moment piece)) c.in_default.is c.due_in.ensures in (
      tt,
      tt,
      record {
        unchanged = c.loop-number.invariant.2.unchanged;
        passed = rw map-append (All-push P (map deref_pair c.loop-number.yielded) (c.in-Some.number.now, c.in-Some.set.now)
            c.loop-number.invariant.2.passed
            (subst (λ r. IsNotOverdue c.in-Some.set.now r c.args.moment) to none));
        looked = omega (
          arith,
          c.loop-number.invariant.2.looked,
          length-append c.loop-number.yielded ((c.in-Some.number, c.in-Some.set) ∷ []),
        );
        few = omega (arith, c.loop-number.invariant.2.few, c.if-looks-eq-LOOKS.false);
      },
    )

pub returns-then-looks-eq-LOOKS : goal.returns-then-looks-eq-LOOKS
returns-then-looks-eq-LOOKS c =
    let range = c.range-number-items.ensures in
    let here = comes_to deref_pair _ c.args.self.now.from c.args.due.now _ _ _ _ c.loop-number.yielded _ _
    (to_z-of_z w64 c.args.self.now.from (search rules)) c.into_iter-number-iterator.ensures.into_iter_gives
    (range.between tt) (range.in_range tt).0 c.loop-number.yielded_by c.in-Some.is c.next.ensures.steps in
    let same = to_z-of_z w64 c.in-Some.number.now (search rules) in
    let some : 0 < length (map deref_pair c.loop-number.yielded)
    = omega (
      arith,
      length-map c.loop-number.yielded deref_pair,
      c.loop-number.invariant.2.looked,
      c.if-looks-eq-LOOKS.true,
    ) in
    stops c.args.due.now c.args.moment c.args.self.now _ (map deref_pair c.loop-number.yielded)
    (c.in-Some.number.now, c.in-Some.set.now) c.next.new.self here.0 range.ordered here.1
    c.loop-number.invariant.2.passed some same (ap (λ (s : Search). s.last) c.loop-number.invariant.2.unchanged)

pub returns-in-Some-due_in : goal.returns-in-Some-due_in
returns-in-Some-due_in c =
    let range = c.range-number-items.ensures in
    let here = comes_to deref_pair _ c.args.self.now.from c.args.due.now _ _ _ _ c.loop-number.yielded _ _
    (to_z-of_z w64 c.args.self.now.from (search rules)) c.into_iter-number-iterator.ensures.into_iter_gives
    (range.between tt) (range.in_range tt).0 c.loop-number.yielded_by c.in-Some.is c.next.ensures.steps in
    let same = to_z-of_z w64 c.in-Some.number.now (search rules) in
    let to = still_settled c.args.self.now c.loop-number.self c.in-Some.number.now _ c.released.result
    c.loop-number.invariant.2.unchanged same c.released.ensures in
    finds c.args.due.now c.args.moment c.args.self.now _ (map deref_pair c.loop-number.yielded)
    (c.in-Some.number.now, c.in-Some.set.now) c.next.new.self _ c.in-Some-due_in.piece c.released.result
    here.0 range.ordered here.1 c.loop-number.invariant.2.passed same to c.in-Some-due_in.ensures
    (ap number_behind (sym same)) refl

pub returns : goal.returns
returns c =
    let range = c.range-number-items.ensures in
    let is = seen_all deref_pair (entries_on c.args.self.now.from c.args.due.now) _ _ _ c.loop-number.yielded _
    (walks_all _ c.args.self.now.from c.args.due.now _ _ (to_z-of_z w64 c.args.self.now.from (search rules))
    c.into_iter-number-iterator.ensures.into_iter_gives (range.between tt))
    c.loop-number.yielded_by c.in-None.is c.next.ensures.steps in
    begins_anew c.args.due.now c.args.moment c.args.self.now _ (map deref_pair c.loop-number.yielded) is range.ordered
    c.loop-number.invariant.2.passed refl (ap (λ (s : Search). s.last) c.loop-number.invariant.2.unchanged)
