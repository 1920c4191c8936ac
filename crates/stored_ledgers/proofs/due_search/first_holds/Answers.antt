use Rattle.std.proofs.Common.{◌≡◌, ℕ, ◌+◌, ◌<◌, [], ◌∷◌, map, cond, sym, subst, ◌∙◌, arith}
use Rattle.std.specs.Prelude.{nat_lt}
use Rattle.std.specs.Map.Iter.{deref}
use Rattle.std.proofs.lemmas.Bool.Decides.{nat_tests}
use Rattle.std.proofs.lemmas.List.{map-append}
use Rattle.std.proofs.lemmas.List.Elements.{All-nil}
use Rattle.stored_ledgers.proofs.HoldLemmas.{IsRead, read_none, read_more, read_all, read_enough, all_later}
use Rattle.stored_ledgers.proofs.SeenLemmas.{seen_more, seen_all}
use Rattle.stored_ledgers.proofs.due_search.first_holds.Goals as goal

pub loop-hold-init : goal.loop-hold-init
loop-hold-init c =
    (tt, tt, read_none c.args.set.now c.args.first c.args.released c.args.moment c.requires)

pub loop-hold-preserved-then-hold-released : goal.loop-hold-preserved-then-hold-released
loop-hold-preserved-then-hold-released c =
    let keys = seen_more deref c.args.set.now.keys c.into_iter-hold-iterator.result c.loop-hold.hold-iterator c.next.new.self
    c.loop-hold.yielded c.in-Some.hold c.next.result (c.into_iter-hold-iterator.ensures.into_iter_gives ∙ c.iter-hold-items.ensures.rest)
    c.loop-hold.yielded_by c.in-Some.is c.next.ensures.steps in
    let adds : c.loop-hold.count + 1 ≡ c.loop-hold.count
    + cond {A = ℕ} (nat_lt c.args.released c.in-Some.hold.now.0) 1 0
    = grind (arith, nat_tests, c.if-hold-released.true) in (
      tt,
      tt,
      subst (IsRead c.args.set.now c.args.first c.args.released c.args.moment c.in-Some.hold.now.0 (c.loop-hold.count + 1))
          (sym (map-append deref c.loop-hold.yielded (c.in-Some.hold ∷ [])))
          (read_more c.args.set.now c.args.first c.args.released c.args.moment c.loop-hold.until c.loop-hold.count (c.loop-hold.count + 1) (map deref c.loop-hold.yielded) c.in-Some.hold.now c.next.new.self keys
          c.iter-hold-items.ensures.ordered c.iter-hold-items.ensures.found c.if-hold-moment.false
          c.if-count-eq-PIECE.false adds c.loop-hold.invariant.2),
    )

pub loop-hold-preserved : goal.loop-hold-preserved
loop-hold-preserved c =
    let keys = seen_more deref c.args.set.now.keys c.into_iter-hold-iterator.result c.loop-hold.hold-iterator c.next.new.self
    c.loop-hold.yielded c.in-Some.hold c.next.result (c.into_iter-hold-iterator.ensures.into_iter_gives ∙ c.iter-hold-items.ensures.rest)
    c.loop-hold.yielded_by c.in-Some.is c.next.ensures.steps in
    let adds : c.loop-hold.count ≡ c.loop-hold.count
    + cond {A = ℕ} (nat_lt c.args.released c.in-Some.hold.now.0) 1 0
    = grind (arith, nat_tests, c.if-hold-released.false) in (
      tt,
      tt,
      subst (IsRead c.args.set.now c.args.first c.args.released c.args.moment c.in-Some.hold.now.0 (c.loop-hold.count))
          (sym (map-append deref c.loop-hold.yielded (c.in-Some.hold ∷ [])))
          (read_more c.args.set.now c.args.first c.args.released c.args.moment c.loop-hold.until c.loop-hold.count (c.loop-hold.count) (map deref c.loop-hold.yielded) c.in-Some.hold.now c.next.new.self keys
          c.iter-hold-items.ensures.ordered c.iter-hold-items.ensures.found c.if-hold-moment.false
          c.if-count-eq-PIECE.false adds c.loop-hold.invariant.2),
    )

pub returns-then-hold-moment : goal.returns-then-hold-moment
returns-then-hold-moment c =
    let keys = seen_more deref c.args.set.now.keys c.into_iter-hold-iterator.result c.loop-hold.hold-iterator c.next.new.self
    c.loop-hold.yielded c.in-Some.hold c.next.result (c.into_iter-hold-iterator.ensures.into_iter_gives ∙ c.iter-hold-items.ensures.rest)
    c.loop-hold.yielded_by c.in-Some.is c.next.ensures.steps in
    read_all c.args.set.now c.args.first c.args.released c.args.moment c.loop-hold.until c.loop-hold.count (map deref c.loop-hold.yielded) (c.in-Some.hold.now ∷ c.next.new.self) keys
    (all_later c.args.set.now (map deref c.loop-hold.yielded) c.in-Some.hold.now c.next.new.self c.args.moment keys
    c.iter-hold-items.ensures.ordered c.if-hold-moment.true) c.loop-hold.invariant.2

pub returns-then-count-eq-PIECE : goal.returns-then-count-eq-PIECE
returns-then-count-eq-PIECE c =
    let keys = seen_more deref c.args.set.now.keys c.into_iter-hold-iterator.result c.loop-hold.hold-iterator c.next.new.self
    c.loop-hold.yielded c.in-Some.hold c.next.result (c.into_iter-hold-iterator.ensures.into_iter_gives ∙ c.iter-hold-items.ensures.rest)
    c.loop-hold.yielded_by c.in-Some.is c.next.ensures.steps in
    read_enough c.args.set.now c.args.first c.args.released c.args.moment c.loop-hold.until c.loop-hold.count (map deref c.loop-hold.yielded) c.in-Some.hold.now c.next.new.self keys
    c.iter-hold-items.ensures.ordered c.if-hold-moment.false c.if-count-eq-PIECE.true c.loop-hold.invariant.2

pub returns : goal.returns
returns c =
    let keys = seen_all deref c.args.set.now.keys c.into_iter-hold-iterator.result c.loop-hold.hold-iterator c.next.new.self
    c.loop-hold.yielded c.next.result (c.into_iter-hold-iterator.ensures.into_iter_gives ∙ c.iter-hold-items.ensures.rest)
    c.loop-hold.yielded_by c.in-None.is c.next.ensures.steps in
    read_all c.args.set.now c.args.first c.args.released c.args.moment c.loop-hold.until c.loop-hold.count (map deref c.loop-hold.yielded) [] keys (All-nil (λ h. c.args.moment < h.0))
    c.loop-hold.invariant.2
