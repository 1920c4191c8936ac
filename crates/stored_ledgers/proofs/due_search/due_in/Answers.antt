use Rattle.std.proofs.Common.{◌≤◌, ◌<◌, ◌-◌, inl, inr, arith}
use Rattle.std.proofs.lemmas.Bool.Decides.{nat_tests}
use Rattle.stored_ledgers.specs.Overdue.{HasOneAt}
use Rattle.stored_ledgers.proofs.HoldLemmas.{none_overdue, from_first, few_overdue}
use Rattle.stored_ledgers.proofs.due_search.due_in.Goals as goal
use Rattle.stored_ledgers.proofs.due_search.due_in.Goals.{then-piece, else-piece}

pub returns-then-first-moment : goal.returns-then-first-moment
returns-then-first-moment c =
    none_overdue c.args.set.now c.args.released c.args.moment
    (from_first c.args.set.now c.in_ok-first.field-0.now c.args.moment c.if-first-moment.true
    c.in_ok-first.ensures.all_from)

pub returns-then-first-saturating_sub : goal.returns-then-first-saturating_sub
returns-then-first-saturating_sub c =
    let first = c.in_ok-first.field-0.now in
    let has : HasOneAt c.args.set.now first.0 = (first.1, c.in_ok-first.ensures.member) in
    let piece = c.first_holds-piece.ensures has in (
      elim c.if-piece.branch [
        | then-piece w ↦ inl (piece.more w.if-piece.true)
        | else-piece w ↦
            let late : first.0 ≤ c.args.moment - 1000000000
            = grind (arith, nat_tests, w.value-is, w.saturating_sub.ensures, c.if-first-saturating_sub.true) in
            inr (first.0, late, has)
      ],
      piece,
    )

pub returns-else-first-saturating_sub : goal.returns-else-first-saturating_sub
returns-else-first-saturating_sub c =
    let first = c.in_ok-first.field-0.now in
    let has : HasOneAt c.args.set.now first.0 = (first.1, c.in_ok-first.ensures.member) in
    let piece = c.first_holds-piece.ensures has in
    elim c.if-piece.branch [
      | then-piece w ↦ absurd (cc)
      | else-piece w ↦
          let late : c.args.moment - 1000000000 < first.0
          = grind (arith, nat_tests, w.value-is, w.saturating_sub.ensures, c.if-first-saturating_sub.false) in
          few_overdue c.args.set.now c.args.released c.args.moment (piece.enough w.if-piece.false)
          (from_first c.args.set.now first (c.args.moment - 1000000000) late c.in_ok-first.ensures.all_from)
    ]
