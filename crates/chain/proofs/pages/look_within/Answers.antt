use Rattle.std.proofs.Common.{◌≡◌, ◌<◌, length, ltb, sym, ap, subst, refl, ◌∙◌, arith}
use Rattle.std.specs.List.{All}
use Rattle.std.proofs.lemmas.List.Elements.{All-weaker}
use Rattle.chain.specs.Pages.{IsRecord, page_of}
use Rattle.chain.specs.Tables.{State}
use Rattle.chain.proofs.TableCalls.{looks_in_turn}
use Rattle.chain.proofs.PageWalks.{kept_within, ends_full, ends_or_goes, shown_before}
use Rattle.chain.proofs.pages.look_within.Goals as goal
use Rattle.chain.proofs.pages.look_within.Goals.{then-is_last, else-is_last}

pub look_through-requires-clause-kept : goal.look_through-requires-clause-kept
look_through-requires-clause-kept g c live =
    let before = g.met.T.Tables.lived _ _ c.in_ok-records.ensures.leaves.follows live in
    let m = (g.T.Tables.means.state c.args.tables.now).now in
    let valid = g.met.T.Tables.valid _ before c.requires.usable in
    subst (λ n. All (IsRecord g.Q.Source.time_of (g.Q.Source.is_kept n)) c.deref.result.now)
    (sym (ap (λ (s : State). s.now) (c.in_ok-records.ensures.leaves.same live)))
    (kept_within g.Q.Source.time_of (g.Q.Source.is_kept m) (g.Q.Source.records_in c.args.query.now m) c.deref.result.now
    c.args.span.now (c.deref.ensures.value ∙ c.in_ok-records.ensures.value live) (g.met.Q.Source.in_turn c.args.query.now m valid))

pub returns-then-is_full : goal.returns-then-is_full
returns-then-is_full g c = record {
  value = λ live.
      let mid = g.met.T.Tables.lived _ _ c.in_ok-look_through.ensures.leaves.follows live in
      let m = (g.T.Tables.means.state c.args.tables.now).now in
      ends_full g.Q.Source.time_of (g.Q.Query.shown_in c.args.query.now m) (g.Q.Query.asks c.args.query.now)
      (g.Q.Source.records_in c.args.query.now m) c.deref.result.now c.args.span.now (page_of c.args.draft.now) (page_of c.look_through.new.draft)
      (c.deref.ensures.value ∙ c.in_ok-records.ensures.value mid)
      (shown_before g.T.Tables.means c.args.tables.now c.within.new.tables g.Q.Source.time_of (g.Q.Query.shown_in c.args.query.now)
      (g.Q.Query.asks c.args.query.now) c.deref.result.now (page_of c.args.draft.now) (page_of c.look_through.new.draft)
      (c.in_ok-records.ensures.leaves.same mid) (c.in_ok-look_through.ensures.value live))
      (sym c.is_full.ensures ∙ c.if-is_full.true);
  leaves =
      looks_in_turn _ _ _ _ _ _ _ (record { then = g.met.T.Tables.then; lived = g.met.T.Tables.lived })
      c.in_ok-records.ensures.leaves c.in_ok-look_through.ensures.leaves;
}

pub returns : goal.returns
returns g c = record {
  value = λ live.
      let mid = g.met.T.Tables.lived _ _ c.in_ok-look_through.ensures.leaves.follows live in
      let before = g.met.T.Tables.lived _ _ c.in_ok-records.ensures.leaves.follows mid in
      let m = (g.T.Tables.means.state c.args.tables.now).now in
      let are = g.met.Q.Source.in_turn c.args.query.now m (g.met.T.Tables.valid _ before c.requires.usable) in
      let found = c.deref.ensures.value ∙ c.in_ok-records.ensures.value mid in
      let counted : c.len.result ≡ length c.deref.result.now =
      c.len.ensures ∙ c.in_ok-records.records.ok.0 ∙ sym (ap length c.deref.ensures.value) in
      ends_or_goes g.Q.Source.time_of (g.Q.Query.shown_in c.args.query.now m) (g.Q.Query.asks c.args.query.now)
      (g.Q.Source.records_in c.args.query.now m) c.deref.result.now c.args.span.now (page_of c.args.draft.now) (page_of c.look_through.new.draft)
      found
      (shown_before g.T.Tables.means c.args.tables.now c.within.new.tables g.Q.Source.time_of (g.Q.Query.shown_in c.args.query.now)
      (g.Q.Query.asks c.args.query.now) c.deref.result.now (page_of c.args.draft.now) (page_of c.look_through.new.draft)
      (c.in_ok-records.ensures.leaves.same mid) (c.in_ok-look_through.ensures.value live))
      (sym c.is_full.ensures ∙ c.if-is_full.false) (page_of c.if-is_last.draft) c.len.result counted
      (ltb c.len.result c.args.span.now.most) refl
      (elim c.if-is_last.branch [
        | then-is_last w ↦ λ less. ap page_of w.draft-is
        | else-is_last w ↦ λ less. absurd (omega (arith, w.if-is_last.false, less))
      ])
      (elim c.if-is_last.branch [
        | then-is_last w ↦ λ more. absurd (omega (arith, w.if-is_last.true, more))
        | else-is_last w ↦ λ more. ap page_of w.draft-is
      ])
      c.requires.order c.requires.some are.rise
      (All-weaker (IsRecord g.Q.Source.time_of (g.Q.Source.is_kept m)) (λ it. 0 < g.Q.Source.time_of it)
      (λ it record_is. record_is.positive) (g.Q.Source.records_in c.args.query.now m) are.each);
  leaves =
      looks_in_turn _ _ _ _ _ _ _ (record { then = g.met.T.Tables.then; lived = g.met.T.Tables.lived })
      c.in_ok-records.ensures.leaves c.in_ok-look_through.ensures.leaves;
}
