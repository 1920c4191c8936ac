use Rattle.std.proofs.Common.{rules, ◌+◌, inl, inr, refl, ap, sym, subst, ℕ, List, length, arith}
use Rattle.ledger_http.specs.declared.reply.Reply.{Reply}
use Rattle.polling.specs.Round.{AreCopied}
use Rattle.polling.specs.Seating.{seats_in}
use Rattle.polling.specs.declared.round.Member.{Member}
use Rattle.polling.proofs.RoundLemmas.{member_here, nobody_here, fits_here, nothing_left, none_left}
use Rattle.polling.proofs.RoundLemmas.{ArePutSoFar, put_more, put_none, put_over}
use Rattle.polling.proofs.putting.put_all.Goals as goal

pub loop-member-init : goal.loop-member-init
loop-member-init g c = record {
  put =
      subst
      (λ (replies : List Reply).
      ArePutSoFar g.L.Ledgers.means g.C.Moments.gives g.H.Steward.renews g.H.Steward.waits g.P.Peers.does
      c.args.round.now.messages.items c.args.replies.items c.args.peers.now
      (seats_in c.args.clients.now) c.args.round.now.members.items replies c.args.peers.now
      (seats_in c.args.clients.now) 0)
      (sym c.into_iter-rest.ensures.rest)
      (put_none g.L.Ledgers.means g.C.Moments.gives g.H.Steward.renews g.H.Steward.waits g.P.Peers.does
      c.args.round.now.messages.items c.args.replies.items c.args.peers.now
      (seats_in c.args.clients.now) c.args.round.now.members.items c.requires);
  count = refl;
  len = search rules;
}

pub returns-in_default : goal.returns-in_default
returns-in_default g c = record {
  put =
      put_over g.L.Ledgers.means g.C.Moments.gives g.H.Steward.renews g.H.Steward.waits g.P.Peers.does _ _ _ _ _ _ _ _ _
      c.loop-member.invariant.put
      (inr (nothing_left _ _ c.loop-member.invariant.len c.in_default.ensures.cases.0));
  few =
      let is = c.loop-member.invariant.count in
      let within = c.loop-member-test.true in
      let same = ap length c.deref-member-items.ensures.value in
      omega (arith, is, within, same);
}

pub hand_one-requires : goal.hand_one-requires
hand_one-requires g c =
    fits_here _ _ _ _ _
    (member_here _ _ _ _ c.deref-member-items.ensures.value c.loop-member-test.true)
    c.loop-member.invariant.put.copied

pub overflow_add-count : goal.overflow_add-count
overflow_add-count g c =
    let is = c.loop-member.invariant.count in
    let within = c.loop-member-test.true in
    let small = c.deref-member-items.type_inv.0 in
    omega (arith, is, within, small)

pub loop-member-preserved : goal.loop-member-preserved
loop-member-preserved g c = record {
  put =
      put_more g.L.Ledgers.means g.C.Moments.gives g.H.Steward.renews g.H.Steward.waits g.P.Peers.does
      c.rounds_reply.ensures.leave c.rounds_reply.ensures.reply _ _ _ _ _ _ _ _ _ _ _ _ _ _ _
      (member_here _ _ _ _ c.deref-member-items.ensures.value c.loop-member-test.true)
      c.in-Some.ensures.cases.0 c.loop-member.invariant.put c.hand_one.ensures;
  count = ap (λ (n : ℕ). n + 1) c.loop-member.invariant.count;
  len =
      let was = c.loop-member.invariant.len in
      let gone = c.in-Some.ensures.cases.1 in
      let short = ap length c.in-Some.ensures.cases.0 in
      omega (arith, was, gone, short);
}

pub returns : goal.returns
returns g c = record {
  put =
      put_over g.L.Ledgers.means g.C.Moments.gives g.H.Steward.renews g.H.Steward.waits g.P.Peers.does _ _ _ _ _ _ _ _ _
      c.loop-member.invariant.put
      (inl
      (none_left (seats_in c.loop-member.clients) _
      (subst
      (λ (ms : List Member).
      AreCopied (seats_in c.loop-member.clients) ms c.loop-member.invariant.put.left)
      (nobody_here _ _ _ c.deref-member-items.ensures.value c.loop-member-test.false)
      c.loop-member.invariant.put.copied)));
  few =
      let is = c.loop-member.invariant.count in
      let within = c.loop-member.auto.member-index-end in
      let same = ap length c.deref-member-items.ensures.value in
      omega (arith, is, within, same);
}
