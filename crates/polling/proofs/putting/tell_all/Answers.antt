use Rattle.std.proofs.Common.{◌+◌, refl, ap, subst, ℕ, List, length, arith}
use Rattle.polling.specs.Round.{AreCopied}
use Rattle.polling.specs.Seating.{seats_in}
use Rattle.polling.specs.declared.round.Member.{Member}
use Rattle.polling.proofs.RoundLemmas.{member_here, nobody_here, fits_here, none_left}
use Rattle.polling.proofs.LostLemmas.{told_more, told_none, told_over}
use Rattle.polling.proofs.putting.tell_all.Goals as goal

pub loop-member-init : goal.loop-member-init
loop-member-init g c = record {
  told =
      told_none g.L.Ledgers.means g.C.Moments.gives g.H.Steward.renews g.H.Steward.waits g.P.Peers.does
      c.args.round.now.messages.items (seats_in c.args.clients.now) c.args.round.now.members.items
      c.requires;
  count = refl;
}

pub put_one-requires : goal.put_one-requires
put_one-requires g c =
    fits_here _ _ _ _ _
    (member_here _ _ _ _ c.deref-member-items.ensures.value c.loop-member-test.true)
    c.loop-member.invariant.told.copied

pub overflow_add-count : goal.overflow_add-count
overflow_add-count g c =
    let is = c.loop-member.invariant.count in
    let within = c.loop-member-test.true in
    let small = c.deref-member-items.type_inv.0 in
    omega (arith, is, within, small)

pub loop-member-preserved : goal.loop-member-preserved
loop-member-preserved g c = record {
  told =
      told_more g.L.Ledgers.means g.C.Moments.gives g.H.Steward.renews g.H.Steward.waits g.P.Peers.does
      c.meanings_are_unique.ensures.head c.rounds_reply.ensures.unavailable _ _ _ _ _ _ _ _
      (member_here _ _ _ _ c.deref-member-items.ensures.value c.loop-member-test.true)
      c.loop-member.invariant.told c.put_one.ensures;
  count = ap (λ (n : ℕ). n + 1) c.loop-member.invariant.count;
}

pub returns : goal.returns
returns g c = record {
  put =
      told_over g.L.Ledgers.means g.C.Moments.gives g.H.Steward.renews g.H.Steward.waits g.P.Peers.does _ _ _ _ _
      c.loop-member.invariant.told
      (none_left (seats_in c.loop-member.clients) _
      (subst
      (λ (ms : List Member).
      AreCopied (seats_in c.loop-member.clients) ms c.loop-member.invariant.told.left)
      (nobody_here _ _ _ c.deref-member-items.ensures.value c.loop-member-test.false)
      c.loop-member.invariant.told.copied));
  few =
      let is = c.loop-member.invariant.count in
      let within = c.loop-member.auto.member-index-end in
      let same = ap length c.deref-member-items.ensures.value in
      omega (arith, is, within, same);
}
