use Rattle.std.proofs.Common.{arith, inl, inr, subst, List}
use Rattle.service.specs.declared.turns.Message.{Message}
use Rattle.service.specs.Turns.{TakeTurns}
use Rattle.polling.specs.Seating.{seats_in}
use Rattle.polling.proofs.CopyLemmas.{copied_as_before, only_copied, taken_back, kept_and_put}
use Rattle.polling.proofs.CopyLemmas.{disk_stands, lost_and_told, not_lost}
use Rattle.polling.proofs.sharing.share_round.Goals as goal

pub returns-then-len-lt2 : goal.returns-then-len-lt2
returns-then-len-lt2 g c = record {
  serves =
      λ next. only_copied g.L.Ledgers.means g.C.Moments.gives g.H.Steward.renews g.H.Steward.waits g.P.Peers.does
      c.args.ledgers.now c.args.moments.now c.copy_all-round.new.moments c.args.peers.now
      (seats_in c.args.clients.now) (seats_in c.copy_all-round.new.clients) next
      c.copy_all-round.result.messages.items c.copy_all-round.ensures.same
      c.copy_all-round.ensures.gathered.given;
  few =
      omega arith;
}

pub put_all-requires : goal.put_all-requires
put_all-requires g c =
    copied_as_before (seats_in c.args.clients.now) (seats_in c.copy_all-round.new.clients) _ _
    c.copy_all-round.ensures.same c.copy_all-round.ensures.gathered.copied

pub returns-in-Ok : goal.returns-in-Ok
returns-in-Ok g c = record {
  serves =
      λ next. kept_and_put g.L.Ledgers.means g.C.Moments.gives g.H.Steward.renews g.H.Steward.waits g.P.Peers.does
      c.args.ledgers.now c.in_round-replies.new.self c.args.moments.now c.copy_all-round.new.moments
      c.args.peers.now c.put_all.new.peers (seats_in c.args.clients.now)
      (seats_in c.copy_all-round.new.clients) (seats_in c.put_all.new.clients) next c.copy_all-round.result.messages.items
      c.in-Ok.replies.items c.put_all.result c.copy_all-round.ensures.same
      c.copy_all-round.ensures.gathered.given c.in_round-replies.ensures.follows
      (g.met.L.Ledgers.lived _ _ c.in_round-replies.ensures.follows)
      (g.met.L.Ledgers.stays c.in_round-replies.new.self)
      (λ live.
      subst
      (λ (messages : List Message).
      TakeTurns messages (g.L.Ledgers.means.tenants c.args.ledgers.now) c.in-Ok.replies.items
      (g.L.Ledgers.means.tenants c.in_round-replies.new.self))
      c.as_slice-messages.ensures.value (c.in-Ok.ensures.run live))
      (λ found may.
      let live = c.in-Ok.ensures.finds.live (λ same. cc) found may in
      (live, c.is_settled.ensures live found may))
      c.put_all.ensures.put;
  few =
      let put = c.put_all.ensures.few in let copied = c.copy_all-round.ensures.few in omega (arith, put, copied);
}

pub tell_all-requires : goal.tell_all-requires
tell_all-requires g c =
    copied_as_before (seats_in c.args.clients.now) (seats_in c.copy_all-round.new.clients) _ _
    c.copy_all-round.ensures.same c.copy_all-round.ensures.gathered.copied

pub returns-in-Disk : goal.returns-in-Disk
returns-in-Disk g c = record {
  serves =
      λ next. lost_and_told g.L.Ledgers.means g.C.Moments.gives g.H.Steward.renews g.H.Steward.waits g.P.Peers.does
      c.args.ledgers.now c.in_round-replies.new.self c.args.moments.now c.copy_all-round.new.moments
      c.args.peers.now (seats_in c.args.clients.now) (seats_in c.copy_all-round.new.clients)
      (seats_in c.tell_all.new.clients) next c.copy_all-round.result.messages.items
      c.tell_all.result c.copy_all-round.ensures.same c.copy_all-round.ensures.gathered.given
      (g.met.L.Ledgers.stays c.args.ledgers.now)
      (record {
        follows = c.in_round-replies.ensures.follows;
        lived = g.met.L.Ledgers.lived _ _ c.in_round-replies.ensures.follows;
        same = rw c.in-Err.is at c.in_round-replies.ensures.same;
        found = λ found may.
            elim (c.in_round-replies.ensures.finds.found found may) [
              | inl before ↦ inl before
              | inr done ↦
                  inr (
                    done.0,
                    (
                      done.1.0.items,
                      subst
                          (λ (messages : List Message).
                          TakeTurns messages (g.L.Ledgers.means.tenants c.args.ledgers.now)
                          done.1.0.items found)
                          c.as_slice-messages.ensures.value done.1.1,
                    ),
                  )
            ];
      })
      c.tell_all.ensures.put;
  few =
      let put = c.tell_all.ensures.few in let copied = c.copy_all-round.ensures.few in omega (arith, put, copied);
}

pub returns : goal.returns
returns g c = record {
  serves =
      λ next. taken_back g.L.Ledgers.means g.C.Moments.gives g.H.Steward.renews g.H.Steward.waits g.P.Peers.does
      c.args.ledgers.now c.in_round-replies.new.self c.args.moments.now c.copy_all-round.new.moments
      c.args.peers.now (seats_in c.args.clients.now) (seats_in c.copy_all-round.new.clients) next
      c.copy_all-round.result.messages.items c.copy_all-round.ensures.same
      c.copy_all-round.ensures.gathered.given c.in_round-replies.ensures.follows
      (g.met.L.Ledgers.lived _ _ c.in_round-replies.ensures.follows)
      (rw c.in-Err.is at c.in_round-replies.ensures.same)
      (λ found may.
      let live =
      c.in_round-replies.ensures.finds.live (not_lost _ _ c.in-Err.is (disk_stands _ c.in-Memory.is)) found may in
      (live, c.is_settled.ensures live found may));
  few =
      omega arith;
}
