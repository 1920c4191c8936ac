use Rattle.std.proofs.Common.{◌≡◌, ◌||◌, Bool, true, refl, sym, ap, ◌∙◌, subst, inl, inr, arith}
use Rattle.std.proofs.KnownBytes.{Keeps-refl}
use Rattle.service.specs.Connections.{connection, Exchange}
use Rattle.service.proofs.ConnectionRuns.{none_yet, one_reply_more, on_err_is, on_ok_is}
use Rattle.service.proofs.serving.serve.Goals as goal

pub loop-replies-init : goal.loop-replies-init
loop-replies-init g c = record {
  replied = none_yet g.L.Ledgers.means g.C.Moments.gives _ _;
  reads = refl;
  writes = refl;
  follows = g.met.L.Ledgers.stays c.args.ledgers.now;
  few = omega arith;
}

pub returns-in-Ok-None-clause-served : goal.returns-in-Ok-None-clause-served
returns-in-Ok-None-clause-served g c =
    let end = rw c.in-Ok-None.field-0-is at (c.in-Ok-None.ensures.exchanges) in
    record {
      last = connection c.loop-replies.ledgers
          (g.R.Source.left c.loop-replies.reader) c.loop-replies.moments true;
      replied =
          c.loop-replies.invariant.replied;
      why = record { ended = inr (inr end.0); unread_left = end.1 };
      ledgers_left = end.2;
      moments_left = end.3;
    }

pub returns-in-Err-clause-served : goal.returns-in-Err-clause-served
returns-in-Err-clause-served g c = record {
  last = connection c.loop-replies.ledgers
      (g.R.Source.left c.loop-replies.reader) c.loop-replies.moments true;
  replied =
      c.loop-replies.invariant.replied;
  why = c.in-Err.ensures.broken;
  ledgers_left = c.in-Err.ensures.same;
  moments_left = c.in-Err.ensures.unasked;
}

pub returns-then-is_err-clause-served : goal.returns-then-is_err-clause-served
returns-then-is_err-clause-served g c = record {
  last = connection c.loop-replies.ledgers
      (g.R.Source.left c.loop-replies.reader) c.loop-replies.moments true;
  between = g.W.Drain.written c.loop-replies.writer;
  replied =
      c.loop-replies.invariant.replied;
  reply = c.in-Ok-Some.exchanged.reply;
  next = connection c.exchange.new.ledgers
      (g.R.Source.left c.exchange.new.reader) c.exchange.new.moments c.in-Ok-Some.exchanged.goes_on;
  exchanged = rw c.in-Ok-Some.field-0-is at (c.in-Ok-Some.ensures.exchanges);
  begun = on_err_is c.write.result _ (sym c.is_err.ensures.value ∙ c.if-is_err.true)
      c.write.ensures.err;
  unread_left = Keeps-refl (g.R.Source.left c.exchange.new.reader);
  ledgers_left = refl;
  moments_left = refl;
}

pub returns-then-not-goes_on-clause-served : goal.returns-then-not-goes_on-clause-served
returns-then-not-goes_on-clause-served g c = record {
  last = connection c.exchange.new.ledgers
      (g.R.Source.left c.exchange.new.reader) c.exchange.new.moments c.in-Ok-Some.exchanged.goes_on;
  replied =
      one_reply_more g.L.Ledgers.means g.C.Moments.gives _ _ _ _ _ _ _ c.in-Ok-Some.exchanged.reply
      c.loop-replies.invariant.replied
      (rw c.in-Ok-Some.field-0-is at (c.in-Ok-Some.ensures.exchanges))
      (on_ok_is c.write.result _ (sym c.is_err.ensures.value ∙ c.if-is_err.false)
      c.write.ensures.ok);
  why = record {
    ended = inr (inl c.if-not-goes_on.true);
    unread_left = Keeps-refl (g.R.Source.left c.exchange.new.reader);
  };
  ledgers_left = refl;
  moments_left = refl;
}

pub loop-replies-preserved : goal.loop-replies-preserved
loop-replies-preserved g c =
    let goes_on : c.in-Ok-Some.exchanged.goes_on ≡ true =
    c.if-not-goes_on.false in
    record {
      replied =
          one_reply_more g.L.Ledgers.means g.C.Moments.gives _ _ _ _ _ _ _
          c.in-Ok-Some.exchanged.reply
          c.loop-replies.invariant.replied
          (subst
          (λ (on : Bool).
          Exchange g.L.Ledgers.means g.C.Moments.gives
          (connection c.loop-replies.ledgers
          (g.R.Source.left c.loop-replies.reader) c.loop-replies.moments true)
          c.in-Ok-Some.exchanged.reply
          (connection c.exchange.new.ledgers
          (g.R.Source.left c.exchange.new.reader) c.exchange.new.moments on))
          goes_on (rw c.in-Ok-Some.field-0-is at (c.in-Ok-Some.ensures.exchanges)))
          (on_ok_is c.write.result _ (sym c.is_err.ensures.value ∙ c.if-is_err.false)
          c.write.ensures.ok);
      reads = c.in-Ok-Some.ensures.failed ∙ c.loop-replies.invariant.reads;
      writes =
          c.write.ensures.failed
          ∙ ap (λ (fails : Bool). fails || g.W.Drain.failed c.loop-replies.writer)
          (sym c.is_err.ensures.value ∙ c.if-is_err.false)
          ∙ c.loop-replies.invariant.writes;
      follows = g.met.L.Ledgers.then _ _ _ c.loop-replies.invariant.follows
          c.exchange.ensures.stays;
      few = omega arith;
    }

pub returns-clause-served : goal.returns-clause-served
returns-clause-served g c = record {
  last = connection c.loop-replies.ledgers
      (g.R.Source.left c.loop-replies.reader) c.loop-replies.moments true;
  replied = c.loop-replies.invariant.replied;
  why = record {
    ended = inl (omega (arith, c.loop-replies.invariant.few));
    unread_left = Keeps-refl (g.R.Source.left c.loop-replies.reader);
  };
  ledgers_left = refl;
  moments_left = refl;
}
