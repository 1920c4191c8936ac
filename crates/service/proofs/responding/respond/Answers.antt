use Rattle.std.proofs.Common.{◌≡◌, Option, IfSome, subst, sym}
use Rattle.parts.specs.declared.rest.Rest.{Rest}
use Rattle.ledger_http.specs.ReplyText.{reply_text}
use Rattle.service.specs.Begun.{reply_of, reply_with}
use Rattle.service.specs.Calls.{RespondsOver}
use Rattle.service.specs.Responds.{IsLeftSame, IsQuestion}
use Rattle.service.proofs.BegunLemmas.{available_where_left, finds_on_behind, responds_on}
use Rattle.service.proofs.Responses.{early_of, no_health, no_page}
use Rattle.service.proofs.responding.respond.Goals as goal

pub returns-in-Some : goal.returns-in-Some
returns-in-Some g c = record {
  responds = λ live.
      let t = g.L.Ledgers.means in
      let mid = g.met.L.Ledgers.lived c.begin-front.new.ledgers c.finish_statement.new.ledgers c.finish_statement.ensures.reads.follows live in
      let q = subst (λ (r : Option Rest). IfSome r (λ rest. IsQuestion c.args.bytes.now)) c.in-Some.is c.begin-front.ensures.asks in
      let left = subst (λ (r : Option Rest). IfSome r (λ rest. t.is_live c.begin-front.new.ledgers →
      IsLeftSame c.args.bytes.now c.args.moment (t.tenants c.args.ledgers.now) (t.tenants c.begin-front.new.ledgers) rest)) c.in-Some.is c.begin-front.ensures.left mid in
      responds_on (t.tenants c.args.ledgers.now) (t.tenants c.begin-front.new.ledgers) (t.tenants c.finish_statement.new.ledgers)
      c.args.bytes.now c.args.moment (reply_of (t.tenants c.begin-front.new.ledgers) c.begin-front.result) c.finish_statement.result
      (c.begin-front.ensures.replies.responds mid)
      (available_where_left (t.tenants c.begin-front.new.ledgers) c.begin-front.result c.in-Some.rest c.in-Some.is)
      left.1.0 (c.finish_statement.ensures.reads.same live)
      (λ ne.
      subst (λ (r : Option Rest). reply_text c.finish_statement.result
      ≡ reply_text (reply_with (t.tenants c.begin-front.new.ledgers) c.begin-front.result.front r)) (sym c.in-Some.is)
      (c.finish_statement.ensures.text live ne)) q;
  early =
      let q = subst (λ (r : Option Rest). IfSome r (λ rest. IsQuestion c.args.bytes.now)) c.in-Some.is c.begin-front.ensures.asks in
      early_of _ q.head q.question _ q.has q.is;
  page =
      let q = subst (λ (r : Option Rest). IfSome r (λ rest. IsQuestion c.args.bytes.now)) c.in-Some.is c.begin-front.ensures.asks in
      no_page _ q.head q.question _ q.has q.is;
  health =
      let q = subst (λ (r : Option Rest). IfSome r (λ rest. IsQuestion c.args.bytes.now)) c.in-Some.is c.begin-front.ensures.asks in
      no_health _ q.head q.question _ q.has q.is _;
  failed =
      let f = c.begin-front.ensures.replies.failed in record {
        head = f.head;
        has = f.has;
        failure = λ failed ok. absurd (available_where_left (g.L.Ledgers.means.tenants c.begin-front.new.ledgers)
            c.begin-front.result c.in-Some.rest c.in-Some.is (f.failure failed ok));
      };
  finds =
      let t = g.L.Ledgers.means in
      finds_on_behind t c.args.ledgers.now c.begin-front.new.ledgers c.finish_statement.new.ledgers c.args.bytes.now c.args.moment
      (reply_of (t.tenants c.begin-front.new.ledgers) c.begin-front.result) c.finish_statement.result c.begin-front.ensures.replies.finds
      (g.met.L.Ledgers.lived c.args.ledgers.now c.begin-front.new.ledgers c.begin-front.ensures.replies.follows)
      (λ live. (subst (λ (r : Option Rest). IfSome r (λ rest. t.is_live c.begin-front.new.ledgers →
      IsLeftSame c.args.bytes.now c.args.moment (t.tenants c.args.ledgers.now) (t.tenants c.begin-front.new.ledgers) rest)) c.in-Some.is c.begin-front.ensures.left live).0)
      c.finish_statement.ensures.finds;
  follows = g.met.L.Ledgers.then _ _ _ c.begin-front.ensures.replies.follows c.finish_statement.ensures.reads.follows;
}

pub returns-in-None : goal.returns-in-None
returns-in-None g c =
    subst (λ (r : Option Rest). RespondsOver g.L.Ledgers.means c.args.bytes.now c.args.moment c.args.ledgers.now c.begin-front.new.ledgers
    (reply_with (g.L.Ledgers.means.tenants c.begin-front.new.ledgers) c.begin-front.result.front r))
    c.in-None.is c.begin-front.ensures.replies
