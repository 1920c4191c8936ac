use Rattle.std.proofs.Common.{◌∙◌, ap, rules}
use Rattle.wire.specs.Told.{outcome_text}
use Rattle.wire.specs.declared.outcome.Outcome.TheVariants as told
use Rattle.service.specs.Begun.{IsLeftOf}
use Rattle.service.proofs.BegunLemmas.{where_left}
use Rattle.service.proofs.StatementLemmas.{left_of, statement_begun}
use Rattle.service.proofs.statements.begin_statement.Goals as goal

pub returns-in-Ok-reply_to : goal.returns-in-Ok-reply_to
returns-in-Ok-reply_to g c moment =
    let old = g.L.Ledgers.means.tenants c.args.ledgers.now in
    let new = g.L.Ledgers.means.tenants c.part.new.ledgers in
    record {
      serves = λ live.
          let lived = g.met.L.Ledgers.lived c.args.ledgers.now c.part.new.ledgers c.in-Ok.ensures.reads.follows live in
          statement_begun old new c.args.digest.now c.header_line.result.now c.args.account moment
          c.whole-rest.result c.in-Ok.part c.in-Ok-reply_to.front
          (g.met.L.Ledgers.valid c.args.ledgers.now lived) (c.in-Ok.ensures.reads.same live) c.whole-rest.ensures
          c.header_line.ensures (c.in-Ok.ensures.told live)
          (c.in-Ok-reply_to.ensures ∙ ap (λ chunks. outcome_text (told.Statement chunks)) (c.into.ensures ∙ c.into_vec.ensures));
      failed = search rules;
      finds = search rules;
      left =
          where_left c.in-Ok.part.rest (λ r. g.L.Ledgers.means.is_live c.part.new.ledgers → IsLeftOf old new r)
          (λ r is live.
          left_of old new c.whole-rest.result c.header_line.result.now c.in-Ok.part (c.in-Ok.ensures.reads.same live)
          (c.in-Ok.ensures.told live) r is);
      follows = c.in-Ok.ensures.reads.follows;
    }
