use Rattle.std.proofs.Common.{◌≡◌, inl, inr}
use Rattle.std.proofs.lemmas.Result.{err_from_is_err_and, IfErr-weaker, IfOk-weaker}
use Rattle.sqlite.specs.Effect.{Database}
use Rattle.sqlite.specs.Files.{file_state, image_of}
use Rattle.ledger_sql.specs.Schema.{no_schema}
use Rattle.openings.specs.Told.{HindersMaking}
use Rattle.openings.proofs.EmptyLemmas.{new_rests}
use Rattle.openings.proofs.FilledLemmas.{filled_leaves, filled_stays}
use Rattle.openings.proofs.ThereLemmas.{finds_now}
use Rattle.openings.proofs.creating.create_ledger.Goals as goal

pub returns-clause-made : goal.returns-clause-made
returns-clause-made g c =
    let at = c.in_ok-conn.ensures.opened in
    IfOk-weaker c.fill_new.result _ _ (λ new filled. record {
      made = λ clean. (filled clean).0;
      serves = λ sets clean.
          let made = (filled clean).0 in (made.rests.is_open, new_rests sets (file_state new) made);
      blank = λ clean.
          let blank = (filled clean).1 in
          finds_now (image_of g.D.Disk c.args.files) (file_state c.in_ok-conn.conn) (at.opened blank.0)
          (λ (db : Database). db.schema ≡ no_schema) blank.1;
      honest = λ clean. at.honest (filled clean).1.0;
    }) c.fill_new.ensures.filled

-- the database's own opening tells no fault of a ledger
pub returns-in_err-conn-clause-refused : goal.returns-in_err-conn-clause-refused
returns-in_err-conn-clause-refused g c =
    let p = err_from_is_err_and c.from_residual.result c.from_residual.ensures.1 in
    let unopened = c.in_err-conn.ensures.refused in
    rw (p.1, p.2) (record {
      told = λ clean. inl (unopened.told clean);
      left = inl (inl unopened.left);
      stay = λ is. absurd (unopened.fault is);
    })

pub returns-clause-refused : goal.returns-clause-refused
returns-clause-refused g c =
    let s = file_state c.in_ok-conn.conn in
    let at = c.in_ok-conn.ensures.opened in
    IfErr-weaker c.fill_new.result _ _ (λ e refused. record {
      told = λ clean.
          inr (finds_now (image_of g.D.Disk c.args.files) s (at.opened (refused.honest clean))
          (λ (db : Database). HindersMaking e.0 db.schema) refused.told);
      left = filled_leaves g.D.Disk c.args.files e.1 s e.0 at.opened at.honest refused.honest refused.left;
      stay = filled_stays g.D.Disk c.args.files e.1 s e.0 at.opened at.honest refused.honest refused.left;
    }) c.fill_new.ensures.refused

pub fill_new-requires : goal.fill_new-requires
fill_new-requires g c clean = (c.in_ok-conn.ensures.opened.opened clean).opens
