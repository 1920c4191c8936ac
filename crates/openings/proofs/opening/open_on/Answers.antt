use Rattle.std.proofs.Common.{sym, subst, rules}
use Rattle.sqlite.specs.Effect.{Database}
use Rattle.sqlite.specs.Files.{AreFoundIn, file_state, image_of}
use Rattle.openings.proofs.OrderedTables.{found_ordered}
use Rattle.openings.proofs.RefusedLemmas.{unopened_for}
use Rattle.openings.proofs.opening.open_on.Goals as goal

pub returns-in-Ok-clause-opened : goal.returns-in-Ok-clause-opened
returns-in-Ok-clause-opened g c = record {
  opened = λ clean.
      let opened = c.in-Ok.ensures.opened clean in
      let found = c.in-Ok.ensures.found clean in
      let now = (file_state c.in-Ok.conn).now in
      record {
        opens = opened.0;
        live = opened.1;
        ordered = found_ordered (image_of g.D.Disk c.args.files) now.trees now.schema
            (subst (λ (db : Database). AreFoundIn (image_of g.D.Disk c.args.files) db.trees) (sym opened.0.clean) found.reads)
            (opened.1 opened.0.is_open).0.lists.listed;
        found = record { holds = found.holds; reads = found.reads };
        unlimited = c.in-Ok.ensures.fresh.unlimited;
        settled = c.is_settled.ensures;
      };
  honest = search rules;
}

pub returns-in-Err-clause-refused : goal.returns-in-Err-clause-refused
returns-in-Err-clause-refused g c = record {
  fault = c.open_fault.ensures.ledger;
  told = λ clean.
      unopened_for g.D.Disk c.args.files c.into_files.result c.in-Err.left (sym c.into_files.ensures) c.in-Err.error
      c.open_fault.result c.open_fault.ensures.means clean c.in-Err.ensures.cause;
  left = (c.in-Err.left, sym c.into_files.ensures, c.in-Err.ensures.unharmed);
}
