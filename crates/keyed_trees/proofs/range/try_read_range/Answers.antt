use Rattle.std.proofs.Common.{All, ap, sym, subst, ◌∙◌, arith, ◌+◌, length}
use Rattle.std.proofs.lemmas.List.{length_push}
use Rattle.std.proofs.lemmas.List.Elements.{All-push}
use Rattle.std.proofs.lemmas.Result.{err_from_is_err_and}
use Rattle.sqlite_trees.specs.View.{IsClean}
use Rattle.sqlite_rules.proofs.ViewLemmas.{still_quiet, reads_again}
use Rattle.keyed_trees.proofs.ReadLemmas as lemma
use Rattle.keyed_trees.proofs.range.try_read_range.Goals as goal

pub returns-in_err-record-clause-reads : goal.returns-in_err-record-clause-reads
returns-in_err-record-clause-reads g c =
    let was = c.loop-at.invariant in
    let out = err_from_is_err_and c.from_residual-in_err-record.result c.from_residual-in_err-record.ensures.1 in
    rw (out.1, out.2) (lemma.failed_since g.S.Store c.args.store.now c.loop-at.store c.next_record.new.store c.in_err-record.field-0.0 was.reads was.schema was.quiet
    c.in_err-record.ensures.reads.err c.next_record.ensures.reads.schema c.next_record.ensures.reads.quiet)

pub loop-at-preserved : goal.loop-at-preserved
loop-at-preserved g c =
    let was = c.loop-at.invariant in
    let old = g.S.Store.view c.args.store.now in
    let mid = g.S.Store.view c.loop-at.store in
    let new = g.S.Store.view c.next_record.new.store in
    let before = λ (clean : IsClean new). let e : IsClean mid = omega (arith, c.next_record.ensures.reads.quiet.clean) in e in
    record {
      live = c.in_ok-record.ensures.live;
      reads = λ clean. reads_again old mid new (was.reads (before clean)) (c.in_ok-record.ensures.reads.same clean);
      sound = λ clean. was.sound (before clean);
      quiet = still_quiet was.quiet c.next_record.ensures.reads.quiet;
      schema = lemma.schema_still old mid new was.schema c.next_record.ensures.reads.schema;
      left = λ clean.
          lemma.one_more g.R.Record.cells c.loop-at.read.items c.push.new.self.items c.in-Some.record _ _ _ c.in_ok-push.ensures.items (rw c.in-Some.is at (c.in_ok-record.ensures.read clean)) (was.left (before clean));
      fits = subst (All (λ it. g.R.Record.is_storable it.1)) (sym c.in_ok-push.ensures.items)
          (All-push (λ it. g.R.Record.is_storable it.1) c.loop-at.read.items c.in-Some.record was.fits (rw c.in-Some.is at c.in_ok-record.ensures.fits));
      count = ap length c.in_ok-push.ensures.items ∙ length_push c.loop-at.read.items _ ∙ ap (λ n. n + 1) was.count;
    }

pub returns-in_default-clause-reads : goal.returns-in_default-clause-reads
returns-in_default-clause-reads g c =
    let was = c.loop-at.invariant in
    lemma.read_on g.S.Store c.args.store.now c.loop-at.store c.next_record.new.store _ was.reads was.sound was.schema was.quiet
    c.in_ok-record.ensures.reads.same c.next_record.ensures.reads.schema c.next_record.ensures.reads.quiet

pub returns-in_err-push-clause-reads : goal.returns-in_err-push-clause-reads
returns-in_err-push-clause-reads g c =
    let was = c.loop-at.invariant in
    lemma.read_on g.S.Store c.args.store.now c.loop-at.store c.next_record.new.store _ was.reads was.sound was.schema was.quiet
    c.in_ok-record.ensures.reads.same c.next_record.ensures.reads.schema c.next_record.ensures.reads.quiet
