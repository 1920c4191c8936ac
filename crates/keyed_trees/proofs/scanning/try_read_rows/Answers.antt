use Rattle.std.proofs.Common.{All, sym, subst, rules, arith}
use Rattle.std.proofs.lemmas.List.Elements.{All-push}
use Rattle.std.proofs.lemmas.Result.{err_from_is_err_and}
use Rattle.sqlite_trees.specs.View.{IsClean}
use Rattle.sqlite_rules.proofs.ViewLemmas.{still_quiet, reads_again}
use Rattle.keyed_trees.proofs.ReadLemmas as lemma
use Rattle.keyed_trees.proofs.scanning.try_read_rows.Goals as goal

pub returns-in_err-record-clause-reads : goal.returns-in_err-record-clause-reads
returns-in_err-record-clause-reads g c =
    let was = c.loop-at.invariant in
    let out = err_from_is_err_and c.from_residual-in_err-record.result c.from_residual-in_err-record.ensures.1 in
    rw (out.1, out.2) (lemma.failed_since g.S.Store c.args.store.now c.loop-at.store c.next_record.new.store c.in_err-record.field-0.0 was.reads was.schema was.quiet
    c.in_err-record.ensures.reads.err c.next_record.ensures.reads.schema c.next_record.ensures.reads.quiet)

pub loop-at-preserved : goal.loop-at-preserved
loop-at-preserved g c =
    let was = c.loop-at.invariant in
    let old = g.S.Store.view c.args.store.now in
    let mid = g.S.Store.view c.loop-at.store in
    let new = g.S.Store.view c.next_record.new.store in
    let before = λ (clean : IsClean new). let e : IsClean mid = omega (arith, c.next_record.ensures.reads.quiet.clean) in e in
    record {
      live = c.in_ok-record.ensures.live;
      reads = λ clean. reads_again old mid new (was.reads (before clean)) (c.in_ok-record.ensures.reads.same clean);
      sound = λ clean. was.sound (before clean);
      quiet = still_quiet was.quiet c.next_record.ensures.reads.quiet;
      schema = lemma.schema_still old mid new was.schema c.next_record.ensures.reads.schema;
      left = λ clean.
          lemma.one_more g.R.Record.cells c.loop-at.read.items c.push.new.self.items c.in-Some.record _ _ _ c.in_ok-push.ensures.items (rw c.in-Some.is at (c.in_ok-record.ensures.read clean)) (was.left (before clean));
      fits = subst (All (λ it. g.R.Record.is_storable it.1)) (sym c.in_ok-push.ensures.items)
          (All-push (λ it. g.R.Record.is_storable it.1) c.loop-at.read.items c.in-Some.record was.fits (rw c.in-Some.is at c.in_ok-record.ensures.fits));
    }

pub returns-in_default-clause-reads : goal.returns-in_default-clause-reads
returns-in_default-clause-reads g c =
    let was = c.loop-at.invariant in
    lemma.read_on g.S.Store c.args.store.now c.loop-at.store c.next_record.new.store _ was.reads was.sound was.schema was.quiet
    c.in_ok-record.ensures.reads.same c.next_record.ensures.reads.schema c.next_record.ensures.reads.quiet

pub returns-in_err-push-clause-reads : goal.returns-in_err-push-clause-reads
returns-in_err-push-clause-reads g c =
    let was = c.loop-at.invariant in
    lemma.read_on g.S.Store c.args.store.now c.loop-at.store c.next_record.new.store _ was.reads was.sound was.schema was.quiet
    c.in_ok-record.ensures.reads.same c.next_record.ensures.reads.schema c.next_record.ensures.reads.quiet

pub returns-clause-reads : goal.returns-clause-reads
returns-clause-reads g c =
    let was = c.loop-at.invariant in
    lemma.read_only g.S.Store c.args.store.now c.loop-at.store _ was.reads was.sound was.schema was.quiet

pub loop-at-init : goal.loop-at-init
loop-at-init g c =
    let old = g.S.Store.view c.args.store.now in
    let new = g.S.Store.view c.seek.new.self in
    record {
      live = c.in_ok-seek.ensures.live;
      reads = λ clean. lemma.placed_reads old new _ (c.in_ok-seek.ensures.ok clean);
      sound = c.in_ok-seek.ensures.sound;
      quiet = c.seek.ensures.quiet;
      schema = c.seek.ensures.schema;
      left = λ clean. let all = lemma.placed_before old new _ c.table.result g.R.Record.table c.clear.new.self c.clear.ensures c.table.ensures (c.in_ok-seek.ensures.ok clean) in rw c.new-read.ensures.items all;
      fits = search rules;
    }
