use Rattle.std.proofs.Common.{◌∙◌, [], arith, ℕ, List, ap, ap₂, subst, subst₂, sym}
use Rattle.sqlite_wal.specs.Files.{outcomes, seen_image}
use Rattle.sqlite_wal.specs.Log.{image, state}
use Rattle.sqlite_wal.specs.PageSize.{bytes_of}
use Rattle.sqlite_wal.specs.Reads.{AreClean}
use Rattle.sqlite_wal.specs.Recovery.{Image, Recovers}
use Rattle.sqlite_wal.proofs.StateLemmas.{open_from}
use Rattle.copies.proofs.WholeLemmas.{has_named_size, leaves_found, without_log}
use Rattle.copies.proofs.whole.write_back.Goals as goal

pub returns : goal.returns
returns g c honest size has pages is =
    let disk = g.D.Disk in
    let old = seen_image disk c.args.files.log c.args.files.db in
    let found = c.recover.new.self in
    let done = c.finish.new.self in
    let back = c.into_files.ensures in
    let first = c.in_ok-log.ensures in
    let read = c.in_ok-size.ensures in
    let stays = g.met.D.Disk.seen_may_stay in
    let kept = c.in_ok-finish.ensures.same c.in_ok-finish.ensures.«open» in
    let clean = subst (λ p. AreClean disk p.0 p.1) back honest in
    let is_open = open_from (state done) c.in_ok-finish.ensures.«open» clean in
    let was = kept.keeps.stays.clean clean in
    let begun = subst (λ p. AreClean disk p.0 p.1) first.files (c.in_ok-recover.ensures.honest was) in
    let sized =
    first.size
    ∙ has_named_size old (bytes_of c.in-Some.size) size
    (λ logged. (rw c.in-Some.is at (read.by_log begun logged)).1)
    (λ ignored. (rw c.in-Some.is at (read.by_file begun ignored)).1) has in
    let held =
    ap (λ p. seen_image disk p.0 p.1) first.files
    ∙ ap₂ (λ (log db : List ℕ). record { log = log; db = db }) read.log.seen read.db.seen in
    let whole =
    subst₂ (λ (n : ℕ) (im : Image). Recovers n im (state found).committed) sized held
    (c.in_ok-recover.ensures.found was) in
    let leaves =
    leaves_found found done size old pages stays is_open kept
    (c.in_ok-recover.ensures.size ∙ sized) whole is in
    record {
      alone =
          subst (λ p. Recovers size (record { log = []; db = disk.seen p.1 }) pages) (sym back)
          (without_log size (image done) pages (omega (arith, c.in_ok-finish.ensures.short))
          (leaves (image done) (clean, (stays _, stays _))));
      left = λ left may.
          leaves left (clean, subst (λ p. outcomes disk p.0 p.1 left) back may);
    }
