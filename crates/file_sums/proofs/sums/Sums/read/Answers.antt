use Rattle.std.proofs.Common.{List, ℕ, sym, subst}
use Rattle.file_sums.specs.Bytes.{StandsFirst}
use Rattle.file_sums.proofs.Further.{further, behind}
use Rattle.file_sums.proofs.sums.Sums.read.Goals as goal

pub loop-found-preserved : goal.loop-found-preserved
loop-found-preserved c =
    let stands = subst (λ (l : List ℕ). StandsFirst c.loop-found.sums.seal l c.in-Some.found)
    (behind c.args.bytes.now c.loop-found.len) c.in-Some.ensures in
    further c.args.bytes.now c.loop-found.sums c.loop-found.len c.in-Some.found c.note.new.self
    c.loop-found.invariant stands c.note.ensures

pub returns : goal.returns
returns c = record {
  whole = c.loop-found.invariant;
  ends = λ found stands. c.in_default.ensures found
      (subst (λ (l : List ℕ). StandsFirst c.loop-found.sums.seal l found)
      (sym (behind c.args.bytes.now c.loop-found.len)) stands);
}
