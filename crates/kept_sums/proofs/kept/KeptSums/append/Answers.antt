use Rattle.std.proofs.Common.{List, ℕ, subst, rules}
use Rattle.file_sums.specs.declared.record.Record.{Record}
use Rattle.kept_sums.specs.Kept.{Keeps}
use Rattle.kept_sums.specs.Places.{WritesPart}
use Rattle.kept_sums.proofs.KeptLemmas.{stands, further}
use Rattle.kept_sums.proofs.kept.KeptSums.append.Goals as goal

pub returns-in_err-write_part-clause-err : goal.returns-in_err-write_part-clause-err
returns-in_err-write_part-clause-err g c =
    let kept : (records : List Record) → Keeps (g.F.Place.bytes c.args.self.now.place) c.args.self.now.sums c.args.self.now.len records
    → Keeps (g.F.Place.bytes c.write_part.new.self) c.args.self.now.sums c.args.self.now.len records =
    λ records keeps. stands _ _ _ _ records keeps c.write_part.ensures.before in
    search (rules, kept)

pub returns-clause-ok : goal.returns-clause-ok
returns-clause-ok g c records keeps =
    let written = subst (λ (l : List ℕ). WritesPart c.args.self.now.len l (g.F.Place.bytes c.args.self.now.place)
    (g.F.Place.bytes c.write_part.new.self)) c.deref.ensures.value c.in_ok-write_part.ensures.written in
    further _ _ c.args.self.now.sums c.args.self.now.len records keeps c.in_ok-part.part.items c.append.new.self c.in-Some.len
    c.args.entry (search rules) written (λ bytes knows. c.in_ok-part.ensures.ok records bytes knows)
