use Rattle.std.proofs.Common.{sym, ◌∙◌, ap, subst}
use Rattle.records.specs.Machine.{Machine}
use Rattle.chain.specs.Tables.{State}
use Rattle.plain.proofs.BatchLemmas.{given_back, answered, stay_valid}
use Rattle.plain.proofs.book.Book.batch.Goals as goal

pub returns-in-Ok-clause-run : goal.returns-in-Ok-clause-run
returns-in-Ok-clause-run g c =
    let changes = rw c.in-Some.is at (c.tables.follows.holds c.run.new.tables) in
    let found = sym c.tables.ensures.value ∙ (rw c.in-Some.is) in
    let gives = g.W.Work.gives c.args.work in
    let given =
    subst (λ (m : Machine). gives m c.in-Ok.output c.run.new.tables.now)
    (ap (λ (s : State). s.now) c.begin.ensures.state) (c.in-Ok.ensures.gives tt) in
    answered gives c.args.digest.now c.args.self.now (c.tables.follows.lender c.run.new.tables)
    c.in-Some.tables.now c.run.new.tables _ found changes given

pub returns-in-Err-clause-run : goal.returns-in-Err-clause-run
returns-in-Err-clause-run g c =
    let changes = rw c.in-Some.is at (c.tables.follows.holds c.abandon.new.self) in
    let found = sym c.tables.ensures.value ∙ (rw c.in-Some.is) in
    given_back c.args.digest.now c.args.self.now (c.tables.follows.lender c.abandon.new.self)
    c.in-Some.tables.now c.begin.new.self c.run.new.tables c.abandon.new.self found
    c.begin.ensures.state c.run.ensures.over.follows c.abandon.ensures.state changes

pub returns-in-Ok-clause-usable : goal.returns-in-Ok-clause-usable
returns-in-Ok-clause-usable g c valid =
    let changes = rw c.in-Some.is at (c.tables.follows.holds c.run.new.tables) in
    stay_valid c.args.digest.now c.args.self.now _ c.run.new.tables valid changes
    c.in-Ok.ensures.over.usable

pub returns-in-Err-clause-usable : goal.returns-in-Err-clause-usable
returns-in-Err-clause-usable g c valid =
    let changes = rw c.in-Some.is at (c.tables.follows.holds c.abandon.new.self) in
    stay_valid c.args.digest.now c.args.self.now _ c.abandon.new.self valid changes
    c.abandon.ensures.usable
