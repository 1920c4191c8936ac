use Rattle.std.proofs.Common.{◌≡◌, true, Result, Ok, Err, OnErr, refl, sym, ap, ◌∙◌, rules}
use Rattle.sqlite.specs.Effect.{Database}
use Rattle.stored_ledgers.specs.Directory.{tenants_in}
use Rattle.stored_ledgers.specs.Resting.{IsSame}
use Rattle.stored_ledgers.specs.Rounds.{IsAfterRound}
use Rattle.openings.specs.OpenTables.{open_state}
use Rattle.store.specs.Stores.{tenants_at}
use Rattle.store.proofs.ReadLemmas.{finds_open, serves_open}
use Rattle.store.proofs.store.Store.in_round.Goals as goal

on_err : {T E P Q : Type 0} (result : Result T E) → (P → Q) → OnErr result P → OnErr result Q
on_err (Ok value) weaker holds = tt
on_err (Err why) weaker holds = weaker holds

pub returns-clause-same : goal.returns-clause-same
returns-clause-same g c live =
    on_err c.in_round-ran.result
    (λ (same : IsSame (open_state c.in-Open.tables) (open_state c.in_round-ran.new.tables)) digest.
    ap (λ (db : Database). tenants_in db.trees digest) same.now
    ∙ sym (ap (λ place. tenants_at place digest) c.in-Open.is))
    (c.in_round-ran.ensures.same live)

pub returns-clause-finds : goal.returns-clause-finds
returns-clause-finds g c =
    finds_open g.D.Disk (IsAfterRound (g.W.RoundWork.gives c.args.work)) c.args.self.now.place c.in-Open.tables
    c.in_round-ran.new.tables c.in-Open.is
    c.in_round-ran.ensures.survives

pub returns-clause-answers : goal.returns-clause-answers
returns-clause-answers g c =
    let answers : c.args.self.now.ready ≡ true = search rules in
    serves_open g.D.Disk c.in_round-ran.result c.is_disk_fault.result c.args.self.now _ c.in-Open.tables
    c.in_round-ran.new.tables c.in-Open.is refl answers refl c.is_disk_fault.ensures c.requires
    c.in_round-ran.ensures.serves c.in_round-ran.ensures.survives
