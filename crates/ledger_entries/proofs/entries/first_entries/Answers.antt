use Rattle.std.proofs.Common.{refl, inl, inr}
use Rattle.keyed_trees.specs.Kept.{state}
use Rattle.ledger_sql.specs.Schema.{ledger_schema}
use Rattle.ledger_layout.proofs.FrameLemmas.{clean_before, follows, follows_then}
use Rattle.ledger_entries.proofs.LoopLemmas.{handed_if}
use Rattle.ledger_entries.proofs.StateLemmas.{undone_after}
use Rattle.ledger_entries.proofs.entries.first_entries.Goals as goal

pub returns-in-Ok-clause-handed : goal.returns-in-Ok-clause-handed
returns-in-Ok-clause-handed g c = handed_if g.K.EntrySink.takes g.K.EntrySink.is_full _ _ _ _ _ _ _ _ (λ p. p.0) c.in-Ok.ensures.handed

pub returns-in-Ok-clause-reads : goal.returns-in-Ok-clause-reads
returns-in-Ok-clause-reads g c = record { same = c.in-Ok.ensures.same; kept = λ clean. inl (c.in-Ok.ensures.same clean); follows = c.in-Ok.ensures.follows }

pub returns-in-Err-clause-handed : goal.returns-in-Err-clause-handed
returns-in-Err-clause-handed g c =
    let mid = state ledger_schema g.S.Store c.hand_entries.new.tables in
    let new = state ledger_schema g.S.Store c.rollback.new.self in
    handed_if g.K.EntrySink.takes g.K.EntrySink.is_full _ _ _ _ _ _ _ _ (λ p. clean_before mid new (follows mid new c.rollback.ensures.undone.follows) p.0) c.in-Err.ensures.handed

pub returns-in-Err-clause-reads : goal.returns-in-Err-clause-reads
returns-in-Err-clause-reads g c =
    let old = state ledger_schema g.S.Store c.args.tables.now in
    let mid = state ledger_schema g.S.Store c.hand_entries.new.tables in
    let new = state ledger_schema g.S.Store c.rollback.new.self in
    let later = follows mid new c.rollback.ensures.undone.follows in
    record {
      same = λ _. tt;
      kept = λ clean. inr (undone_after old mid new c.in-Err.ensures.follows (clean_before mid new later) c.rollback.ensures.undone.undone refl refl clean);
      follows = follows_then old mid new c.in-Err.ensures.follows later;
    }
