use Rattle.std.proofs.Common.{ℕ, Bool, cond, List, ap₂, refl, subst, sym, IsTrue, ◌&&◌}
use Rattle.sqlite_disk.specs.Events.{Event, replay}
use Rattle.sqlite_wal.specs.Recovery.{Image}
use Rattle.openings.proofs.opening.files_at.Goals as goal

abbrev image : List ℕ → List ℕ → Image
image log db = record { log = log; db = db }

abbrev seen : List ℕ → List ℕ → Bool → List Event → List ℕ
seen log db is_log history = (replay (cond is_log log db) history).seen

abbrev honest : List ℕ → List ℕ → Bool → List Event → Bool
honest log db is_log history = (replay (cond is_log log db) history).is_honest

pub returns-in-Ok-clause-held : goal.returns-in-Ok-clause-held
returns-in-Ok-clause-held g c =
    let fresh = c.in-Ok.ensures.fresh in
    let log = g.St.Start.log in
    let db = g.St.Start.db in
    record {
      holds = ap₂ image (ap₂ (seen log db) fresh.0.0 fresh.0.1) (ap₂ (seen log db) fresh.1.0 fresh.1.1);
      honest = subst IsTrue (sym (ap₂ ◌&&◌ (ap₂ (honest log db) fresh.0.0 fresh.0.1)
          (ap₂ (honest log db) fresh.1.0 fresh.1.1))) refl;
    }
