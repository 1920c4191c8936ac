-- A database whose log has no frame left.
use Rattle.std.proofs.Common.{◌≡◌, ◌≢◌, ◌∙◌, ℕ, ◌<◌, [], refl, sym, subst}
use Rattle.std.proofs.Common.{arith, inl, inr, length, IsTrue}
use Rattle.std.proofs.lemmas.Bool.{cases_lt}
use Rattle.sqlite_disk.specs.declared.Disk.{Ghosts}
use Rattle.sqlite_wal.specs.Format.{be32}
use Rattle.sqlite_wal.specs.PageSize.{size_in_file}
use Rattle.sqlite_wal.specs.Recovery.{Image, IsIgnored, Pages, Recovers}
use Rattle.sqlite_wal.specs.Log.{state, StaysOpen}
use Rattle.sqlite_wal.specs.declared.log.Log.{Log}
use Rattle.sqlite_wal.proofs.LogLemmas.{SeenMayStay, settled}
use Rattle.sqlite_wal.proofs.RecoveryLemmas.{recovers_once, replays_once, same_pages}
use Rattle.copies.specs.Whole.{HasSize}

-- beside a log that is too short for a frame, the file alone stands for the same
pub without_log :
    (size : ℕ) (both : Image) (pages : Pages) → length both.log < 56 → Recovers size both pages
    → Recovers size (record { log = []; db = both.db }) pages
without_log size both pages short is =
    let none = replays_once size both.log is.frames 0 is.replays (inl (inl short, refl)) in
    record {
      frames = 0;
      replays = inl (inl (omega arith), refl);
      present = is.present;
      gives =
          same_pages size both.log both.db [] both.db 0 0 refl (λ n from to. refl)
          ∙ (subst
          (λ (k : ℕ). Rattle.sqlite_wal.specs.Recovery.pages_after size both.log both.db k ≡ pages)
          none is.gives);
    }

-- a log that was found to stand for these pages, and is open yet, leaves them and nothing else
pub leaves_found :
    {D : Type 0} {g : Ghosts D} (found done : Log D g) (size : ℕ) (old : Image) (pages : Pages)
    → SeenMayStay g → IsTrue (state done).is_open → StaysOpen found done
    → (state found).page_size ≡ size → Recovers size old (state found).committed
    → Recovers size old pages → (left : Image) → (state done).may_leave left
    → Recovers size left pages
leaves_found found done size old pages stays is_open kept sized whole is left may =
    let committed = kept.keeps.committed is_open ∙ recovers_once size old _ _ whole is in
    let now = kept.keeps.stays.size ∙ sized in
    subst (λ (p : Pages). Recovers size left p) committed
    (subst (λ (n : ℕ). Recovers n left (state done).committed) now
    ((settled done is_open stays).durable left may))

-- the size that was found is the one that the files name
pub has_named_size :
    (old : Image) (n size : ℕ) → (¬ IsIgnored old.log → n ≡ be32 old.log 8)
    → (IsIgnored old.log → n ≡ size_in_file old.db) → HasSize old size → n ≡ size
has_named_size old n size by_log by_file has =
    let must = λ (other : n ≢ size).
    let logged = λ (ignored : IsIgnored old.log).
    other (by_file ignored ∙ sym (has.by_file ignored)) in
    other (by_log logged ∙ sym (has.by_log logged)) in
    elim (cases_lt n size) [
      | inl low ↦ absurd (must (λ same. omega (arith, same, low)))
      | inr least ↦
          elim (cases_lt size n) [
            | inl high ↦ absurd (must (λ same. omega (arith, same, high)))
            | inr most ↦ omega (arith, least, most)
          ]
    ]
