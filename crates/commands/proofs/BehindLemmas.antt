-- What a tenant itself might have asked, behind a call that only reads.
use Rattle.std.proofs.Common.{◌≡◌, inl, inr, ℕ, List, [], Option, Result, refl, sym, ◌∙◌, subst}
use Rattle.sqlite_disk.specs.declared.Disk as disk
use Rattle.records.specs.Machine.{Machine}
use Rattle.records.specs.declared.unavailable.Unavailable.{Unavailable}
use Rattle.chain.specs.Backends.{in_use}
use Rattle.chain.specs.Ledgers.{Tenants, KeepsAll}
use Rattle.wire.specs.declared.outcome.Outcome.{Outcome}
use Rattle.wire.specs.declared.request.Request.{Request}
use Rattle.service.specs.Courses.{Ending, Done, Declined, Unavailable as WasUnavailable}
use Rattle.service.specs.Courses.{Happens, Tried}
use Rattle.service.specs.Deeds.{Asked, Deed, AreDone, IsDeedDone}
use Rattle.service.specs.Openings.{run_meaning, FoundAfter, As_now, As_before, As_done, Moves}
use Rattle.service.specs.Served.{served_to}
use Rattle.store.specs.StoreLaws.{store_meaning}
use Rattle.store.specs.Stores.{FindsTenants, IsUsable, ReadsStore, tenants_of}
use Rattle.store.specs.declared.store.Store.{Store}

module _ {D : Type 0} {g : disk.Ghosts D} where
  module _ {T : Type 0} (digest : List ℕ) (meaning : Result Request Outcome) (moment : ℕ)
      (old mid new : Store D g) (told : Result T Unavailable) (usable : IsUsable old)
      (reads : ReadsStore old mid told)
    where
      done_before :
          (found : Tenants) → KeepsAll (tenants_of old) (tenants_of mid) →
          IsDeedDone (Asked digest meaning moment) (tenants_of mid) found →
          IsDeedDone (Asked digest meaning moment) (tenants_of old) found
      done_before found keeps done = record {
        may = tt;
        own =
            subst
            (λ (tenant : Option Machine). found digest ≡ (served_to tenant meaning moment).left)
            (keeps digest) done.own;
        others = λ other apart. done.others other apart ∙ keeps other;
      }

      happens_before :
          (ending : Ending) → KeepsAll (tenants_of old) (tenants_of mid) →
          Happens (tenants_of mid) (Tried (Asked digest meaning moment) ending) (tenants_of new) →
          Happens (tenants_of old) (Tried (Asked digest meaning moment) ending) (tenants_of new)
      happens_before Done keeps done = done_before (tenants_of new) keeps done
      happens_before Declined keeps same = λ other. same other ∙ keeps other
      happens_before WasUnavailable keeps same = λ other. same other ∙ keeps other

      found_read : (found : Tenants) → FindsTenants mid found → FindsTenants old found
      found_read found f =
          elim (reads.finds f.honest f.db f.may) [
            | inl before ↦ record {
              honest = reads.answers.follows.honest f.honest;
              db = f.db;
              may = before;
              agrees = f.agrees;
            }
            | inr none ↦ absurd none
          ]

      found_before :
          (ending : Ending) (found : Tenants) →
          FoundAfter (run_meaning (in_use store_meaning)) mid (Tried (Asked digest meaning moment) ending) new
          found →
          FoundAfter (run_meaning (in_use store_meaning)) old (Tried (Asked digest meaning moment) ending) new
          found
      found_before ending found (As_now live keeps) = As_now live keeps
      found_before ending found (As_before still before) =
          As_before still (found_read found before)
      found_before Done found (As_done deed more untold live done) =
          absurd (let e = untold in cc)
      found_before Declined found (As_done deed more untold live done) =
          absurd (let e = untold in cc)
      found_before WasUnavailable found (As_done deed more untold live done) =
          let all =
          subst (λ (deeds : List Deed). AreDone deeds (tenants_of mid) found) (sym untold) done in
          As_done (Asked digest meaning moment) [] refl
          (reads.answers.follows.lived live.0, usable)
          (all.0, done_before all.0 (reads.same live.0) all.1, all.2)

      pub both_move :
          (ending : Ending) →
          Moves (run_meaning (in_use store_meaning)) mid (Tried (Asked digest meaning moment) ending) new →
          Moves (run_meaning (in_use store_meaning)) old (Tried (Asked digest meaning moment) ending) new
      both_move ending moves = record {
        happens = λ live.
            happens_before ending (reads.same (moves.lived live).0) (moves.happens live);
        lived = λ live. (reads.answers.follows.lived (moves.lived live).0, usable);
        found = λ found may. found_before ending found (moves.found found may);
      }
