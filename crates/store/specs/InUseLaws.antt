-- What is so of the ledgers of a backend is so of them in use, where it may be called.
use Rattle.chain.specs.Backends.{BackendMeaning, in_use}
use Rattle.chain.specs.Ledgers.{Tenants}
use Rattle.service.specs.Courses.{Event}
use Rattle.service.specs.Openings.{run_meaning, Moves, FoundAfter, As_now, As_before, As_done}

module _ {S : Type 0} (t : BackendMeaning S) (old new : S) (before : t.is_usable old)
    (after : t.is_usable new) (event : Event) where
  found_in_use : (found : Tenants) → FoundAfter (run_meaning t.ledgers) old event new found
      → FoundAfter (run_meaning (in_use t)) old event new found
  found_in_use found (As_now live keeps) = As_now (live, after) keeps
  found_in_use found (As_before still may) = As_before still may
  found_in_use found (As_done deed more is live done) = As_done deed more is (live, before) done

  -- what an event makes of them
  pub moves_in_use :
      Moves (run_meaning t.ledgers) old event new → Moves (run_meaning (in_use t)) old event new
  moves_in_use moves = record {
    happens = λ live. moves.happens live.0;
    lived = λ live. (moves.lived live.0, before);
    found = λ found may. found_in_use found (moves.found found may);
  }
