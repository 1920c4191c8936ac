-- What setting a mark, going back to it and dropping it do.
use Rattle.std.proofs.Common.{◌≡◌, ℕ, ◌+◌, ◌<◌, inl, inr, List, [], ◌∷◌, ◌++◌, length, map, take, codes, slice_get, get_or, length-append, not, true, false, IsTrue, Ok, None, Some, sym, ap, subst, ◌∙◌, arith}
use Rattle.std.proofs.lemmas.Bool.{both_ways}
use Rattle.std.proofs.lemmas.Bool.{cases_lt}
use Rattle.std.proofs.lemmas.List.{map-append, length-map}
use Rattle.std.proofs.lemmas.Option.{get_or_from_slice_get}
use Rattle.std.proofs.Math.Seq.{get_or-append_seam, take-append_seam, take-append-add}
use Rattle.sqlite_trees.specs.Tree.{Trees}
use Rattle.sqlite_trees.specs.Sound.{same_name}
use Rattle.sqlite_schema.specs.declared.command.Command.TheVariants.{Release}
use Rattle.sqlite.specs.Effect.{Database}
use Rattle.sqlite.specs.Listing.{understood}
use Rattle.sqlite.proofs.Callers.{statement_of}
use Rattle.sqlite.specs.State.{State, Savepoint, HasCleanDisk, Executes, MayCommit, IsNewestNamed, names_in, begins_at}
use Rattle.ledger_sql.specs.Stages.{the_mark, IsMarked, HasMarked, HasGoneBack, HasReleased}
use Rattle.ledger_sql.proofs.RunLemmas.{Stays, shown_stays}
use Rattle.ledger_sql.proofs.WriteLemmas.{WritesBy, writes_quietly}
use Rattle.ledger_sql.proofs.StageLemmas.{stages, may_commit, idle_quiet, ran}

newest : (front : List (List ℕ)) (at : ℕ) → IsNewestNamed (front ++ codes "mark" ∷ []) (codes "mark") at → at ≡ length front
unfolding same_name
newest front at h = elim (cases_lt at (length front)) [
  | inl below ↦ absurd (
      let within : length front < length (front ++ codes "mark" ∷ []) = omega (arith, length-append front (codes "mark" ∷ [])) in
      let named = h.last (length front) below within in
      let e : true ≡ false = subst (λ name. same_name name (codes "mark") ≡ false) (get_or-append_seam front (codes "mark") [] []) named in cc)
  | inr above ↦ omega (arith, h.within, above, length-append front (codes "mark" ∷ []))
]

module _ (s : State) (earlier : List Savepoint) (db : Database) (marks : s.marks ≡ earlier ++ the_mark db ∷ []) where
  newest_at : (at : ℕ) → IsNewestNamed (names_in s) (codes "mark") at → at ≡ length earlier
  newest_at at h =
      let names : names_in s ≡ map (λ (p : Savepoint). p.name) earlier ++ codes "mark" ∷ [] = ap (map (λ (p : Savepoint). p.name)) marks ∙ map-append (λ (p : Savepoint). p.name) earlier (the_mark db ∷ []) in
      newest (map (λ (p : Savepoint). p.name) earlier) at (subst (λ ns. IsNewestNamed ns (codes "mark") at) names h) ∙ length-map earlier (λ (p : Savepoint). p.name)

  newest_begins : begins_at s (length earlier) ≡ false
  newest_begins =
      let flags : map (λ (p : Savepoint). p.begins) s.marks ≡ map (λ (p : Savepoint). p.begins) earlier ++ false ∷ [] = ap (map (λ (p : Savepoint). p.begins)) marks ∙ map-append (λ (p : Savepoint). p.begins) earlier (the_mark db ∷ []) in
      ap (λ bs. get_or bs (length earlier) false) flags ∙ subst (λ n. get_or (map (λ (p : Savepoint). p.begins) earlier ++ false ∷ []) n false ≡ false) (length-map earlier (λ (p : Savepoint). p.begins))
      (get_or-append_seam (map (λ (p : Savepoint). p.begins) earlier) false [] false)

  newest_is : (it : Savepoint) → slice_get s.marks (length earlier) ≡ Some it → it ≡ the_mark db
  newest_is it h = sym (get_or_from_slice_get s.marks (length earlier) it it h) ∙ ap (λ ms. get_or ms (length earlier) it) marks ∙ get_or-append_seam earlier (the_mark db) [] it

  before_newest : take (length earlier) s.marks ≡ earlier
  before_newest = ap (take (length earlier)) marks ∙ take-append_seam earlier (the_mark db ∷ [])

  up_to_newest : take (length earlier + 1) s.marks ≡ s.marks
  up_to_newest = ap (take (length earlier + 1)) marks ∙ take-append-add earlier (the_mark db ∷ []) 1 ∙ sym marks

module _ (old new : State) where
  -- the contract of the function that marks
  pub marked : (HasCleanDisk old → IsTrue old.in_transaction) → WritesBy (codes "SAVEPOINT mark") [] HasMarked old new
  marked inside = writes_quietly (codes "SAVEPOINT mark") [] old new HasMarked (λ _. idle_quiet stages.marks old tt) (λ clean count h.
      let it = (ran stages.marks old new count h).0 in (
        record {
          is_open = it.0.is_open;
          now = it.0.now_is;
          committed = it.0.committed_is;
          mode = it.0.mode;
          marks = it.2 ∙ ap (λ b. old.marks ++ (record { name = codes "mark"; begins = b; db = old.now }) ∷ []) (ap not (inside clean));
        },
        shown_stays old new old.now it.0,
      ))

  goes_back : IsMarked old → (count : ℕ) → Executes (codes "ROLLBACK TO mark") [] old new (Ok count) → HasGoneBack old new × Stays old new
  goes_back was count h =
      let it = ran stages.goes_back old new count h in
      let back = it.2 in
      let at : (earlier : List Savepoint) (db : Database) → old.marks ≡ earlier ++ the_mark db ∷ [] → it.0 ≡ length earlier = λ earlier db marks. newest_at old earlier db marks it.0 it.1 in (
        record {
          is_open = back.2.is_open;
          back = λ earlier db marks. back.2.now_is ∙ ap (λ (p : Savepoint). p.db) (newest_is old earlier db marks back.0 (subst (λ n. slice_get old.marks n ≡ Some back.0) (at earlier db marks) back.1));
          committed = back.2.committed_is;
          mode = back.2.mode;
          marks = back.4 ∙ ap (λ n. take (n + 1) old.marks) (at was.0 was.1 was.2.marks) ∙ up_to_newest old was.0 was.1 was.2.marks;
        },
        shown_stays old new back.0.db back.2,
      )

  release_drops : IsMarked old → (count : ℕ) → Executes (codes "RELEASE mark") [] old new (Ok count) → HasReleased old new × Stays old new
  release_drops was count h =
      let it = ran stages.releases old new count h in
      let at : (earlier : List Savepoint) (db : Database) → old.marks ≡ earlier ++ the_mark db ∷ [] → it.0 ≡ length earlier = λ earlier db marks. newest_at old earlier db marks it.0 it.1 in
      let begins : begins_at old it.0 ≡ false = subst (λ n. begins_at old n ≡ false) (sym (at was.0 was.1 was.2.marks)) (newest_begins old was.0 was.1 was.2.marks) in
      elim it.2 [
        | inl commits ↦ absurd (both_ways _ begins commits.0)
        | inr drops ↦ (
          record {
            is_open = drops.1.0.is_open;
            now = drops.1.0.now_is;
            committed = drops.1.0.committed_is;
            mode = drops.1.0.mode;
            marks = λ earlier db marks. drops.1.2 ∙ ap (λ n. take n old.marks) (at earlier db marks) ∙ before_newest old earlier db marks;
          },
          shown_stays old new old.now drops.1.0,
        )
      ]

  release_may : IsMarked old → (text : List ℕ) (db : Trees) → ¬ MayCommit old None (Release (codes "mark")) text [] db
  release_may was text db (inl (inl is, _)) = absurd (cc)
  release_may was text db (inl (inr h, _)) =
      let same : h.0 ≡ codes "mark" = let e = h.2 in sym (cc) in
      let at : h.1 ≡ length was.0 = newest_at old was.0 was.1 was.2.marks h.1 (subst (λ name. IsNewestNamed (names_in old) name h.1) same h.3) in
      both_ways _ (subst (λ n. begins_at old n ≡ false) (sym at) (newest_begins old was.0 was.1 was.2.marks)) h.4
  release_may was text db (inr w) = absurd (let e = w.3 in cc)

  module _ (was : HasCleanDisk old → IsMarked old) where
    -- the contracts of the functions that go back to the mark, and that release it
    pub gone_back : WritesBy (codes "ROLLBACK TO mark") [] HasGoneBack old new
    gone_back = writes_quietly (codes "ROLLBACK TO mark") [] old new HasGoneBack (λ _. idle_quiet stages.goes_back old tt) (λ clean. goes_back (was clean))

    pub released : WritesBy (codes "RELEASE mark") [] HasReleased old new
    released = writes_quietly (codes "RELEASE mark") [] old new HasReleased (λ clean db h. release_may (was clean) (statement_of (codes "RELEASE mark") (understood old.now.schema (codes "RELEASE mark"))) db (may_commit stages.releases old db h)) (λ clean. release_drops (was clean))
