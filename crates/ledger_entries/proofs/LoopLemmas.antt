-- What the loops over the rows of a piece and over pieces keep.
use Rattle.std.proofs.Common.{◌≡◌, ◌⊎◌, ℕ, suc, ◌+◌, ◌<◌, ◌≤◌, ℤ, Bool, true, false, List, [], ◌∷◌, ◌++◌, length, map, filter, take, drop, get_or, Ok, Err, Result, IfOk, OnOk, OnErr, refl, sym, ap, subst, ◌∙◌, arith, add-one, inl, inr, true≢false, IsSorted}
use Rattle.std.specs.Prelude.{IsErr}
use Rattle.std.specs.List.{flat_map}
use Rattle.std.proofs.lemmas.List.{append-nil, length-append, map-append, take_all}
use Rattle.records.specs.Streams.{TakesRows}
use Rattle.records.specs.declared.unavailable.Unavailable.{Unavailable}
use Rattle.sqlite_value.specs.Order.{Row}
use Rattle.sqlite_trees.specs.declared.store.Direction.{Direction}
use Rattle.sqlite.specs.State.{State, HasCleanDisk, IsUnchanged}
use Rattle.keyed_trees.specs.Rows.{is_in_range, walk_cmp}
use Rattle.ledger_sql.specs.declared.entry_cells.EntryCells.{EntryCells}
use Rattle.ledger_sql.specs.Entries.{entries_when, entry_values, HandsUpTo, ReadsUpTo}
use Rattle.ledger_sql.specs.Frames.{Follows}
use Rattle.ledger_sql.specs.Schema.{history_tree}
use Rattle.ledger_layout.specs.Keys.{by_entry}
use Rattle.ledger_layout.proofs.FrameLemmas.{clean_before, follows_then}
use Rattle.ledger_entries.specs.declared.history.Unread.{Unread}
use Rattle.ledger_entries.specs.Handing.{AreJoined, HandsJoined, IsStill, joined}
use Rattle.ledger_entries.specs.Pieces.{IsUnreadOf, ReadsPiece, left_in}
use Rattle.ledger_entries.specs.Walks.{AreInOrder, in_time}
use Rattle.ledger_entries.proofs.HandLemmas.{hands_on_failed, hands_on_stopped, one_more, split_at, takes_then}
use Rattle.ledger_entries.proofs.JoinLemmas.{joined_then}
use Rattle.ledger_entries.proofs.StateLemmas.{follows_itself, still, still_itself, still_then, unchanged_since, unchanged_still}
use Rattle.ledger_entries.proofs.WalkLemmas.{AreFirst, Stands, first_where, first_within, reads_first, reads_up_to, stands_first, stands_next}

pub always_err : {A E : Type 0} (P : Type 0) (r : Result A E) → P → OnErr r P
always_err P (Ok a) h = tt
always_err P (Err e) h = h

pub never_ok : {A E : Type 0} (P : Type 0) (r : Result A E) → IsErr r → OnOk r P
never_ok P (Ok a) failed = absurd (true≢false (sym failed))
never_ok P (Err e) failed = tt

err_so : {A E : Type 0} (P : Type 0) (r : Result A E) → IsErr r → OnErr r P → P
err_so P (Ok a) failed h = absurd (true≢false (sym failed))
err_so P (Err e) failed h = h

module _ {K : Type 0} (takes : K → EntryCells → K → Type 0) (is_full : K → Bool) where
  -- what is so where one thing holds is so where more does
  pub handed_if : {E : Type 0} (P Q : Type 0) (count : ℕ) (entries : List Row) (InOrder : List Row → Type 0) (old new : K) (r : Result (Unit {0}) E) → (P → Q) → HandsUpTo takes is_full Q count entries InOrder old new r → HandsUpTo takes is_full P count entries InOrder old new r
  handed_if P Q count entries InOrder old new r more it = record {
    handed = it.handed;
    taken = it.taken;
    within = λ p. it.within (more p);
    first = λ p. it.first (more p);
    ended = λ p. it.ended (more p);
    wants = it.wants;
  }

  -- the same entries, by another word for them
  abbrev rejoined : {E : Type 0} (IsHonest : Type 0) (one other : Row → List Row) (rows : List Row) (had left : ℕ) (old new : K) (r : Result Bool E) → (IsHonest → one ≡ other) → HandsJoined takes is_full IsHonest one rows had left old new r → HandsJoined takes is_full IsHonest other rows had left old new r
  rejoined IsHonest one other rows had left old new r same it = record {
    handed = it.handed;
    taken = it.taken;
    few = it.few;
    first = λ honest. subst (λ (join : Row → List Row). (rest : List Row) × AreJoined join rows (map entry_values it.handed ++ rest)) (same honest) (it.first honest);
    goes = λ honest. subst (λ (join : Row → List Row). IfOk r (λ more. more ≡ true → AreJoined join rows (map entry_values it.handed))) (same honest) (it.goes honest);
    wants = it.wants;
    stops = it.stops;
    failed = it.failed;
  }

  -- the entries of the first rows of a piece have been handed out
  pub record IsHandingRows (first now : State) (join : Row → List Row) (done : List Row) (had left : ℕ) (old new : K) : Type 0 where
    pub handed : List EntryCells
    pub taken : TakesRows takes old handed new
    pub few : length handed + left ≡ had
    pub wants : is_full new ≡ false
    pub follows : Follows first now
    pub still : HasCleanDisk now → IsStill first now
    pub joins : HasCleanDisk now → AreJoined join done (map entry_values handed)

  pub no_rows : (first : State) (join : Row → List Row) (had : ℕ) (old : K) → is_full old ≡ false → IsHandingRows first first join [] had had old old
  no_rows first join had old wants = record {
    handed = [];
    taken = refl;
    few = omega arith;
    wants = wants;
    follows = follows_itself first;
    still = λ _. still_itself first;
    joins = λ _. refl;
  }

  module _ (first mid new : State) (tenant own : ℤ) (same_tenant : own ≡ tenant) {A : Type 0} (f : A → Row) (xs : List A) (i : ℕ) (d : A) (lt : i < length xs) (had left after : ℕ) (old half now : K)
      (it : IsHandingRows first mid (joined tenant first.now.trees) (take i (map f xs)) had left old half) (follows : Follows mid new) where
    abbrev row : Row
    row = f (get_or xs i d)

    abbrev the_join : Row → List Row
    the_join = joined tenant first.now.trees

    abbrev own_join : Row → List Row
    own_join = joined own mid.now.trees

    before : HasCleanDisk new → HasCleanDisk mid
    before = clean_before mid new follows

    same_join : HasCleanDisk new → own_join ≡ the_join
    same_join clean = let db = (it.still (before clean)).0 in (λ j. joined (same_tenant j) (db j).trees)

    abbrev HandsRow : {E : Type 0} → Result Bool E → Type 0
    HandsRow r = HandsJoined takes is_full (HasCleanDisk new) own_join (row ∷ []) left after half now r

    abbrev HandsAll : {E : Type 0} → Result Bool E → Type 0
    HandsAll r = HandsJoined takes is_full (HasCleanDisk new) the_join (map f xs) had after old now r

    pub rows_failed : {E F : Type 0} (r : Result Bool F) → HandsRow r → (s : Result Bool E) → IsErr s → IsErr r → HandsAll s
    rows_failed r some s failed was =
        hands_on_failed takes is_full (HasCleanDisk new) the_join (map f xs) (take i (map f xs)) row (drop (suc i) (map f xs)) (split_at f xs i d lt) had left after old half now it.handed it.taken it.few (λ clean. it.joins (before clean))
        r (rejoined (HasCleanDisk new) own_join the_join (row ∷ []) left after half now r same_join some) s failed was

    pub rows_stopped : {E F : Type 0} (more : Bool) → HandsRow {E = F} (Ok more) → more ≡ false → HandsAll {E = E} (Ok false)
    rows_stopped more some stop =
        hands_on_stopped takes is_full (HasCleanDisk new) the_join (map f xs) (take i (map f xs)) row (drop (suc i) (map f xs)) (split_at f xs i d lt) had left after old half now it.handed it.taken it.few (λ clean. it.joins (before clean))
        more (rejoined (HasCleanDisk new) own_join the_join (row ∷ []) left after half now _ same_join some) stop

    pub rows_next : {F : Type 0} (more : Bool) → HandsRow {E = F} (Ok more) → more ≡ true → (HasCleanDisk new → IsStill mid new) → IsHandingRows first new the_join (take (i + 1) (map f xs)) had after old now
    rows_next more some goes stays =
        let one = rejoined (HasCleanDisk new) own_join the_join (row ∷ []) left after half now _ same_join some in
        record {
          handed = it.handed ++ one.handed;
          taken = takes_then takes old half now it.handed one.handed it.taken one.taken;
          few = omega (arith, it.few, one.few, length-append it.handed one.handed);
          wants = one.wants goes;
          follows = follows_then first mid new it.follows follows;
          still = λ clean. still_then first mid new it.follows it.still (before clean) (stays clean);
          joins = λ clean.
              subst (λ es. AreJoined the_join (take (i + 1) (map f xs)) es) (sym (map-append entry_values it.handed one.handed))
              (subst (λ rows. AreJoined the_join rows (map entry_values it.handed ++ map entry_values one.handed)) (sym (ap (λ n. take n (map f xs)) (add-one i) ∙ one_more f xs i d lt))
              (joined_then the_join (take i (map f xs)) (row ∷ []) (map entry_values it.handed) (map entry_values one.handed) (it.joins (before clean)) (one.goes clean goes)));
        }

  pub rows_over : {E : Type 0} (first now : State) (join : Row → List Row) (rows : List Row) (i had left : ℕ) (old new : K) → IsHandingRows first now join (take i rows) had left old new → length rows ≤ i → HandsJoined {E = E} takes is_full (HasCleanDisk now) join rows had left old new (Ok true)
  rows_over first now join rows i had left old new it whole =
      let all = λ (clean : HasCleanDisk now). subst (λ xs. AreJoined join xs (map entry_values it.handed)) (take_all i rows whole) (it.joins clean) in
      record {
        handed = it.handed;
        taken = it.taken;
        few = it.few;
        first = λ clean. ([], subst (AreJoined join rows) (sym (append-nil (map entry_values it.handed))) (all clean));
        goes = λ clean _. all clean;
        wants = λ _. it.wants;
        stops = λ e. absurd (true≢false e);
        failed = tt;
      }

  module _ (first : State) (tenant : ℤ) (account : List ℕ) (time : ℤ) (d : Direction) (count : ℕ) (old : K) where
    abbrev history : List Row
    history = first.now.trees history_tree

    abbrev HandsFirst : State → K → Result (Unit {0}) Unavailable → Type 0
    HandsFirst now new r = HandsUpTo takes is_full (HasCleanDisk now) count (entries_when tenant account (in_time d time) first.now.trees) (AreInOrder d) old new r

    -- pieces of the account's history have been read, and the entries of their rows handed out
    pub record IsWalking (now : State) (unread : Unread) (left : ℕ) (new : K) : Type 0 where
      pub handed : List EntryCells
      pub taken : TakesRows takes old handed new
      pub few : length handed + left ≡ count
      pub wants : is_full new ≡ false
      pub follows : Follows first now
      pub still : HasCleanDisk now → IsStill first now
      pub stands : HasCleanDisk now → Stands tenant account time d first.now.trees (left_in unread history) handed

    pub sets_out : (unread : Unread) → IsUnreadOf tenant account time d unread → is_full old ≡ false → IsWalking first unread count old
    sets_out unread it wants = record {
      handed = [];
      taken = refl;
      few = omega arith;
      wants = wants;
      follows = follows_itself first;
      still = λ _. still_itself first;
      stands = λ _. stands_first tenant account time d first.now.trees (left_in unread history) (λ j. filter (is_in_range by_entry (it.way j) (it.start j) (it.stop j)) history);
    }

    -- nothing was handed out
    pub no_entries : (now : State) (r : Result (Unit {0}) Unavailable) → IsErr r → is_full old ≡ false → HandsFirst now old r
    no_entries now r failed wants = record {
      handed = [];
      taken = refl;
      within = λ _. omega arith;
      first = λ _. inl refl;
      ended = λ _. never_ok _ r failed;
      wants = always_err _ r wants;
    }

    module _ (mid : State) (unread : Unread) (left : ℕ) (half : K) (it : IsWalking mid unread left half) where
      -- a piece could not be read
      pub walk_failed : (now : State) → Follows mid now → (r : Result (Unit {0}) Unavailable) → IsErr r → HandsFirst now half r
      walk_failed now follows r failed = record {
        handed = it.handed;
        taken = it.taken;
        within = λ _. omega (arith, it.few);
        first = λ clean.
            let where_ = first_where tenant account time d first.now.trees (left_in unread history) it.handed (it.stands (clean_before mid now follows clean)) in
            inr (reads_first tenant account time d first.now.trees it.handed where_.0 where_.1);
        ended = λ _. never_ok _ r failed;
        wants = always_err _ r it.wants;
      }

      -- a piece was read, and entries of it handed out
      module _ (way : unread.direction ≡ d) (read : State) (next : Unread) (rows : List Row) (is_last : Bool) (piece : HasCleanDisk read → ReadsPiece unread next (mid.now.trees history_tree) rows is_last) (follows : Follows mid read)
          (same : HasCleanDisk read → IsUnchanged mid read) (now : State) (then : Follows read now) (own : ℤ) (same_tenant : own ≡ tenant) (after : ℕ) (new : K) where
        abbrev the_join_now : Row → List Row
        the_join_now = joined tenant first.now.trees

        abbrev HandsPiece : {E : Type 0} → Result Bool E → Type 0
        HandsPiece r = HandsJoined takes is_full (HasCleanDisk now) (joined own read.now.trees) rows left after half new r

        read_clean : HasCleanDisk now → HasCleanDisk read
        read_clean = clean_before read now then

        mid_clean : HasCleanDisk now → HasCleanDisk mid
        mid_clean clean = clean_before mid read follows (read_clean clean)

        joins_same : HasCleanDisk now → joined own read.now.trees ≡ the_join_now
        joins_same clean =
            let db = (same (read_clean clean)).0.now_is ∙ (it.still (mid_clean clean)).0 in
            (λ j. joined (same_tenant j) (db j).trees)

        pub unchanged_read : HasCleanDisk read → IsUnchanged first read
        unchanged_read clean = unchanged_since first mid read it.follows it.still (clean_before mid read follows clean) (same clean)

        the_piece : HasCleanDisk now → ReadsPiece unread next history rows is_last
        the_piece clean = subst (λ db. ReadsPiece unread next (db.trees history_tree) rows is_last) (it.still (mid_clean clean)).0 (piece (read_clean clean))

        module _ (r : Result Bool Unavailable) (some : HandsPiece r) where
          abbrev told : List EntryCells
          told = it.handed ++ some.handed

          told_taken : TakesRows takes old told new
          told_taken = takes_then takes old half new it.handed some.handed it.taken some.taken

          told_few : length told + after ≡ count
          told_few = omega (arith, it.few, some.few, length-append it.handed some.handed)

          abbrev all_some : HandsJoined takes is_full (HasCleanDisk now) the_join_now rows left after half new r
          all_some = rejoined (HasCleanDisk now) (joined own read.now.trees) the_join_now rows left after half new r joins_same some

          told_with : (clean : HasCleanDisk now) (tail : List Row) → AreJoined the_join_now rows (map entry_values some.handed ++ tail) → AreFirst tenant account time d first.now.trees told (tail ++ flat_map the_join_now (the_piece clean).rest)
          told_with clean tail joins =
              let a = the_piece clean in
              first_within tenant account time d first.now.trees (left_in unread history) it.handed (it.stands (mid_clean clean)) rows a.rest a.all (subst (λ way. IsSorted (walk_cmp by_entry way) (rows ++ a.rest)) way a.order) some.handed tail joins

          told_first : HasCleanDisk now → (tail : List Row) × AreFirst tenant account time d first.now.trees told tail
          told_first clean = let one = all_some.first clean in (one.0 ++ flat_map the_join_now (the_piece clean).rest, told_with clean one.0 one.1)

          pub piece_failed : (s : Result (Unit {0}) Unavailable) → IsErr s → IsErr r → HandsFirst now new s
          piece_failed s failed was = record {
            handed = told;
            taken = told_taken;
            within = λ _. omega (arith, told_few);
            first = λ clean. let one = told_first clean in inr (reads_first tenant account time d first.now.trees told one.0 one.1);
            ended = λ _. never_ok _ s failed;
            wants = always_err _ s (err_so _ r was some.failed);
          }

        module _ (more : Bool) (some : HandsPiece {E = Unavailable} (Ok more)) where
          pub piece_stopped : more ≡ false → HandsFirst now new (Ok tt)
          piece_stopped stop = record {
            handed = told (Ok more) some;
            taken = told_taken (Ok more) some;
            within = λ _. omega (arith, told_few (Ok more) some);
            first = λ clean. let one = told_first (Ok more) some clean in inr (reads_first tenant account time d first.now.trees (told (Ok more) some) one.0 one.1);
            ended = λ clean. ends clean (some.stops stop);
            wants = tt;
          }
            where
              ends : HasCleanDisk now → (is_full new ≡ true) ⊎ (after ≡ 0) → (is_full new ≡ true) ⊎ ReadsUpTo entry_values count (entries_when tenant account (in_time d time) first.now.trees) (AreInOrder d) (told (Ok more) some)
              ends clean (inl full) = inl full
              ends clean (inr none) =
                  let one = told_first (Ok more) some clean in
                  inr (reads_up_to tenant account time d first.now.trees count (told (Ok more) some) one.0 one.1 (omega (arith, told_few (Ok more) some)) (inl (omega (arith, none, told_few (Ok more) some))))

          pub piece_last : more ≡ true → is_last ≡ true → HandsFirst now new (Ok tt)
          piece_last goes last = record {
            handed = told (Ok more) some;
            taken = told_taken (Ok more) some;
            within = λ _. omega (arith, told_few (Ok more) some);
            first = λ clean. let one = told_first (Ok more) some clean in inr (reads_first tenant account time d first.now.trees (told (Ok more) some) one.0 one.1);
            ended = λ clean.
                let joins = subst (AreJoined the_join_now rows) (sym (append-nil (map entry_values some.handed))) ((all_some (Ok more) some).goes clean goes) in
                inr (reads_up_to tenant account time d first.now.trees count (told (Ok more) some) _ (told_with (Ok more) some clean [] joins) (omega (arith, told_few (Ok more) some)) (inr (ap (flat_map the_join_now) ((the_piece clean).over last))));
            wants = tt;
          }

          pub piece_next : more ≡ true → is_last ≡ false → (HasCleanDisk now → IsStill read now) → IsWalking now next after new
          piece_next goes last still_after = record {
            handed = told (Ok more) some;
            taken = told_taken (Ok more) some;
            few = told_few (Ok more) some;
            wants = some.wants goes;
            follows = follows_then first mid now it.follows (follows_then mid read now follows then);
            still = λ clean. still first now (unchanged_still first read now (unchanged_read (read_clean clean)) (still_after clean));
            stands = λ clean.
                let a = the_piece clean in
                stands_next tenant account time d first.now.trees (left_in unread history) it.handed (it.stands (mid_clean clean)) rows a.rest a.all (subst (λ way. IsSorted (walk_cmp by_entry way) (rows ++ a.rest)) way a.order)
                (left_in next history) some.handed (a.left last) ((all_some (Ok more) some).goes clean goes);
          }
