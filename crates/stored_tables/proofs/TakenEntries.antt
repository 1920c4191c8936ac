-- What was taken of an account's entries are those within the span.
use Rattle.std.proofs.Common.{◌≡◌, ◌≢◌, ◌⊎◌, ℕ, zero, suc, Bool, true, false, cond, List, [], ◌∷◌, ◌++◌, map, filter, take, refl, sym, ap, subst, ◌∙◌, inl, inr, append_assoc}
use Rattle.std.specs.List.{AllByRecursion}
use Rattle.std.proofs.lemmas.Bool.{cases_Bool}
use Rattle.std.proofs.lemmas.List.{append-nil}
use Rattle.records.specs.declared.query.Span.{Span}
use Rattle.records.specs.declared.unavailable.Unavailable.{Unavailable}
use Rattle.records.specs.Queries.{is_within}
use Rattle.records.specs.Reads.{Entry}
use Rattle.records.specs.Streams.{TakesRows}
use Rattle.chain.specs.declared.account_entry.AccountEntry.{AccountEntry}
use Rattle.chain.specs.AccountEntries.{account_entry}
use Rattle.sqlite_trees.specs.Tree.{IsAscending}
use Rattle.ledger_sql.specs.declared.entry_cells.EntryCells.{EntryCells}
use Rattle.stored_tables.specs.declared.entries_within.EntriesWithin.{EntriesWithin}
use Rattle.stored_tables.specs.declared.entries_within.Progress.{Progress}
use Rattle.stored_tables.specs.declared.entries_within.Progress.TheVariants.{Open, Over, Failed}
use Rattle.stored_tables.specs.Handing.{AreFirst, AreAll}
use Rattle.stored_tables.specs.Taken.{TakesEntry, TakesNext, AddsEntry, is_closed}
use Rattle.stored_tables.proofs.BoundTimes.{all_taken}

module _ (span : Span) where
  abbrev pub here : Entry → Bool
  here e = is_within span e.transfer.timestamp

  -- behind one that is not within the span there is none
  abbrev pub Stops : Entry → Entry → Type 0
  Stops d e = here d ≡ false → here e ≡ false

  pub none_behind : (e : Entry) (es : List Entry) → here e ≡ false → AllByRecursion (Stops e) es → filter here es ≡ []
  none_behind e [] late stops = refl
  none_behind e (x ∷ es) late stops = rw (stops.0 late) (none_behind e es late stops.1)

  -- so the first of them, cut at the end of the span, are the first of those within it
  pub cut_taken : (n : ℕ) (es : List Entry) → IsAscending Stops es → filter here (take n es) ≡ take n (filter here es)
  cut_taken zero es up = refl
  cut_taken (suc n) [] up = refl
  cut_taken (suc n) (x ∷ es) up = elim (cases_Bool (here x)) [
    | inl is ↦ rw is (ap (λ ys. x ∷ ys) (cut_taken n es up.1))
    | inr late ↦ rw late (none_behind x (take n es) late (all_taken (Stops x) n es up.0) ∙ sym (ap (take (suc n)) (none_behind x es late up.0)))
  ]

  module _ (account : ℕ) where
    abbrev pub those : List Entry → List AccountEntry
    those es = map (account_entry account) (filter here es)

    joined : (taken : List AccountEntry) (e : Entry) (es : List Entry) → cond (here e) (taken ++ account_entry account e ∷ []) taken ++ those es ≡ taken ++ those (e ∷ es)
    joined taken e es = elim (here e) as (λ b. cond b (taken ++ account_entry account e ∷ []) taken ++ those es ≡ taken ++ map (account_entry account) (cond b (e ∷ filter here es) (filter here es))) [ true ↦ append_assoc taken (account_entry account e ∷ []) (those es) | false ↦ refl ]

    -- what is taken, once some of the entries were handed out
    abbrev pub IsGrown : List AccountEntry → List Entry → List EntryCells → List AccountEntry → Progress → Type 0
    IsGrown taken es handed items Open = AreAll account es handed → items ≡ taken ++ those es
    IsGrown taken es handed items Over = items ≡ taken ++ those es
    IsGrown taken es handed items (Failed why) = Unit {0}

    -- the last entry that is handed out
    closes :
        (taken : List AccountEntry) (e : Entry) (es : List Entry) (items : List AccountEntry) →
        AllByRecursion (Stops e) es → AddsEntry span taken (account_entry account e) items false →
        items ≡ taken ++ those (e ∷ es)
    closes taken e es items stops adds =
        let late : here e ≡ false = sym adds.more_is in
        let none : filter here (e ∷ es) ≡ [] = rw late (none_behind e es late stops) in
        adds.entries
        ∙ ap (λ b. cond b (taken ++ account_entry account e ∷ []) taken) late
        ∙ sym (append-nil taken)
        ∙ ap (λ found. taken ++ map (account_entry account) found) (sym none)

    pub grown :
        (es : List Entry) (handed : List EntryCells) (taken : List AccountEntry)
        (old new : EntriesWithin) → old.span ≡ span → old.entries.items ≡ taken → old.progress ≡ Open →
        IsAscending Stops es → AreFirst account es handed → TakesRows TakesEntry old handed new →
        IsGrown taken es handed new.entries.items new.progress
    grown [] [] taken old new same_span is is_open stops are took =
        subst (λ (k : EntriesWithin). IsGrown taken [] [] k.entries.items k.progress) took
        (subst (IsGrown taken [] [] old.entries.items) (sym is_open) (λ all. is ∙ sym (append-nil taken)))
    grown (e ∷ es) [] taken old new same_span is is_open stops are took =
        subst (λ (k : EntriesWithin). IsGrown taken (e ∷ es) [] k.entries.items k.progress) took
        (subst (IsGrown taken (e ∷ es) [] old.entries.items) (sym is_open) (λ all. absurd all))
    grown [] (c ∷ handed) taken old new same_span is is_open stops are took = absurd are
    grown (e ∷ es) (c ∷ handed) taken old new same_span is is_open stops are (mid, took, rest) =
        behind mid.progress refl
        (subst (λ (s : Span). TakesNext s taken (account_entry account e) mid mid.progress) same_span
        (subst (λ xs. TakesNext old.span xs (account_entry account e) mid mid.progress) is (took.next account e are.0)))
        (λ is_p. grown es handed mid.entries.items mid new (took.span_is ∙ same_span) refl is_p stops.1 are.1 rest)
      where
        over : (handed : List EntryCells) → mid.progress ≢ Open → TakesRows TakesEntry mid handed new → mid ≡ new
        over [] closed rest = rest
        over (c ∷ handed) closed rest = absurd (closed rest.1.is_open)

        widened : (p : Progress) → mid.entries.items ≡ cond (here e) (taken ++ account_entry account e ∷ []) taken → IsGrown mid.entries.items es handed new.entries.items p → IsGrown taken (e ∷ es) (c ∷ handed) new.entries.items p
        widened Open entries_are more = λ all. more all.1 ∙ ap (λ xs. xs ++ those es) entries_are ∙ joined taken e es
        widened Over entries_are more = more ∙ ap (λ xs. xs ++ those es) entries_are ∙ joined taken e es
        widened (Failed why) entries_are more = tt

        behind : (p : Progress) → mid.progress ≡ p → TakesNext span taken (account_entry account e) mid p
            → (mid.progress ≡ Open → IsGrown mid.entries.items es handed new.entries.items new.progress)
            → IsGrown taken (e ∷ es) (c ∷ handed) new.entries.items new.progress
        behind Open is_p adds more = widened new.progress adds.entries (more is_p)
        behind Over is_p adds more =
            subst (λ (k : EntriesWithin). IsGrown taken (e ∷ es) (c ∷ handed) k.entries.items k.progress)
            (over handed (λ was. let clash : Over ≡ Open = sym is_p ∙ was in cc) rest)
            (subst (IsGrown taken (e ∷ es) (c ∷ handed) mid.entries.items) (sym is_p) (closes taken e es mid.entries.items stops.0 adds))
        behind (Failed why) is_p adds more =
            subst (λ (k : EntriesWithin). IsGrown taken (e ∷ es) (c ∷ handed) k.entries.items k.progress)
            (over handed (λ was. let clash : Failed why ≡ Open = sym is_p ∙ was in cc) rest)
            (subst (IsGrown taken (e ∷ es) (c ∷ handed) mid.entries.items) (sym is_p) tt)

    -- where it has not failed, and wants no more or was handed all
    pub finished :
        (es : List Entry) (handed : List EntryCells) (items : List AccountEntry) (p : Progress) →
        IsGrown [] es handed items p → (is_closed p ≡ true) ⊎ AreAll account es handed →
        ((why : Unavailable) → p ≢ Failed why) → items ≡ those es
    finished es handed items Open is (inl closed) went = absurd (cc)
    finished es handed items Open is (inr all) went = is all
    finished es handed items Over is ended went = is
    finished es handed items (Failed why) is ended went = absurd (went why refl)
