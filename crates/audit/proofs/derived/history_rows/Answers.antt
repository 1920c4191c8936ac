use Rattle.std.proofs.Common.{◌≡◌, ◌<◌, ◌^◌, List, drop, length, ap, ◌∙◌, sym, subst, arith}
use Rattle.std.specs.List.{All}
use Rattle.std.specs.List.Sorted.{IsPermutation}
use Rattle.std.proofs.lemmas.List.Elements.{All-weaker}
use Rattle.std.proofs.lemmas.List.Sorted.{All-permutation}
use Rattle.rows.specs.declared.history_row.HistoryRow.{HistoryRow}
use Rattle.rows.specs.Prescribed.{rows_for, history_rows}
use Rattle.rows.specs.Tables.{history_key}
use Rattle.rows.specs.Widths.{IsStorableHistory}
use Rattle.audit.specs.Order.{in_order}
use Rattle.audit.proofs.DerivedRows.{whole, has_derived, lacks_derived, own_keys, ordered}
use Rattle.audit.proofs.derived.history_rows.Goals.{After-deref_mut}
use Rattle.audit.proofs.derived.history_rows.Goals as goal

pub returns-then-version-lt2-clause-all : goal.returns-then-version-lt2-clause-all
returns-then-version-lt2-clause-all c m valid same =
    c.new.ensures.items ∙ ap (in_order history_key) (sym (lacks_derived c.args.version m c.if-version-lt2.true).history)

-- what is sorted is the history, whose rows fit
fits : (c : After-deref_mut) → All IsStorableHistory c.deref_mut.result.now
fits c =
    let m = c.requires.0 in
    let rows : c.deref_mut.result.now ≡ history_rows m = c.deref_mut.ensures.value ∙ c.requires.2 in
    subst (All IsStorableHistory) ((has_derived c.args.version m c.if-version-lt2.false).history ∙ sym rows) (c.known_laws.ensures.fit c.args.version m c.requires.1).history

pub sort-requires : goal.sort-requires
sort-requires c =
    All-weaker IsStorableHistory (λ (row : HistoryRow). row.timestamp < 2 ^ 64) (λ row fit. let short = fit.timestamp in omega (arith, short)) c.deref_mut.result.now (fits (goal.at.sort-requires c).After-deref_mut)

pub returns-clause-fit : goal.returns-clause-fit
returns-clause-fit c =
    let ys = c.sort.new.rows in
    let had = c.args.told in
    let all = whole c.deref_mut.result.now ys (drop (length ys) had.items) had.len c.sort.ensures.same c.deref_mut.ensures.len in
    subst (All IsStorableHistory) (sym all) (All-permutation IsStorableHistory c.deref_mut.result.now ys c.sort.ensures.same (fits (goal.at.returns-clause-fit c).After-deref_mut))

pub returns-clause-all : goal.returns-clause-all
unfolding rows_for
returns-clause-all c m valid same =
    let ys = c.sort.new.rows in
    let had = c.args.told in
    whole c.deref_mut.result.now ys (drop (length ys) had.items) had.len c.sort.ensures.same c.deref_mut.ensures.len
    ∙ ordered c.known_laws.ensures.history history_key (history_rows m) ys (own_keys c.known_laws.ensures.keys m valid).history
    (subst (λ (xs : List HistoryRow). IsPermutation xs ys) (c.deref_mut.ensures.value ∙ same) c.sort.ensures.same) c.sort.ensures.sorted
    ∙ ap (in_order history_key) (sym (has_derived c.args.version m c.if-version-lt2.false).history)
