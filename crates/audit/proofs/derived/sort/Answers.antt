use Rattle.std.proofs.Common.{rules, ◌<◌, ◌^◌, ◌+◌, ℕ, get_or, arith}
use Rattle.std.proofs.lemmas.List.Sorted.{answers_always, All-permutation}
use Rattle.rows.specs.declared.history_row.HistoryRow.{HistoryRow}
use Rattle.audit.proofs.DerivedRows.{key_not_less}
use Rattle.audit.proofs.derived.sort.Goals as goal

pub returns-clause-sorted : goal.returns-clause-sorted
returns-clause-sorted c k d low within =
    let pair : HistoryRow → ℕ × ℕ = λ row. (row.account, row.timestamp) in
    let rows = c.sort_unstable_by_key.new.self in
    let short = All-permutation (λ (row : HistoryRow). row.timestamp < 2 ^ 64) c.args.rows.now rows c.sort_unstable_by_key.ensures.permutation c.requires in
    let sorted = c.sort_unstable_by_key.ensures.sorted pair (answers_always _ _ _ (λ f a r f' q. search rules)) in
    let x = get_or rows (k + 1) d in
    let y = get_or rows k d in
    key_not_less x.account y.account x.timestamp y.timestamp (short (k + 1) d within) (short k d (omega (arith, within))) (sorted k d low within)
