use Rattle.std.proofs.Common.{◌∷◌, ◌++◌, [], ap, ◌∙◌, arith}
use Rattle.records.specs.declared.balances.Balances.{Balances}
use Rattle.records.specs.Reads.{Entry, is_entry_of}
use Rattle.chain.specs.declared.account_entry.AccountEntry.{AccountEntry}
use Rattle.chain.specs.AccountEntries.{account_entry}
use Rattle.plain.proofs.EntryRows.{one_row_more}
use Rattle.plain.proofs.entries.account_rows.Goals as goal

pub loop-place-preserved : goal.loop-place-preserved
loop-place-preserved c =
    let entry = c.index-entries-place.result in
    let rows = c.loop-place.rows.items in
    let with_balances : Balances → AccountEntry =
    λ balances. record { transfer = entry; balances = balances } in
    one_row_more (account_entry c.args.account)
    (λ (e : Entry). is_entry_of c.args.account e.transfer)
    c.loop-place.place c.args.entries.now entry rows c.push.new.self.items _
    c.loop-place-test.true c.index-entries-place.is
    (grind (arith, c.if-not-is_entry_of.false, c.is_entry_of.ensures))
    (c.in_ok-push.ensures.items
    ∙ ap (λ (b : Balances). rows ++ with_balances b ∷ [])
    (c.balances_after.ensures entry c.index-entries-place.is))
    c.loop-place.invariant
