use Rattle.std.proofs.Common.{arith, ap, ◌∙◌, subst, to_z-of_z, SFits, w64, rules}
use Rattle.sqlite_rules.specs.Edit.{id_in}
use Rattle.sqlite_trees.specs.View.{View, IsClean, Finds, IsShaped}
use Rattle.keyed_trees.specs.Layout.{key_of}
use Rattle.keyed_trees.proofs.EntryLemmas.{no_row, row_found}
use Rattle.keyed_trees.proofs.finding.try_find.Goals as goal

pub returns-then-not-branch-clause-found : goal.returns-then-not-branch-clause-found
returns-then-not-branch-clause-found g c clean =
    let old = g.S.Store.view c.args.store.now in
    let i = c.args.index.now in
    let served = c.requires (omega (arith, c.find_entry.ensures.reads.quiet.clean)) in
    no_row (key_of i) c.args.key.now (old.trees i.table) (old.trees i.tree) (served.whole (c.in_ok-find_entry.ensures.reads.sound clean))
    (rw c.if-not-branch.true at (c.in_ok-find_entry.ensures.found clean))

pub returns-then-branch-clause-found : goal.returns-then-branch-clause-found
returns-then-branch-clause-found g c clean =
    let old = g.S.Store.view c.args.store.now in
    let i = c.args.index.now in
    let served = c.requires (omega (arith, c.find_entry.ensures.reads.quiet.clean, c.get-2.ensures.quiet.clean)) in
    let mid : IsClean (g.S.Store.view c.find_entry.new.store) = omega (arith, c.get-2.ensures.quiet.clean) in
    let entry = rw c.if-not-branch.false at (c.in_ok-find_entry.ensures.found mid) in
    let shaped = subst (λ s. IsShaped s (old.trees i.table)) served.table (g.met.S.Store.ordered c.args.store.now (c.in_ok-find_entry.ensures.reads.sound mid) i.table) in
    let fits : SFits w64 c.id_in-id.result = search rules in
    row_found (key_of i) c.args.key.now (old.trees i.table) (old.trees i.tree) (served.whole (c.in_ok-find_entry.ensures.reads.sound mid)) shaped.1
    c.find_entry.new.entry c.id_in-id.result entry.0 entry.1 (c.id_in-id.ensures ∙ ap id_in c.get.ensures) c.get-2.new.row c.in_ok-get.field-0
    (subst (λ (v : View). Finds (v.trees i.table) c.id_in-id.result c.get-2.new.row c.in_ok-get.field-0) (c.in_ok-find_entry.ensures.reads.same mid) (simp to_z-of_z at (c.in_ok-get.ensures.ok clean)))
