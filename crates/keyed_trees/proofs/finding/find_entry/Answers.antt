use Rattle.std.proofs.Common.{arith, ◌≡◌, sym, ap, ◌∙◌, subst, [], ◌∷◌, is_eq}
use Rattle.sqlite_trees.specs.Tree.{order_of, from_key}
use Rattle.sqlite_trees.specs.View.{IsClean}
use Rattle.sqlite_trees.proofs.TreeLemmas.{IsSortedTree, sorted_shape}
use Rattle.sqlite_exec.specs.Loops.{left_of}
use Rattle.sqlite_exec.proofs.CheckLemmas.{placed, stepped, ended}
use Rattle.keyed_trees.proofs.EntryLemmas.{none_from, entry_tells}
use Rattle.keyed_trees.proofs.finding.find_entry.Goals as goal

pub returns-then-not-branch-clause-found : goal.returns-then-not-branch-clause-found
returns-then-not-branch-clause-found g c clean =
    let old = g.S.Store.view c.args.store.now in
    let i = c.args.index.now in
    let entries = old.trees i.tree in
    let first : IsClean old = omega (arith, c.seek.ensures.quiet.clean, c.next.ensures.quiet.clean) in
    let order : order_of (old.shape i.tree) ≡ i.order = ap order_of ((c.requires first).shaped) in
    let sought : left_of (g.S.Store.view c.seek.new.self) 0 ≡ from_key (order_of (old.shape i.tree)) c.args.key.now entries = rw (c.in_ok-seek.ensures.ok (omega (arith, c.next.ensures.quiet.clean))) (placed old 0 _) in
    let none = sym sought ∙ ended _ _ 0 c.next.new.row (rw c.if-not-branch.true at (c.in_ok-next.ensures.ok clean)) in
    none_from i.order c.args.key.now entries (subst (λ o. from_key o c.args.key.now entries ≡ []) order none)

pub returns-clause-found : goal.returns-clause-found
returns-clause-found g c clean =
    let old = g.S.Store.view c.args.store.now in
    let i = c.args.index.now in
    let entries = old.trees i.tree in
    let first : IsClean old = omega (arith, c.seek.ensures.quiet.clean, c.next.ensures.quiet.clean) in
    let order : order_of (old.shape i.tree) ≡ i.order = ap order_of ((c.requires first).shaped) in
    let sought : left_of (g.S.Store.view c.seek.new.self) 0 ≡ from_key (order_of (old.shape i.tree)) c.args.key.now entries = rw (c.in_ok-seek.ensures.ok (omega (arith, c.next.ensures.quiet.clean))) (placed old 0 _) in
    let left = left_of (g.S.Store.view c.next.new.self) 0 in
    let head : from_key (order_of (old.shape i.tree)) c.args.key.now entries ≡ c.next.new.row ∷ left = sym sought ∙ stepped _ _ 0 c.next.new.row (rw c.if-not-branch.false at (c.in_ok-next.ensures.ok clean)) in
    let sorted : IsSortedTree i.order entries = subst (λ o. IsSortedTree o entries) order (sorted_shape _ entries (g.met.S.Store.ordered c.args.store.now (c.in_ok-seek.ensures.sound (omega (arith, c.next.ensures.quiet.clean))) i.tree)) in
    entry_tells i.order c.args.key.now entries c.next.new.row left sorted (subst (λ o. from_key o c.args.key.now entries ≡ c.next.new.row ∷ left) order head) _ (c.is_eq.ensures ∙ ap is_eq c.cmp_prefix.ensures)
