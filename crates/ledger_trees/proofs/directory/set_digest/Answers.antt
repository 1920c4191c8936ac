use Rattle.ledger_trees.proofs.FitLemmas.{tenant_fits}
use Rattle.std.proofs.Common.{refl, ◌∷◌, string_bytes, to_z-of_z, SFits, w64, rules}
use Rattle.sqlite_value.specs.declared.value.Value.TheVariants.{Int}
use Rattle.keyed_trees.specs.Kept.{state}
use Rattle.ledger_sql.specs.Schema.{ledger_schema, tenant_tree}
use Rattle.ledger_layout.specs.FileRows.{tenant_columns}
use Rattle.ledger_layout.specs.Keys.{ledger_keys}
use Rattle.ledger_layout.proofs.FrameLemmas.{clean_before, follows, follows_then}
use Rattle.ledger_trees.proofs.FileLemmas.{sets_digest, sets_no_digest}
use Rattle.ledger_trees.proofs.TwoCallLemmas.{put_after, stays_inside}
use Rattle.ledger_trees.proofs.directory.set_digest.Goals as goal

pub put-requires-clause-row : goal.put-requires-clause-row
put-requires-clause-row g c clean = tenant_fits c.law_ledger_rows_fit.ensures _ _ (search rules)

pub returns-in_default : goal.returns-in_default
returns-in_default g c =
    let old = state ledger_schema g.S.Store c.trees.inside.tables in
    let new = state ledger_schema g.S.Store c.find_at.new.self in
    let fits : SFits w64 c.args.number = search rules in
    let after = follows old new c.in-Ok.ensures.reads.follows in
    let begun = rw (← c.trees.view_is) at c.requires in
    rw (← c.trees.view_is) (record {
      ok = λ clean.
          sets_no_digest old new refl c.args.number c.args.digest.now (simp to_z-of_z at (rw c.in_default.is at (c.in-Ok.ensures.found clean)))
          (stays_inside old new (c.in-Ok.ensures.reads.same clean) (begun (clean_before old new after clean)).mode);
      err = λ clean. tt;
      follows = after;
    })

pub returns-in-Ok-put : goal.returns-in-Ok-put
returns-in-Ok-put g c =
    let old = state ledger_schema g.S.Store c.trees.inside.tables in
    let mid = state ledger_schema g.S.Store c.find_at.new.self in
    let new = state ledger_schema g.S.Store c.put.new.self in
    let fits : SFits w64 c.args.number = search rules in
    let first = follows old mid c.in-Ok.ensures.reads.follows in
    let second = follows mid new c.in-Ok-put.ensures.follows in
    let name = string_bytes c.in-Some.entry.name in
    rw (← c.trees.view_is) (record {
      ok = λ clean.
          let before = clean_before mid new second clean in
          sets_digest old new refl c.args.number c.in-Some.field-0-0 name c.in-Some.entry.digest c.args.digest.now (simp to_z-of_z at (rw c.in-Some.is at (c.in-Ok.ensures.found before)))
          (put_after old mid new ledger_keys tenant_tree (Int c.args.number ∷ tenant_columns name c.args.digest.now) (c.in-Ok.ensures.reads.same before) (simp to_z-of_z at (c.in-Ok-put.ensures.ok clean)));
      err = λ clean. tt;
      follows = follows_then old mid new first second;
    })
