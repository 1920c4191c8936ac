use Rattle.std.proofs.Common.{◌≡◌, true, false, refl, rules, tests}
use Rattle.std.specs.List.{list_all}
use Rattle.json.specs.Lex.{tokens}
use Rattle.json.specs.Value.{value_view}
use Rattle.wire.specs.Trees.{fits}
use Rattle.wire.proofs.Trees.{read_bad, read_good}
use Rattle.wire.proofs.tree.read_text.Goals as goal

pub returns-then-not-branch-clause-err : goal.returns-then-not-branch-clause-err
returns-then-not-branch-clause-err c =
    let bad : list_all fits (tokens c.args.text.now) ≡ false = search (rules, tests) in
    λ _. (refl, read_bad c.args.text.now bad)

pub returns-in-None-clause-ok : goal.returns-in-None-clause-ok
returns-in-None-clause-ok c =
    let good : list_all fits (tokens c.args.text.now) ≡ true = search (rules, tests) in
    read_good c.args.text.now c.in_ok-reader.reader c.in_ok-reader.ensures.ok
    (value_view c.in-Ok.value) c.read.new.reader c.in-Ok.ensures.ok c.in-None.ensures.value.0 good
