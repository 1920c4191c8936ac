use Rattle.std.proofs.Common.{◌≡◌, ◌++◌, Some, rules, string_bytes, subst, sym}
use Rattle.std.specs.Prelude.{option_map}
use Rattle.std.specs.Map.Iter.{deref_pair}
use Rattle.std.proofs.lemmas.Map.Iter.{rest_more}
use Rattle.serde_json.specs.View.{members_view, view}
use Rattle.control.specs.Counting.{line_in, lines_in}
use Rattle.control.proofs.Lines.{counted_more}
use Rattle.control.proofs.counting.lines_in.Goals as goal

pub loop-name-preserved : goal.loop-name-preserved
loop-name-preserved c =
    let rest = c.next.new.self in
    let all = lines_in c.args.form (members_view c.args.counts.now.entries) in
    let here = rest_more deref_pair c.loop-name.name-iterator rest c.next.result _ c.in-Some.is c.next.ensures.steps in
    let line : line_in c.args.form (string_bytes c.in-Some.name.now) (view c.in-Some.value.now) ≡ Some (string_bytes c.in_ok-line_in.field-0) = search rules in
    let text : string_bytes c.push_str.new.self ≡ string_bytes c.loop-name.lines ++ string_bytes c.in_ok-line_in.field-0 = search rules in (
      tt,
      tt,
      subst (λ t. option_map (λ more. t ++ more) (lines_in c.args.form (members_view rest)) ≡ all) (sym text)
          (counted_more c.args.form all _ _ _ _ _ _ here line c.loop-name.invariant.2),
    )
