use Rattle.std.proofs.Common.{◌≡◌, ◌∙◌, ◌++◌, length, List, ℕ, take, sym, ap, rules, take-append-drop}
use Rattle.std.proofs.lemmas.List.{take_at}
use Rattle.file_sums.proofs.bytes.behind.Goals as goal

pub returns-then-are_same : goal.returns-then-are_same
returns-then-are_same c =
    let cut = c.in_ok-front.ensures.cases in
    let same : c.in_ok-front.front.now ≡ c.args.first.now = search rules in
    let joined : c.in_ok-front.front.now ++ c.in_ok-front.rest.now ≡ c.args.bytes.now =
    (λ i. cut.1 i ++ cut.2 i) ∙ take-append-drop (length c.args.first.now) c.args.bytes.now in
    sym joined ∙ ap (λ (l : List ℕ). l ++ c.in_ok-front.rest.now) same

pub returns-else-are_same : goal.returns-else-are_same
returns-else-are_same c rest split =
    let cut = c.in_ok-front.ensures.cases in
    let same : c.in_ok-front.front.now ≡ c.args.first.now =
    cut.1 ∙ ap (λ (l : List ℕ). take (length c.args.first.now) l) split ∙ take_at c.args.first.now rest (length c.args.first.now) (search rules) in
    search (rules, same)
