use Rattle.std.proofs.Common.{◌∙◌, List, ℕ, get_or, drop, ap}
use Rattle.std.proofs.lemmas.List.{get_or-take, get_or-drop}
use Rattle.noting_disk.proofs.head.salt_in.Goals as goal

pub returns : goal.returns
returns c i below =
    ap (λ (l : List ℕ). get_or l i 0) c.copy_from_slice.ensures.after
    ∙ get_or-take 8 (drop 15 c.args.bytes.now) i 0 below ∙ get_or-drop 15 c.args.bytes.now i 0
