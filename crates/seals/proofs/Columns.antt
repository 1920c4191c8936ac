-- Pieces that a hasher is fed with are the text that they make.
use Rattle.std.proofs.Common.{◌≡◌, ℕ, List, [], ◌∷◌, ◌++◌, append_assoc, append-nil, sym, ◌∙◌}
use Rattle.std.specs.List.{concat}

abbrev pub after : List ℕ → List (List ℕ) → List ℕ
after m [] = m
after m (column ∷ columns) = after (m ++ column) columns

pub after-is : (m : List ℕ) (columns : List (List ℕ)) → after m columns ≡ m ++ concat columns
after-is m [] = sym (append-nil m)
after-is m (column ∷ columns) = after-is (m ++ column) columns ∙ append_assoc m column (concat columns)
