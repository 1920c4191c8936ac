-- The commit that a packaged program is built from. `build/packaged.py` writes it here too.
use Rattle.std.specs.Prelude.{ℕ, List, codes}

-- the line that names the commit: none in the repository
abbrev pub commit_line : List ℕ
commit_line = codes ""
