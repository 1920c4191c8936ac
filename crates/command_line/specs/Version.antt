-- What `--version` and `version` print.
use Rattle.std.specs.Prelude.{ℕ, List, [], ◌∷◌, ◌++◌, codes}

-- the versions of the program and of the schema, and the toolchain's program logic
abbrev pub version_text : List ℕ
version_text =
    codes "ledgerd 0.1.0" ++ 10 ∷ codes "schema 3"
    ++ 10 ∷ codes "rattle logic dac8208d650f15bf" ++ 10 ∷ []
