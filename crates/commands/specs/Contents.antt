-- What is in a ledger file, as a line says it.
use Rattle.std.specs.Prelude.{ℕ, List, [], ◌∷◌, ◌++◌, codes}
use Rattle.std.specs.Fmt.{decimal}
use Rattle.commands.specs.declared.contents.Contents.{Contents}

-- each number behind its name
abbrev pub contents_line : Contents → List ℕ
contents_line contents =
    codes "tenants " ++ decimal contents.tenants
    ++ codes " accounts " ++ decimal contents.accounts
    ++ codes " transfers " ++ decimal contents.transfers
    ++ codes " clock " ++ decimal contents.clock
    ++ 10 ∷ []
