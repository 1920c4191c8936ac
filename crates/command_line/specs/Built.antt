-- What the functions that build the command line for `clap` make.
use Rattle.std.specs.Prelude.{◌≡◌, false, Result, IsOkAnd}
use Rattle.clap.specs.Words.{AddsArg, AddsSubcommand, App, Rule, Shape, app_of, rule_of, shape_of}
use Rattle.clap.specs.declared.builder.command.Command.TheViews.{out-Command as fields_of}
use Rattle.clap.specs.declared.builder.arg.Arg.{Arg}
use Rattle.clap.specs.declared.builder.command.Command.{Command}

-- an argument of one command alone, with this rule
abbrev pub IsLocalArg : Rule → Arg → Type 0
IsLocalArg rule a = (rule_of a ≡ rule) × (a.global ≡ false)

-- a command with this shape and no argument for its subcommands
abbrev pub IsLeaf : Shape → Command → Type 0
IsLeaf shape c = (shape_of c ≡ shape) × ((fields_of c).has_globals ≡ false)

-- the same of a command with its subcommands
abbrev pub IsProgram : App → Command → Type 0
IsProgram app c = (app_of c ≡ app) × ((fields_of c).has_globals ≡ false)

-- what an argument more makes of a command, where that was made
abbrev pub HasArg : {E : Type 0} → Result Command E → Arg → Command → Type 0
HasArg old a new = IsOkAnd old (λ c. AddsArg c a new)

-- what a subcommand more makes of a command, where both were made
abbrev pub HasCommand : {E : Type 0} → Result Command E → Result Command E → Command → Type 0
HasCommand old sub new = IsOkAnd old (λ c. IsOkAnd sub (λ s. AddsSubcommand c s new))
