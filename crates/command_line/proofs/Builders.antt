-- What adding an argument or a subcommand makes of a command.
use Rattle.std.proofs.Common.{◌∙◌, ◌||◌, ap, ap₂}
use Rattle.std.specs.Prelude.{Err, IfOk, Ok, Result}
use Rattle.clap.specs.Words.{AddsArg, AddsSubcommand, App, Rule, Shape, with_rule, with_subcommand}
use Rattle.clap.specs.declared.builder.arg.Arg.{Arg}
use Rattle.clap.specs.declared.builder.command.Command.{Command}
use Rattle.command_line.specs.Built.{HasArg, HasCommand, IsLeaf, IsLocalArg, IsProgram}

pub with_arg : (app : App) (rule : Rule) (old new : Command) (a : Arg) → IsProgram app old → IsLocalArg rule a → AddsArg old a new → IsProgram (with_rule app rule) new
with_arg app rule old new a is local adds =
    (adds.shape local.1 ∙ ap₂ with_rule is.0 local.0, adds.globals ∙ ap₂ (λ x y. x || y) is.1 local.1)

pub with_command : (app : App) (shape : Shape) (old new sub : Command) → IsProgram app old → IsLeaf shape sub → AddsSubcommand old sub new → IsProgram (with_subcommand app shape) new
with_command app shape old new sub is leaf adds =
    (adds.shape leaf.1 ∙ ap₂ with_subcommand is.0 leaf.0, adds.globals ∙ ap₂ (λ x y. x || y) is.1 leaf.1)

pub as_leaf : (app : App) (c : Command) → IsProgram app c → IsLeaf app.top c
as_leaf app c is = (ap (λ (a : App). a.top) is.0, is.1)

-- the same where each of them may have failed

pub arg_joined : {E : Type 0} (app : App) (rule : Rule) (old new : Result Command E) (a : Arg) → IfOk old (IsProgram app) → IsLocalArg rule a → IfOk new (HasArg old a) → IfOk new (IsProgram (with_rule app rule))
arg_joined app rule old (Err e) a is local adds = tt
arg_joined app rule (Ok old) (Ok new) a is local adds = with_arg app rule old new a is local adds
arg_joined app rule (Err e) (Ok new) a is local adds = absurd adds

pub command_joined : {E : Type 0} (app : App) (shape : Shape) (old new sub : Result Command E) → IfOk old (IsProgram app) → IfOk sub (IsLeaf shape) → IfOk new (HasCommand old sub) → IfOk new (IsProgram (with_subcommand app shape))
command_joined app shape old (Err e) sub is leaf adds = tt
command_joined app shape (Ok old) (Ok new) (Ok sub) is leaf adds = with_command app shape old new sub is leaf adds
command_joined app shape (Ok old) (Ok new) (Err e) is leaf adds = absurd adds
command_joined app shape (Err e) (Ok new) sub is leaf adds = absurd adds

pub leaf_joined : {E : Type 0} (app : App) (c : Result Command E) → IfOk c (IsProgram app) → IfOk c (IsLeaf app.top)
leaf_joined app (Ok c) is = as_leaf app c is
leaf_joined app (Err e) is = tt
