-- The command line as `clap`'s rules see it.
use Rattle.std.specs.Prelude.{ℕ, List, Some, codes, pos, true, ◌++◌, ◌∷◌, []}
use Rattle.clap.specs.Words.{App, Rule, Shape, Text, new_app, new_rule, with_subcommand}
use Rattle.clap.specs.declared.builder.action.ArgAction.TheVariants.{SetTrue}
use Rattle.clap.specs.declared.builder.value_parser.ValueParser.{ValueParser}
use Rattle.clap.specs.declared.builder.value_parser.ValueParser.TheVariants.{Signed, Unsigned}

-- `--name VALUE`, which its command must have
abbrev pub text_rule : Text → Rule
text_rule name = record (new_rule name) { long = Some name; value_names = 1; required = true }

-- a port, below 2^16
abbrev pub ports : ValueParser
ports = Signed (pos 0) (pos 65535)

-- the option that names the port, which its command must have
abbrev pub port_rule : Rule
port_rule = record (text_rule (codes "port")) { parser = Some ports }

-- `--name`, which may be left out
abbrev pub flag_rule : Text → Rule
flag_rule name = record (new_rule name) { long = Some name; action = Some SetTrue }

-- `--name VALUE`, which may be left out
abbrev pub option_rule : Text → Rule
option_rule name = record (new_rule name) { long = Some name; value_names = 1 }

-- `--name N`, a number within bounds, which may be left out
abbrev pub limit_rule : Text → ℕ → ℕ → Rule
limit_rule name least most = record (option_rule name) { parser = Some (Unsigned least most) }

-- how many replies there are to be, which may be left out
abbrev pub requests_rule : Rule
requests_rule = limit_rule (codes "requests") 0 18446744073709551615

-- the option that names the file of the store
abbrev pub db_rule : Rule
db_rule = text_rule (codes "db")

-- a subcommand with the store's file and these options
abbrev pub over_store : Text → List Rule → Shape
over_store name rules = record (new_app name).top { rules = db_rule ∷ rules }

-- a command with the store's file alone, before other options are added
abbrev pub store_app : Text → App
store_app name = record (new_app name) { top = over_store name [] }

-- where to serve, and how long: a port, an address, how many requests to answer, and whether it waits for the file
abbrev pub serve_rules : List Rule
serve_rules = port_rule ∷ option_rule (codes "address") ∷ requests_rule
    ∷ flag_rule (codes "standby") ∷ []

abbrev pub counted_serve_app : App
counted_serve_app = record (new_app (codes "serve")) { top = over_store (codes "serve") serve_rules }

-- the limits: clients, megabytes for long messages, and seconds
abbrev pub limit_rules : List Rule
limit_rules = limit_rule (codes "clients") 1 100_000 ∷ limit_rule (codes "room") 3 65_536
    ∷ limit_rule (codes "idle") 1 86_400 ∷ limit_rule (codes "message") 1 3_600
    ∷ limit_rule (codes "reply") 1 3_600 ∷ []

-- serve: all of these
abbrev pub serve_shape : Shape
serve_shape = over_store (codes "serve") (serve_rules ++ limit_rules)

-- a command about a tenant, such as tenant-add and tenant-key: its name, and its key if it is not to be drawn
abbrev pub tenant_rules : List Rule
tenant_rules = text_rule (codes "name") ∷ option_rule (codes "key") ∷ []

abbrev pub tenant_shape : Text → Shape
tenant_shape name = over_store name tenant_rules

-- tenants: nothing but the file
abbrev pub tenants_shape : Shape
tenants_shape = over_store (codes "tenants") []

-- status: in which form
abbrev pub status_shape : Shape
status_shape = over_store (codes "status") (flag_rule (codes "prometheus") ∷ [])

-- stop: nothing but the file
abbrev pub stop_shape : Shape
stop_shape = over_store (codes "stop") []

-- what a statement must have, a tenant and its account, and whether the newest come first
abbrev pub whole_statement_rules : List Rule
whole_statement_rules = text_rule (codes "tenant") ∷ text_rule (codes "account")
    ∷ flag_rule (codes "reversed") ∷ []

abbrev pub whole_statement_app : App
whole_statement_app = record (new_app (codes "statement")) {
  top = over_store (codes "statement") whole_statement_rules;
}

-- statement: this, the bounds of a period, what else is told, and in which form
abbrev pub statement_rules : List Rule
statement_rules = whole_statement_rules ++ option_rule (codes "from") ∷ option_rule (codes "to")
    ∷ flag_rule (codes "balances") ∷ flag_rule (codes "wide") ∷ option_rule (codes "format") ∷ []

abbrev pub statement_shape : Shape
statement_shape = over_store (codes "statement") statement_rules

-- check: nothing but the file
abbrev pub check_shape : Shape
check_shape = over_store (codes "check") []

-- migrate: the version to come to
abbrev pub migrate_shape : Shape
migrate_shape = over_store (codes "migrate") (text_rule (codes "to") ∷ [])

-- copy: where to
abbrev pub copy_shape : Shape
copy_shape = over_store (codes "copy") (text_rule (codes "to") ∷ [])

-- lint: the route on which a body is judged
abbrev pub lint_shape : Shape
lint_shape = record (new_app (codes "lint")).top { rules = option_rule (codes "route") ∷ [] }

-- version: nothing
abbrev pub version_shape : Shape
version_shape = (new_app (codes "version")).top

-- the program without its subcommands, with `--version`; the words are those after its name
abbrev pub program : App
program = record (new_app (codes "ledgerd")) {
  top = record (new_app (codes "ledgerd")).top { no_binary_name = true; has_version = true };
}

-- the whole command line
unfoldable pub ledgerd_app : App
ledgerd_app =
    with_subcommand
    (with_subcommand
    (with_subcommand
    (with_subcommand
    (with_subcommand
    (with_subcommand
    (with_subcommand
    (with_subcommand
    (with_subcommand
    (with_subcommand
    (with_subcommand
    (with_subcommand program serve_shape) (tenant_shape (codes "tenant-add"))) (tenant_shape (codes "tenant-key")))
    tenants_shape) status_shape) stop_shape) statement_shape) check_shape) migrate_shape) copy_shape) lint_shape)
    version_shape
