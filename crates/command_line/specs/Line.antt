-- Which command a line is.
use Rattle.std.specs.Prelude.{List, [], Option, Some, None, ◌≡◌, ◌-◌, ◌^◌, codes}
use Rattle.clap.specs.declared.error.kind.ErrorKind.TheVariants.{DisplayVersion}
use Rattle.clap.specs.Words.{IsAmong, Row, Text, fault_of, kind_of, subcommand_of}
use Rattle.command_line.specs.Ledgerd.{ledgerd_app}
use Rattle.command_line.specs.Values.{HasFreeNumber, HasFreeText, HasNumber, HasNumberOr}
use Rattle.command_line.specs.Values.{HasText, has_flag, text_in}
use Rattle.command_line.specs.declared.commands.Command.{Command}
use Rattle.command_line.specs.declared.commands.LimitWords.{LimitWords}
use Rattle.command_line.specs.declared.commands.StatementWords.{StatementWords}
use Rattle.command_line.specs.declared.commands.Command.TheVariants as command
use Rattle.command_line.specs.declared.fault.LineFault.{LineFault}
use Rattle.command_line.specs.declared.fault.LineFault.TheVariants.{Refused, Version, Memory}

-- what is asked of a statement, each from the option of its own name
pub record SpellsStatement (rows : List Row) (asked : StatementWords) : Type 0 where
  pub reversed : asked.reversed ≡ has_flag rows (codes "reversed")
  pub from : HasFreeText rows (codes "from") (text_in asked.from)
  pub to : HasFreeText rows (codes "to") (text_in asked.to)
  pub balances : asked.balances ≡ has_flag rows (codes "balances")
  pub wide : asked.wide ≡ has_flag rows (codes "wide")
  pub format : HasFreeText rows (codes "format") (text_in asked.format)

-- the limits, each from the option of its own name
pub record SpellsLimits (rows : List Row) (limits : LimitWords) : Type 0 where
  pub clients : HasFreeNumber rows (codes "clients") limits.clients
  pub room : HasFreeNumber rows (codes "room") limits.room
  pub idle : HasFreeNumber rows (codes "idle") limits.idle
  pub message : HasFreeNumber rows (codes "message") limits.message
  pub reply : HasFreeNumber rows (codes "reply") limits.reply

-- the command has the subcommand's name, and each value from the option of its own name
abbrev pub Spells : Text → List Row → Command → Type 0
Spells name rows command.Lists = ⊥
Spells name rows (command.Serve db address port requests standby limits) = (name ≡ codes "serve")
    × HasText rows (codes "db") db.now
    × HasFreeText rows (codes "address") (text_in address)
    × HasNumber rows (codes "port") port
    × HasNumberOr rows (codes "requests") (2 ^ 64 - 1) requests
    × (standby ≡ has_flag rows (codes "standby"))
    × SpellsLimits rows limits
Spells name rows (command.AddTenant db tenant key) = (name ≡ codes "tenant-add")
    × HasText rows (codes "db") db.now
    × HasText rows (codes "name") tenant.now
    × HasFreeText rows (codes "key") (text_in key)
Spells name rows (command.ChangeKey db tenant key) = (name ≡ codes "tenant-key")
    × HasText rows (codes "db") db.now
    × HasText rows (codes "name") tenant.now
    × HasFreeText rows (codes "key") (text_in key)
Spells name rows (command.Tenants db) = (name ≡ codes "tenants")
    × HasText rows (codes "db") db.now
Spells name rows (command.Status db prometheus) = (name ≡ codes "status")
    × HasText rows (codes "db") db.now
    × (prometheus ≡ has_flag rows (codes "prometheus"))
Spells name rows (command.Stop db) = (name ≡ codes "stop")
    × HasText rows (codes "db") db.now
Spells name rows (command.Statement db tenant account asked) = (name ≡ codes "statement")
    × HasText rows (codes "db") db.now
    × HasText rows (codes "tenant") tenant.now
    × HasText rows (codes "account") account.now
    × SpellsStatement rows asked
Spells name rows (command.Check db) = (name ≡ codes "check")
    × HasText rows (codes "db") db.now
Spells name rows (command.Migrate db to) = (name ≡ codes "migrate")
    × HasText rows (codes "db") db.now
    × HasText rows (codes "to") to.now
Spells name rows (command.Copy db to) = (name ≡ codes "copy")
    × HasText rows (codes "db") db.now
    × HasText rows (codes "to") to.now
Spells name rows (command.Lint route) = (name ≡ codes "lint")
    × HasFreeText rows (codes "route") (text_in route)
Spells name rows command.Version = name ≡ codes "version"

-- the command of the subcommand that `clap` met, with its values, or the run over lists
abbrev pub IsOf : Option (Text × List Row) → Command → Type 0
IsOf None c = c ≡ command.Lists
IsOf (Some met) c = Spells met.0 met.1 c

-- `clap` takes the words, and the command is what it states for them
pub record IsCommandOf (words : List Text) (c : Command) : Type 0 where
  pub taken : fault_of ledgerd_app words ≡ []
  pub stated : IsOf (subcommand_of ledgerd_app words) c

-- a refusal has a kind that `clap` states for the words, and so has a call for the version
abbrev pub IsFaultOf : List Text → LineFault → Type 0
IsFaultOf words (Refused error) = IsAmong (kind_of error) (fault_of ledgerd_app words)
IsFaultOf words Version = IsAmong DisplayVersion (fault_of ledgerd_app words)
IsFaultOf words Memory = Unit {0}
