use Rattle.std.proofs.Common.{map}
use Rattle.clap.specs.Words.{app_of, found_of, rows_of}
use Rattle.command_line.proofs.Outcomes.{refusal_told, filled, no_command, one_command, stated}
use Rattle.command_line.proofs.read.command.Goals as goal

pub returns-in_err-matches-clause-refused : goal.returns-in_err-matches-clause-refused
returns-in_err-matches-clause-refused g c =
    refusal_told _ c.from_residual-in_err-matches.result (app_of c.in_ok-ledgerd_command.field-0) (map g.S.AsStr.text c.args.words.now) c.in_err-matches.field-0.0
    c.in_ok-ledgerd_command.ensures.0 c.in_err-matches.ensures.kinds c.from_residual-in_err-matches.ensures.1

pub returns-in-None-clause-ok : goal.returns-in-None-clause-ok
returns-in-None-clause-ok g c =
    let words = map g.S.AsStr.text c.args.words.now in
    let m = c.in_ok-matches.matches in
    let s = stated (app_of c.in_ok-ledgerd_command.field-0) words m c.in_ok-ledgerd_command.ensures.0 c.in_ok-matches.ensures.kinds c.in_ok-matches.ensures.matches in
    no_command words m s c.in-None.ensures.variant

pub named-requires : goal.named-requires
named-requires g c =
    let words = map g.S.AsStr.text c.args.words.now in
    let m = c.in_ok-matches.matches in
    let s = stated (app_of c.in_ok-ledgerd_command.field-0) words m c.in_ok-ledgerd_command.ensures.0 c.in_ok-matches.ensures.kinds c.in_ok-matches.ensures.matches in
    filled words m c.in-Some.name.now (rows_of (found_of c.in-Some.values.now)) s c.in-Some.ensures.name c.in-Some.ensures.rows

pub returns-clause-ok : goal.returns-clause-ok
returns-clause-ok g c =
    let words = map g.S.AsStr.text c.args.words.now in
    let m = c.in_ok-matches.matches in
    let s = stated (app_of c.in_ok-ledgerd_command.field-0) words m c.in_ok-ledgerd_command.ensures.0 c.in_ok-matches.ensures.kinds c.in_ok-matches.ensures.matches in
    one_command words m c.in-Some.name.now (rows_of (found_of c.in-Some.values.now)) c.named.result s c.in-Some.ensures.name c.in-Some.ensures.rows c.named.ensures
