use Rattle.std.proofs.Common.{subst}
use Rattle.ledger_http.specs.Progress.{IsLooked}
use Rattle.ledger_http.proofs.ProgressLemmas.{IsWhole-body, IsShort-body, IsShort-head}
use Rattle.ledger_http.proofs.inbox.whole_size.Goals as goal

pub returns-in_default-clause-short : goal.returns-in_default-clause-short
returns-in_default-clause-short c =
    IsShort-head c.args.bytes.now (subst (IsLooked c.args.bytes.now) c.in_default.is c.requires)

pub returns-then-head-size-clause-whole : goal.returns-then-head-size-clause-whole
returns-then-head-size-clause-whole c =
    IsWhole-body c.args.bytes.now c.in-Body.head c.in-Body.size
    (subst (IsLooked c.args.bytes.now) c.in-Body.is c.requires) c.if-head-size.true

pub returns-else-head-size-clause-short : goal.returns-else-head-size-clause-short
returns-else-head-size-clause-short c =
    IsShort-body c.args.bytes.now c.in-Body.head c.in-Body.size
    (subst (IsLooked c.args.bytes.now) c.in-Body.is c.requires) c.if-head-size.false
