use Rattle.command_line.proofs.Named.{fills_serve}
use Rattle.command_line.proofs.read.over_store.Goals as goal

pub serve-requires-clause-filled : goal.serve-requires-clause-filled
serve-requires-clause-filled c = fills_serve _ _ c.requires.filled c.in-serve.is
