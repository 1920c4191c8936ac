use Rattle.std.proofs.Common.{refl}
use Rattle.std.specs.Fmt.{digits}
use Rattle.console.specs.Page.{page_text}
use Rattle.console.proofs.reply.page_reply.Goals as goal

pub returns-clause-text : goal.returns-clause-text
unfolding page_text digits
returns-clause-text c = refl

pub returns-clause-length : goal.returns-clause-length
unfolding page_text digits
returns-clause-length c = refl
