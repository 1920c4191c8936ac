use Rattle.std.proofs.lemmas.Bool.{ne_eqb}
use Rattle.engine.proofs.ReleaseLemmas.{released, released_in}
use Rattle.engine.proofs.Sound.{sound}
use Rattle.engine.proofs.laws.release_is_without.Goals as goal

pub returns-clause-lists : goal.returns-clause-lists
returns-clause-lists c before after entry clock pends new opened differ = released before after entry clock pends new opened (ne_eqb entry.debit_account_id entry.credit_account_id differ)

pub returns-clause-valid : goal.returns-clause-valid
returns-clause-valid c m before after entry valid same pends opened = released_in m before after entry (sound m valid) same pends opened
