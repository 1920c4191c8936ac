use Rattle.engine.proofs.BooksBalance.{books_balance}
use Rattle.engine.proofs.Sound.{sound}
use Rattle.engine.proofs.laws.books_balance.Goals as goal

pub returns : goal.returns
returns c m valid ledger = books_balance m ledger (sound m valid)
