use Rattle.whole_runs.proofs.named_book.NamedBookReopening.is_settled.Goals as goal

pub returns : goal.returns
returns c = record {
  machines = λ live found keeps. keeps;
  names = λ live found keeps. keeps;
  named = λ live. live.1;
}
