use Rattle.commands.proofs.renewing.open_anew.Goals as goal

pub returns-in-Ok-clause-settled : goal.returns-in-Ok-clause-settled
returns-in-Ok-clause-settled g c =
    c.is_settled.ensures.settled

pub returns-in-Ok-clause-anew : goal.returns-in-Ok-clause-anew
returns-in-Ok-clause-anew g c =
    (c.take_files-left.result, c.take_files-left.ensures.files, c.in-Ok.ensures.opens)

pub returns-clause-given_up : goal.returns-clause-given_up
returns-clause-given_up g c = record {
  files = c.take_files-left.result;
  given = c.take_files-left.ensures.files;
  fault = c.in-Err.fault;
  found = c.in-Err.ensures.fault;
  told = c.in-Err.ensures.refuses;
}
