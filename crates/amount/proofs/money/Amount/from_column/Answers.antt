use Rattle.std.proofs.Common.{◌≢◌, ◌<◌, ◌^◌, length, Ok, sym, ap, ◌∙◌, rules}
use Rattle.amount.specs.Column.{column_of}
use Rattle.amount.proofs.Bytes.{be_bytes_16}
use Rattle.amount.proofs.Columns.{length-column_of, column_of-injective}
use Rattle.amount.proofs.money.Amount.from_column.Goals as goal

pub returns-clause-ok : goal.returns-clause-ok
unfolding column_of
returns-clause-ok c = sym (be_bytes_16 c.args.column.now _ (search rules) (search rules) (search rules))

pub returns-clause-undoes : goal.returns-clause-undoes
returns-clause-undoes c = λ a small is.
    let fits : c.new.result < 2 ^ 128 = search rules in
    ap Ok (column_of-injective c.new.result a fits small (sym (returns-clause-ok c) ∙ is))

pub returns-in_err-bytes-clause-undoes : goal.returns-in_err-bytes-clause-undoes
returns-in_err-bytes-clause-undoes c = λ a small is.
    let other : length c.args.column.now ≢ 16 = search rules in
    absurd (other (ap length is ∙ length-column_of a))
