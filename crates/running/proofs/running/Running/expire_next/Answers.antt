use Rattle.std.proofs.Common.{refl, sym, ap, ◌∙◌}
use Rattle.std.specs.Option.{is_some}
use Rattle.rows.specs.Settling.{rows_released}
use Rattle.running.proofs.Released.{release_found, release_of, one_released, still_releasing, none_due}
use Rattle.running.proofs.running.Running.expire_next.Goals as goal

pub returns-in_default-clause-all : goal.returns-in_default-clause-all
returns-in_default-clause-all c m done is =
    let none = rw c.in_default.is at c.in_ok-id.ensures.none in
    let got = none (rows_released m done).statuses is.agrees.statuses in
    (still_releasing m c.args.clock done c.args.self.now _ is got.0 refl refl refl, none_due m c.args.clock done c.args.self.now is got.1)

pub unwrap-transfer-requires : goal.unwrap-transfer-requires
unwrap-transfer-requires c =
    let m = c.requires.0 in
    let done = c.requires.1 in
    let is = c.requires.2 in
    let expired = rw c.in-Some.is at c.in_ok-id.ensures.expired in
    let got = expired (rows_released m done).statuses is.agrees.statuses in
    let n = release_found c.clock_rows.ensures.next m c.args.clock done c.in-Some.id c.args.self.now is (record { row = got.0; found = got.1; due = got.2 }) in
    ap is_some (c.get.ensures (rows_released m done).transfers is.agrees.transfers ∙ n.1)

pub release_from-requires : goal.release_from-requires
release_from-requires c =
    let m = c.requires.0 in
    let done = c.requires.1 in
    let is = c.requires.2 in
    let expired = rw c.in-Some.is at c.in_ok-id.ensures.expired in
    let got = expired (rows_released m done).statuses is.agrees.statuses in
    let r = release_of c.clock_rows.ensures.next m c.args.clock done c.in-Some.id c.args.self.now c.unwrap-transfer.result is (record { row = got.0; found = got.1; due = got.2 }) (sym (c.get.ensures (rows_released m done).transfers is.agrees.transfers) ∙ c.unwrap-transfer.ensures) in
    (r.debit, r.credit, r.has_debit, r.has_credit, r.next.debit_holds, r.next.credit_holds)

pub returns-clause-more : goal.returns-clause-more
returns-clause-more c m done is =
    let rows = rows_released m done in
    let id = c.in-Some.id in
    let expired = rw c.in-Some.is at c.in_ok-id.ensures.expired in
    let got = expired rows.statuses is.agrees.statuses in
    let t = c.unwrap-transfer.result in
    let found = sym (c.get.ensures rows.transfers is.agrees.transfers) ∙ c.unwrap-transfer.ensures in
    let r = release_of c.clock_rows.ensures.next m c.args.clock done id c.args.self.now t is (record { row = got.0; found = got.1; due = got.2 }) found in
    let accounts = c.in_ok-release_from.ensures rows.accounts rows.balances r.debit r.credit is.agrees.accounts r.has_debit r.has_credit in
    (id, one_released m c.args.clock done id t c.args.self.now _ is (record { row = got.0; found = got.1; due = got.2 }) r got.3 accounts refl refl)
